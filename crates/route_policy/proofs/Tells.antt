-- What is told of a route.
use Rattle.std.proofs.Common.{length-drop, ◌≡◌, ℕ, true, Option, ◌+◌, ◌<◌, length, arith, List, map, take, drop, ◌++◌, get_or, set, refl, ap, ◌∙◌}
use Rattle.std.proofs.lemmas.List.Edits.{map_over_more}
use Rattle.std.proofs.lemmas.List.{length-take, length-append, length-map}
use Rattle.std.specs.Option.{is_none}
use Rattle.bgp_types.specs.declared.attrs.RawAttr.{RawAttr}
use Rattle.bgp_types.specs.declared.attrs.Route.{Route}
use Rattle.route_policy.specs.Telling.{made_partial, without_med}
use Rattle.route_policy.proofs.PolicyLemmas.{none_is}

-- a route that has no MED is that route without it
pub without_none : (route : Route) → is_none route.attrs.med ≡ true → route ≡ without_med route
without_none route none = ap (λ (med : Option ℕ). record route { attrs = record route.attrs { med = med } }) (none_is route.attrs.med none)

-- one more attribute passes on
pub partial_more : (xs ys : List RawAttr) (i : ℕ) (x : RawAttr) → i < length xs → ys ≡ map made_partial (take i xs) ++ drop i xs → x ≡ get_or ys i x
    → set ys i (record { kind = (get_or ys i x).kind; partial = true; bytes = (get_or ys i x).bytes }) ≡ map made_partial (take (i + 1) xs) ++ drop (i + 1) xs
partial_more xs ys i x below is read =
    let same : record { kind = (get_or ys i x).kind; partial = true; bytes = (get_or ys i x).bytes } ≡ made_partial x = rw (← read) refl in
    ap (set ys i) same ∙ map_over_more made_partial xs ys i x below is read

-- no attribute is lost
pub partial_length : (xs ys : List RawAttr) (i : ℕ) → ys ≡ map made_partial (take i xs) ++ drop i xs → length ys ≡ length xs
partial_length xs ys i is =
    rw is (omega (arith, length-append (map made_partial (take i xs)) (drop i xs), length-map (take i xs) made_partial, length-take i xs, length-drop i xs))
