-- How many places are taken.
use Rattle.std.proofs.Common.{◌≡◌, ℕ, List, [], ◌∷◌, length, map, filter, Bool, true, false, refl, sym, ap, ◌∙◌, arith}
use Rattle.std.specs.Prelude.{if◌then◌else◌, count_by}
use Rattle.std.specs.List.{range_with_len}
use Rattle.std.proofs.lemmas.List.FromFn.{fill_by_all}
use Rattle.std.proofs.lemmas.List.Sums.{length-filter}
use Rattle.graft_model.specs.GraftRows.{is_taken, taken_in}
use Rattle.graft_model.specs.Setups.{peerings_in}
use Rattle.audit_router.specs.Parts.{RouterInvariant, router_part, setup_of_router}
use Rattle.audit_router.specs.Places.{place_at, place_of}
use Rattle.audit_router.specs.declared.place.Place.{Place}
use Rattle.audit_router.specs.declared.place.Place.TheVariants.{Vacant}
use Rattle.audit_router.specs.declared.router.AuditedRouter.{AuditedRouter}

module _ {X : Type 0} (f : ℕ → X) (test : X → Bool) where
  same_length : (ns : List ℕ) → length (filter test (map f ns)) ≡ length (filter (λ n. test (f n)) ns)
  same_length [] = refl
  same_length (n ∷ ns) = one (test (f n)) (filter test (map f ns)) (filter (λ m. test (f m)) ns) (same_length ns)
    where
      one : (b : Bool) (xs : List X) (ms : List ℕ) → length xs ≡ length ms → length (if b then f n ∷ xs else xs) ≡ length (if b then n ∷ ms else ms)
      one true xs ms e = omega (arith, e)
      one false xs ms e = e

abbrev pub held : Place → Bool
held place = is_taken (place_of place)

pub taken_is : (r : AuditedRouter) → RouterInvariant r → count_by held r.places.items ≡ taken_in (setup_of_router r) (router_part r)
taken_is r k =
    let places = r.places.items in
    sym (length-filter held places)
    ∙ ap (λ (xs : List Place). length (filter held xs)) (fill_by_all (place_at places) places (peerings_in (setup_of_router r)) Vacant k.all (λ p there. refl))
    ∙ same_length (place_at places) held (range_with_len 0 (peerings_in (setup_of_router r)))
