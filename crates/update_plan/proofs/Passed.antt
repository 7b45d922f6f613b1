-- What is to be told of a plain best route that passes on.
use Rattle.std.proofs.Common.{◌≡◌, ℕ, List, [], Option, Some, None, Bool, false, ap, ◌∙◌, arith}
use Rattle.std.specs.Prelude.{map, unwrap_or, if◌then◌else◌}
use Rattle.bgp_types.specs.declared.attrs.Attrs.{Attrs}
use Rattle.bgp_types.specs.declared.attrs.RawAttr.{RawAttr}
use Rattle.bgp_types.specs.declared.attrs.Route.{Route}
use Rattle.bgp_types.specs.Prefixes.{PrefixValue}
use Rattle.route_policy.specs.declared.best.Best.{Best}
use Rattle.route_policy.specs.declared.rule.Rule.{Rule}
use Rattle.route_policy.specs.Paths.{prepend}
use Rattle.route_policy.specs.Policies.{policy}
use Rattle.route_policy.specs.Telling.{OutSide, tell_out, is_kept_back, exported, told_attrs, told_where_it_fits, is_too_long, without_med, made_partial}
use Rattle.update_plan.specs.Passing.{IsPlain, passed_on}
use Rattle.update_plan.proofs.Plain.{plain_fits}

told_same : (home_as : ℕ) (out : OutSide) (route : Route) → IsPlain route.attrs
    → told_attrs home_as out (without_med route) ≡ passed_on home_as out.local_address route.attrs
told_same home_as out route plain =
    ap (λ (l : List RawAttr).
    record route.attrs { path = prepend home_as route.attrs.path; next_hop = out.local_address; med = None; unknown = map made_partial l }) plain.known

where_it_fits : (home_as : ℕ) (out : OutSide) (prefix : PrefixValue) (route : Route) (told : Attrs) → told_attrs home_as out route ≡ told
    → is_too_long prefix told ≡ false → told_where_it_fits home_as out prefix (Some route) ≡ Some told
where_it_fits home_as out prefix route told is fits =
    ap (λ (a : Attrs). if is_too_long prefix a then None else Some a) is ∙ ap (λ (b : Bool). if b then None else Some told) fits

pub told_on : (home_as : ℕ) (out : OutSide) (prefix : PrefixValue) (best : Best) → out.export_rules ≡ None → is_kept_back out best ≡ false
    → IsPlain best.route.attrs
    → tell_out home_as out prefix (Some best) ≡ Some (passed_on home_as out.local_address best.route.attrs)
told_on home_as out prefix best free not_kept plain =
    ap (λ (b : Bool). if b then None else told_where_it_fits home_as out prefix (exported home_as out prefix best.route)) not_kept
    ∙ (ap (λ (rules : Option (List Rule)). told_where_it_fits home_as out prefix (policy (unwrap_or rules []) prefix home_as (without_med best.route))) free
    ∙ where_it_fits home_as out prefix (without_med best.route) (passed_on home_as out.local_address best.route.attrs)
    (told_same home_as out best.route plain) (plain_fits home_as out.local_address prefix best.route.attrs plain))

-- by its parts
pub passed_by : (told attrs : Attrs) (home_as local_address : ℕ) → told.next_hop ≡ local_address → told.med ≡ None → told.unknown ≡ []
    → told.origin ≡ attrs.origin → told.atomic ≡ attrs.atomic → told.aggregator ≡ attrs.aggregator
    → told.path ≡ prepend home_as attrs.path → told ≡ passed_on home_as local_address attrs
passed_by told attrs home_as local_address e f g h i j k = grind arith
