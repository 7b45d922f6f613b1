-- What an import policy makes of attributes.
use Rattle.std.proofs.Common.{◌≡◌, ℕ, Bool, false, List, [], Option, Some, None, sym, ap, ◌∙◌}
use Rattle.std.specs.Prelude.{unwrap_or, if◌then◌else◌}
use Rattle.bgp_types.specs.Prefixes.{PrefixValue}
use Rattle.bgp_types.specs.declared.attrs.Attrs.{Attrs}
use Rattle.route_policy.specs.Candidates.{SessionRoute, imported}
use Rattle.route_policy.specs.Policies.{policy}
use Rattle.route_policy.specs.Rules.{holds_as}
use Rattle.route_policy.specs.declared.rule.Rule.{Rule}

pub imported_is : (home_as : ℕ) (prefix : PrefixValue) (session : SessionRoute) (rules : Option (List Rule)) (remote_as : ℕ) (attrs copy : Attrs)
    → session.import_rules ≡ rules → session.remote_as ≡ remote_as → session.heard ≡ Some attrs → holds_as attrs.path home_as ≡ false → copy ≡ attrs
    → policy (unwrap_or rules []) prefix remote_as (record { attrs = copy; pref = 100 }) ≡ imported home_as prefix session session.heard
imported_is home_as prefix session rules remote_as attrs copy same_rules same_as is not same =
    ap (λ (a : Attrs). policy (unwrap_or rules []) prefix remote_as (record { attrs = a; pref = 100 })) same
    ∙ ap (λ (rs : Option (List Rule)). policy (unwrap_or rs []) prefix remote_as (record { attrs = attrs; pref = 100 })) (sym same_rules)
    ∙ ap (λ (n : ℕ). policy (unwrap_or session.import_rules []) prefix n (record { attrs = attrs; pref = 100 })) (sym same_as)
    ∙ sym (ap (imported home_as prefix session) is
    ∙ ap (λ (b : Bool). if b then None else policy (unwrap_or session.import_rules []) prefix session.remote_as (record { attrs = attrs; pref = 100 })) not)
