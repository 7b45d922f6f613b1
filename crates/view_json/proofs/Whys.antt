-- What a router has for a prefix.
use Rattle.std.proofs.Common.{◌≡◌, ℕ, List, ap, ◌∙◌}
use Rattle.std.specs.List.{list_any}
use Rattle.bgp_types.specs.Prefixes.{PrefixValue, same_prefix}
use Rattle.route_policy.specs.Candidates.{Candidate, SessionRoute, RouterRoute, candidates}
use Rattle.lab_tables.specs.declared.input.RouterInput.{RouterInput}
use Rattle.lab_report.specs.declared.lab.Lab.{Lab}
use Rattle.why_view.specs.Sources.{candidates_at, routers_beside, sessions_at}

-- the candidates of its networks, its sessions and the other routers are its candidates
pub candidates_are : (lab : Lab) (prefix : PrefixValue) (router : ℕ × RouterInput) (networks : List PrefixValue) (sessions : List SessionRoute)
    (routers : List RouterRoute) (found : List Candidate) → networks ≡ router.1.networks → sessions ≡ sessions_at lab router prefix
    → routers ≡ routers_beside lab router.0 prefix
    → found ≡ candidates lab.input.home_as prefix (list_any (same_prefix prefix) networks) sessions routers → found ≡ candidates_at lab router prefix
candidates_are lab prefix router networks sessions routers found nets held beside chosen =
    let among : List PrefixValue → List SessionRoute → List RouterRoute → List Candidate =
    λ ns ss qs. candidates lab.input.home_as prefix (list_any (same_prefix prefix) ns) ss qs in
    chosen ∙ ap (λ ns. among ns sessions routers) nets ∙ ap (λ ss. among router.1.networks ss routers) held
    ∙ ap (λ qs. among router.1.networks (sessions_at lab router prefix) qs) beside
