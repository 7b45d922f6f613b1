use Rattle.std.proofs.Common.{◌∙◌, List, ℕ, ap, map}
use Rattle.std.specs.Borrow.{Bor}
use Rattle.std.specs.List.{flat_map}
use Rattle.lab_hints.proofs.Lists.{names_joined}
use Rattle.lab_hints.proofs.names.all_names.Goals as goal

-- the names of routers, behind them those of peerings, and behind those the names of policies
pub returns : goal.returns
returns c =
    let text = λ (name : Bor (List ℕ)). name.now in
    names_joined text _ _ _ _ _ c.in_ok-extend-2.ensures.ok
    (names_joined text _ _ _ _ _ c.in_ok-extend.ensures.ok (c.in_ok-names.ensures ∙ ap (map (λ r. r.name)) c.deref.ensures)
    (ap (map text) c.deref-3.ensures ∙ c.in_ok-peerings.ensures ∙ ap (map (λ p. p.name)) c.deref-2.ensures))
    (ap (map text) c.deref-5.ensures ∙ c.in_ok-policies.ensures ∙ ap (flat_map (λ r. map (λ p. p.name) r.policies)) c.deref-4.ensures)
