use Rattle.std.proofs.Common.{Bool, sym, ap, ◌∙◌}
use Rattle.std.proofs.lemmas.List.{get_or_default}
use Rattle.prefix_table.proofs.Indices.{placed}
use Rattle.prefix_trie.proofs.Nodes.{same_prefix}
use Rattle.prefix_set.specs.Slots.{Slot}
use Rattle.prefix_set.proofs.run.index_near.Goals as goal

pub returns-then-eq-clause-found : goal.returns-then-eq-clause-found
returns-then-eq-clause-found c =
    placed {V = Bool} c.args.slots.now c.requires c.args.prefix c.args.near c.if-near-slots.true
    (λ d. ap (λ (s : Slot). s.0) (get_or_default c.args.slots.now c.args.near d c.index-slots-near.result c.if-near-slots.true)
    ∙ same_prefix _ c.args.prefix (sym c.eq.ensures ∙ c.if-eq.true))
