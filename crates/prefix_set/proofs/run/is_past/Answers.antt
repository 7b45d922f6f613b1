use Rattle.std.proofs.Common.{◌≡◌, [], ◌∷◌, length, slice_get, ◌-◌, Some, refl, sym, ap, ◌∙◌, arith}
use Rattle.std.specs.Prelude.{T}
use Rattle.std.specs.FinMap as map
use Rattle.bgp_types.specs.Tables.{prefix_cmp}
use Rattle.prefix_table.specs.Indices.{AllBelow}
use Rattle.prefix_set.proofs.Slots.{above_last}
use Rattle.prefix_trie.proofs.Nodes.{lt_same}
use Rattle.std.specs.Ordering.{nat_cmp}
use Rattle.prefix_set.proofs.run.is_past.Goals as goal

pub returns-in-Some : goal.returns-in-Some
returns-in-Some c h =
    let last = c.in-Some.last.now in
    let p = c.args.prefix in
    elim c.args.slots.now as (λ xs. T (map.is_sorted prefix_cmp xs) → Some last ≡ slice_get xs (length xs - 1) → AllBelow p xs) [
      | [] ↦ λ rise is. tt
      | x ∷ xs ↦ λ rise is. above_last (x ∷ xs) (length xs) last p rise refl (is ∙ ap (slice_get (x ∷ xs)) (omega arith))
          (sym (lt_same (nat_cmp last.0.address p.address) (nat_cmp last.0.len p.len)) ∙ (sym c.lt.ensures ∙ h))
    ] c.requires c.in-Some.ensures.value
