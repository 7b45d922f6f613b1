use Rattle.std.proofs.Common.{◌≡◌, ℕ, suc, ◌-◌, ◌+◌, List, ◌++◌, ◌∷◌, [], ap, ◌∙◌, append_assoc, arith}
use Rattle.operator_state.specs.declared.grafts.Slot.{Slot}
use Rattle.operator_state.specs.declared.grafts.Slot.TheVariants.{Unmade}
use Rattle.operator_state.specs.Slots.{unmade_slots}
use Rattle.operator_state.proofs.grafts.add_unmade.Goals as goal

pub loop-preserved : goal.loop-preserved
loop-preserved c =
    let left : ℕ = c.args.count - (c.loop.counter + 1) in
    let more : suc left ≡ c.args.count - c.loop.counter = omega (arith, c.loop-test.true) in
    ap (λ (slots : List Slot). slots ++ unmade_slots left) c.in_ok-push.ensures.items
    ∙ append_assoc c.loop.slots.items (Unmade ∷ []) (unmade_slots left)
    ∙ ap (λ (n : ℕ). c.loop.slots.items ++ unmade_slots n) more
    ∙ c.loop.invariant
