use Rattle.std.proofs.Common.{◌≡◌, ℕ, ◌+◌, length, ap, ◌∙◌, arith}
use Rattle.operator_state.specs.Slots.{waiting_entry}
use Rattle.operator_state.proofs.SlotLoops.{more_graft, more_unmade, no_more}
use Rattle.operator_state.proofs.grafts.first_slots.Goals.{in-Graft+in_ok-push-in-Graft, in-Evacuate+in_ok-add_unmade-in-Evacuate, in-Say}
use Rattle.operator_state.proofs.grafts.first_slots.Goals as goal

pub loop-step-preserved : goal.loop-step-preserved
loop-step-preserved c = elim c.match-step.branch [
  | in-Graft+in_ok-push-in-Graft w ↦ more_graft c.args.peerings c.args.steps.now c.loop-step.step-index
      c.loop-step.slots.items c.requires.few c.loop-step-test.true _ c.loop-step.invariant w.in-Graft.peering w.in-Graft.target
      w.waiting_entry.result c.match-step.slots.items w.in-Graft.is
      (w.waiting_entry.ensures ∙ ap (λ (k : ℕ). waiting_entry (k + 1) (record { peering = w.in-Graft.peering; target = w.in-Graft.target }))
      (let e : w.len.result ≡ length c.loop-step.slots.items = omega (arith, w.len.ensures, c.loop-step.slots.ok.0) in e))
      (ap (λ slots. slots.items) w.slots-is ∙ w.in_ok-push-in-Graft.ensures.items)
  | in-Evacuate+in_ok-add_unmade-in-Evacuate w ↦ more_unmade c.args.peerings c.args.steps.now c.loop-step.step-index
      c.loop-step.slots.items c.requires.few c.loop-step-test.true _ c.loop-step.invariant w.in-Evacuate.router
      c.match-step.slots.items w.in-Evacuate.is (ap (λ slots. slots.items) w.slots-is ∙ w.in_ok-add_unmade-in-Evacuate.ensures)
  | in-Say w ↦ no_more c.args.peerings c.args.steps.now c.loop-step.step-index c.loop-step.slots.items
      c.requires.few c.loop-step-test.true _ c.loop-step.invariant c.match-step.slots.items w.in-Say.is
      (ap (λ slots. slots.items) w.slots-is)
]
