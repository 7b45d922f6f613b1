use Rattle.std.proofs.Common.{length, ap, ◌∙◌, arith}
use Rattle.std.specs.Prelude.{not}
use Rattle.lab_seen.proofs.Slots.{put_in, left_out}
use Rattle.lab_seen.proofs.found.put.Goals.{else-p-slots-via-then-p-slots+else-is_none, else-p-slots-via-else-p-slots}
use Rattle.lab_seen.proofs.found.put.Goals as goal

pub returns-then-is_none : goal.returns-then-is_none
returns-then-is_none c found is =
    let slots = c.args.slots.now in
    put_in found c.args.one slots (length slots) is c.from-p.result c.index-slots-p.result c.from-p.ensures c.if-p-slots.true
    (c.is_none.ensures ∙ ap not c.if-is_none.true)

pub returns-else-p-slots : goal.returns-else-p-slots
returns-else-p-slots c found is =
    let slots = c.args.slots.now in
    left_out found c.args.one slots (length slots) is c.from-p.result c.from-p.ensures (λ below. elim c.else-p-slots.branch [
      | else-p-slots-via-then-p-slots+else-is_none w ↦ record { x = w.index-slots-p.result; some = w.is_none.ensures ∙ ap not w.if-is_none.false }
      | else-p-slots-via-else-p-slots w ↦ absurd (omega (arith, below, w.if-p-slots.false))
    ])
