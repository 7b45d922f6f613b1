use Rattle.std.proofs.Common.{arith}
use Rattle.imported_sessions.proofs.Packing.{last_of, others_told, room_told}
use Rattle.imported_sessions.proofs.steps.has_room.Goals as goal

pub returns-then-last-message : goal.returns-then-last-message
returns-then-last-message c = room_told (last_of c.args.steps.now) c.in-Some.last.now c.args.message.now c.in-Some.ensures.value c.saturating_add.result
    c.if-last-message.true (λ few. omega arith) (λ few. omega arith)

pub returns-else-last-message : goal.returns-else-last-message
returns-else-last-message c = others_told (last_of c.args.steps.now) c.in-Some.last.now c.args.message.now c.in-Some.ensures.value c.if-last-message.false
