use Rattle.std.proofs.Common.{refl, arith}
use Rattle.std.specs.Vec.{with_item}
use Rattle.graft_model.specs.declared.event.OperatorEvent.TheVariants.{Note}
use Rattle.graft_actors.specs.Actors.{Operator, Router}
use Rattle.audit_channels.specs.declared.inboxes.Inbox.{Inbox}
use Rattle.run_auditor.specs.declared.auditor.Auditor.{Auditor}
use Rattle.run_auditor.proofs.AtNumbers.{set_there}
use Rattle.run_auditor.proofs.Operators.{ruled_taking}
use Rattle.run_auditor.proofs.Unsent.{operator_without}
use Rattle.run_auditor.proofs.auditor.Auditor.rule_note.Goals as goal

pub returns-in_default : goal.returns-in_default
returns-in_default c = operator_without c.rulings_have_grounds.ensures c.args.self.now c.requires (Router c.args.router) c.in_default.ensures.none
    (Note c.args.router) refl

pub returns : goal.returns
returns c =
    let f = c.args.self.now in
    let known = c.in-Some.ensures.some in
    let channel = c.index_mut-2.result.now in
    let now = c.note.new.channel in
    let own = c.operator_number-own.result in
    let after : Inbox = record { channels = with_item c.index_mut.result.now.channels c.in-Some.from now } in
    let g : Auditor = record f { operator = c.note.new.self; inboxes = with_item f.inboxes own after } in
    let one = set_there f c.requires (Router c.args.router) Operator c.in-Some.from own known (tt, c.operator_number-own.ensures)
    c.index_mut.result.now c.index_mut.ensures.value channel c.index_mut-2.ensures.value after now refl in
    ruled_taking f g c.requires refl c.rulings_have_grounds.ensures (Note c.args.router) (Router c.args.router) refl known.0
    (λ go. absurd (omega (arith, go))) channel now one c.note.result c.note.ensures
