use Rattle.std.proofs.Common.{◌≡◌, ◌∙◌, List, true, false, length, arith, ap, sym}
use Rattle.std.proofs.lemmas.Option.{slice_get_within}
use Rattle.operator_state.specs.Issues.{waiting_are}
use Rattle.operator_state.specs.declared.groups.Task.{Task}
use Rattle.audit_operator.specs.Parts.{operator_state}
use Rattle.audit_operator.proofs.Orders.{graft_ordered}
use Rattle.audit_operator.proofs.Refusals.{graft_waits_behind, graft_waits_for_end}
use Rattle.audit_operator.proofs.Waiting.{has_moves, has_seat}
use Rattle.audit_operator.proofs.operator.AuditedOperator.order_graft.Goals as goal

pub returns-in_default : goal.returns-in_default
returns-in_default c = absurd (has_moves c.args.self.now c.requires.sound c.args.index c.args.task c.requires.there c.requires.graft
    (sym c.moves.ensures ∙ c.in_default.is))

pub seat-seat-requires : goal.seat-seat-requires
seat-seat-requires c = has_seat c.args.self.now c.requires.sound c.args.index c.args.task c.requires.there
    c.in-Some.moves (sym c.moves.ensures ∙ c.in-Some.is)

pub returns-then-seat : goal.returns-then-seat
returns-then-seat c = λ step number is. graft_waits_for_end c.args.self.now c.requires.sound step number c.args.index c.args.task is
    c.requires.graft c.in-Some.moves (sym c.moves.ensures ∙ c.in-Some.is) c.seat-seat.result c.seat-seat.ensures c.if-seat.true

pub returns-then-is_graft_before : goal.returns-then-is_graft_before
returns-then-is_graft_before c = λ step number is. graft_waits_behind c.args.self.now c.requires.sound step number c.args.index c.args.task is
    c.requires.graft c.in-Some.moves (sym c.moves.ensures ∙ c.in-Some.is) (c.is_graft_before.ensures.0 c.if-is_graft_before.true)

pub issue_graft-place-requires-clause-seated : goal.issue_graft-place-requires-clause-seated
issue_graft-place-requires-clause-seated c = has_seat c.args.self.now c.requires.sound c.args.index c.args.task c.requires.there
    c.in-Some.moves (sym c.moves.ensures ∙ c.in-Some.is)

pub remove-requires : goal.remove-requires
remove-requires c =
    let within = slice_get_within c.args.self.now.tasks.items c.args.index c.args.task c.requires.there in
    let e = ap (λ (xs : List Task). length xs) c.issue_graft-place.ensures.tasks in
    omega (arith, e, within, c.issue_graft-place.new.self.tasks.ok.0)

pub returns : goal.returns
returns c = λ step number is.
    let o = c.args.self.now in
    let mid = c.issue_graft-place.new.self in
    let same = c.issue_graft-place.ensures.same in
    graft_ordered o _ c.requires.sound (record { known = same.known; script = same.script; numbers = same.numbers })
    step number c.args.index c.args.task is c.requires.graft c.in-Some.moves (sym c.moves.ensures ∙ c.in-Some.is)
    c.seat-seat.result c.seat-seat.ensures c.if-seat.false
    (λ behind. let e : true ≡ false = sym (c.is_graft_before.ensures.1 behind) ∙ c.if-is_graft_before.false in cc)
    mid c.issue_graft-place.result c.issue_graft-place.ensures (ap (waiting_are (operator_state mid)) c.remove.ensures.items) _ c.from.ensures
