use Rattle.std.proofs.Common.{sym, ◌∙◌}
use Rattle.operator_core.proofs.Visits.{visit_unmade, visit_held, visit_orders}
use Rattle.operator_core.proofs.Calls.{state_of_forget}
use Rattle.operator_core.proofs.progress.Progress.visit_graft.Goals as goal

pub returns-in_default-clause-ok : goal.returns-in_default-clause-ok
returns-in_default-clause-ok g c = visit_unmade c.args.self.now c.args.index c.args.task c.requires.task
    c.requires.waits c.args.post.now c.args.number c.requires.is (sym c.moved.ensures ∙ c.in_default.is)

pub returns-then-seat-clause-ok : goal.returns-then-seat-clause-ok
returns-then-seat-clause-ok g c = visit_held c.args.self.now c.args.index c.args.task c.requires.task c.requires.waits
    c.args.post.now c.in-Some.moves (sym c.moved.ensures ∙ c.in-Some.is) c.seat-seat.result c.seat-seat.ensures c.if-seat.true

pub returns-clause-ok : goal.returns-clause-ok
returns-clause-ok g c = visit_orders c.args.self.now c.args.index c.args.task c.requires.task c.requires.waits
    c.actors_have_their_numbers.ensures.numbers c.issue_graft.new.self c.mark.new.self c.mark.ensures.same
    (state_of_forget c.issue_graft.new.self c.mark.new.self c.mark.ensures.same c.mark.ensures.slots c.mark.ensures.seats) c.mark.ensures.tasks
    c.args.post.now c.issue_graft.new.post
    c.in-Some.moves c.args.number c.requires.is
    (sym c.moved.ensures ∙ c.in-Some.is) c.seat-seat.result c.seat-seat.ensures c.if-seat.false c.in_ok-issue_graft.ensures.ok
