use Rattle.std.proofs.Common.{refl}
use Rattle.operator_core.proofs.Visits.{same_script, visit_says}
use Rattle.operator_core.proofs.Calls.{state_of_forget}
use Rattle.operator_core.proofs.progress.Progress.visit_say.Goals as goal

pub returns-clause-ok : goal.returns-clause-ok
returns-clause-ok g c = visit_says c.args.self.now c.args.index c.args.task c.requires.task c.requires.waits
    c.actors_have_their_numbers.ensures.numbers c.args.self.now c.mark.new.self c.mark.ensures.same
    (state_of_forget c.args.self.now c.mark.new.self c.mark.ensures.same c.mark.ensures.slots c.mark.ensures.seats) c.mark.ensures.tasks
    c.args.post.now c.issue_say.new.post
    c.args.peering c.requires.is (same_script c.args.self.now) refl refl c.in_ok-issue_say.ensures.ok
