use Rattle.std.proofs.Common.{◌≡◌, ◌≤◌, length, ◌∙◌, arith}
use Rattle.ring_net.proofs.TakesEach.{same_edges_self}
use Rattle.operator_core.proofs.Visits.{visit_done}
use Rattle.operator_core.proofs.Results.{not_issued, issued_then}
use Rattle.operator_core.proofs.Calls.{turning_ends, known_still, have_seats, step_within, turning_moves, edges_move, state_of_forget}
use Rattle.operator_core.proofs.progress.Progress.turn.Goals as goal
use Rattle.operator_core.proofs.progress.Progress.turn.Goals.{then-not-task+in_ok-visit, else-not-task}

pub visit-requires-clause-known : goal.visit-requires-clause-known
visit-requires-clause-known g c = known_still c.args.self.now c.loop-index.self c.loop-index.invariant.turning.same c.requires.known

pub visit-requires-clause-within : goal.visit-requires-clause-within
visit-requires-clause-within g c = step_within c.loop-index.self c.loop-index.index c.task-task.result
    (known_still c.args.self.now c.loop-index.self c.loop-index.invariant.turning.same c.requires.known)
    c.loop-index.invariant.turning.keeps c.task-task.ensures (not_issued _ c.if-not-task.true)

pub visit-requires-clause-seated : goal.visit-requires-clause-seated
visit-requires-clause-seated g c = have_seats c.loop-index.self c.loop-index.invariant.turning.keeps

pub loop-index-preserved : goal.loop-index-preserved
loop-index-preserved g c = elim c.if-not-task.branch [
  | then-not-task+in_ok-visit w ↦ record {
    turning = turning_moves c.args.self.now c.loop-index.self w.visit.new.self c.if-not-task.self
        c.args.post.now c.loop-index.post w.visit.new.post c.if-not-task.post c.loop-index.index c.requires.known
        c.loop-index.invariant.turning w.in_ok-visit.ensures.ok w.self-is w.post-is;
    edges = edges_move c.args.post.now c.loop-index.post w.visit.new.post c.if-not-task.post c.loop-index.invariant.edges w.visit.ensures.edges w.post-is;
  }
  | else-not-task w ↦ record {
    turning = turning_moves c.args.self.now c.loop-index.self c.loop-index.self c.if-not-task.self c.args.post.now
        c.loop-index.post c.loop-index.post c.if-not-task.post c.loop-index.index c.requires.known
        c.loop-index.invariant.turning (visit_done c.loop-index.self c.loop-index.index c.task-task.result c.task-task.ensures c.loop-index.post
        (issued_then _ w.if-not-task.false)) w.self-is w.post-is;
    edges = edges_move c.args.post.now c.loop-index.post c.loop-index.post c.if-not-task.post c.loop-index.invariant.edges
        (same_edges_self c.loop-index.post) w.post-is;
  }
]

pub returns-clause-ok : goal.returns-clause-ok
returns-clause-ok g c = turning_ends c.args.self.now c.loop-index.self _ c.args.post.now c.loop-index.post c.loop-index.index c.requires.known (
    let e : c.len-index-end.result ≡ length c.args.self.now.tasks.items = c.len-index-end.ensures ∙ c.args.self.now.tasks.ok.0 in
    let f : c.len-index-end.result ≤ c.loop-index.index = c.loop-index-test.false in
    let h : c.loop-index.index ≤ c.len-index-end.result = c.loop-index.auto.index-end in
    omega arith) c.loop-index.invariant.turning c.forget_issued.ensures.same
    (state_of_forget c.loop-index.self _ c.forget_issued.ensures.same c.forget_issued.ensures.slots c.forget_issued.ensures.seats) c.forget_issued.ensures.tasks
