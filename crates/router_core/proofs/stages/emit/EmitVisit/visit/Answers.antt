use Rattle.std.proofs.Common.{ap}
use Rattle.std.proofs.lemmas.Result.{on_ok_weaker}
use Rattle.ring_net.proofs.TakesEach.{same_edges_then}
use Rattle.router_core.specs.Visits.{sending_new}
use Rattle.router_core.specs.declared.fields.Fields.{Fields}
use Rattle.router_core.proofs.EachPlace.{emits_both, same_count}
use Rattle.router_core.proofs.stages.emit.EmitVisit.visit.Goals as goal

pub send_answer_at-requires-clause-keeps : goal.send_answer_at-requires-clause-keeps
send_answer_at-requires-clause-keeps c = c.in_ok-send_new_at.ensures.sent.keeps

pub send_answer_at-requires-clause-place : goal.send_answer_at-requires-clause-place
send_answer_at-requires-clause-place c = same_count sending_new c.args.router.now c.send_new_at.new.router
    c.args.post.now c.send_new_at.new.post c.args.n c.requires.keeps c.in_ok-send_new_at.ensures.sent
    (ap (λ (f : Fields). f.known.setup) c.in_ok-send_new_at.ensures.sent.same) c.requires.place

pub returns-clause-edges : goal.returns-clause-edges
returns-clause-edges c =
    same_edges_then c.args.post.now c.send_new_at.new.post c.send_answer_at.new.post c.send_new_at.ensures.edges c.send_answer_at.ensures.edges

pub returns-clause-visits : goal.returns-clause-visits
returns-clause-visits c = on_ok_weaker c.send_answer_at.result
    (λ answered. emits_both c.args.router.now c.send_new_at.new.router c.send_answer_at.new.router c.args.post.now
    c.send_new_at.new.post c.send_answer_at.new.post c.args.n c.in_ok-send_new_at.ensures.sent answered) c.send_answer_at.ensures.sent
