use Rattle.std.proofs.Common.{arith}
use Rattle.std.proofs.lemmas.Result.{on_ok_weaker}
use Rattle.router_core.proofs.AnswerSteps.{drops_asked, answers}
use Rattle.router_core.proofs.takes.graft.take_asked.Goals as goal

pub returns-then-from-router-clause-took : goal.returns-then-from-router-clause-took
returns-then-from-router-clause-took c = on_ok_weaker c.note_dropped.result (drops_asked c.args.router.now c.args.post.now
    c.note_dropped.new.post c.args.from c.args.graft c.args.peering c.requires (omega (arith, c.if-from-router.true))) c.note_dropped.ensures.ok

pub returns-clause-took : goal.returns-clause-took
returns-clause-took c = on_ok_weaker c.note_router_sent.result
    (answers c.args.router.now c.args.post.now c.note_router_sent.new.post c.args.from c.args.graft c.args.peering c.requires
    (omega (arith, c.if-from-router.false))) c.note_router_sent.ensures.ok
