use Rattle.std.proofs.Common.{arith, ap, ◌∙◌}
use Rattle.ring_net.proofs.TakesEach.{same_edges_self, same_edges_then}
use Rattle.router_core.specs.declared.fields.Fields.{Fields}
use Rattle.router_core.proofs.TellSteps.{told_all, told_first, told_next}
use Rattle.router_core.proofs.stages.tell.tell_all.Goals as goal

pub loop-q-init : goal.loop-q-init
loop-q-init c = (told_first c.args.router.now c.args.post.now c.requires.keeps, same_edges_self c.args.post.now)

pub tell_router-requires-clause-keeps : goal.tell_router-requires-clause-keeps
tell_router-requires-clause-keeps c = c.loop-q.invariant.0.keeps

pub tell_router-requires-clause-clean : goal.tell_router-requires-clause-clean
tell_router-requires-clause-clean c = ap (λ (f : Fields). f.rib.dirty) c.loop-q.invariant.0.same ∙ c.requires.clean

pub tell_router-requires-clause-there : goal.tell_router-requires-clause-there
tell_router-requires-clause-there c =
    omega (arith, c.loop-q.invariant.0.keeps.due_in, c.loop-q.invariant.0.keeps.routers, ap (λ (f : Fields). f.routers) c.loop-q.invariant.0.same)

pub loop-q-preserved : goal.loop-q-preserved
loop-q-preserved c = (
  told_next c.loop-q.q c.args.router.now c.loop-q.router c.tell_router.new.router c.args.post.now
      c.loop-q.post c.tell_router.new.post c.loop-q.invariant.0 c.in_ok-tell_router.ensures.told,
  same_edges_then c.args.post.now c.loop-q.post c.tell_router.new.post c.loop-q.invariant.1 c.tell_router.ensures.edges,
)

pub returns-in_err-tell_router-clause-edges : goal.returns-in_err-tell_router-clause-edges
returns-in_err-tell_router-clause-edges c =
    same_edges_then c.args.post.now c.loop-q.post c.tell_router.new.post c.loop-q.invariant.1 c.tell_router.ensures.edges

pub returns-clause-edges : goal.returns-clause-edges
returns-clause-edges c = c.loop-q.invariant.1

pub returns-clause-done : goal.returns-clause-done
returns-clause-done c = told_all c.loop-q.q c.args.router.now c.loop-q.router c.args.post.now c.loop-q.post c.loop-q.invariant.0
    (omega (arith, c.loop-q.invariant.0.keeps.due_in, c.loop-q.invariant.0.keeps.routers, ap (λ (f : Fields). f.routers) c.loop-q.invariant.0.same))
