use Rattle.std.proofs.Common.{arith}
use Rattle.ring_net.proofs.TakesEach.{same_edges_self, same_edges_then}
use Rattle.router_core.proofs.Standing.{same_places}
use Rattle.router_core.proofs.VisitSteps.{visited_first, visited_next}
use Rattle.router_core.proofs.stages.visit.visit_all.Goals as goal

pub loop-n-init : goal.loop-n-init
loop-n-init g c = (visited_first (g.V.Visit.stage c.args.stage.now) c.args.router.now c.args.post.now c.requires.keeps, same_edges_self c.args.post.now)

pub visit-requires-clause-keeps : goal.visit-requires-clause-keeps
visit-requires-clause-keeps g c = c.loop-n.invariant.0.keeps

pub visit-requires-clause-place : goal.visit-requires-clause-place
visit-requires-clause-place g c =
    let stage = g.V.Visit.stage c.args.stage.now in
    let done = c.loop-n.invariant.0 in
    omega (
      arith,
      c.len-n-end.ensures,
      same_places c.args.router.now c.loop-n.router c.requires.keeps done.keeps (stage.kept.setup c.args.router.now c.loop-n.router done.same),
    )

pub visit-requires-clause-needs : goal.visit-requires-clause-needs
visit-requires-clause-needs g c =
    let stage = g.V.Visit.stage c.args.stage.now in stage.kept.still c.args.router.now c.loop-n.router c.loop-n.invariant.0.same c.requires.needs

pub loop-n-preserved : goal.loop-n-preserved
loop-n-preserved g c = (
  visited_next (g.V.Visit.stage c.args.stage.now) c.args.router.now c.loop-n.router c.visit.new.router
      c.args.post.now c.loop-n.post c.visit.new.post c.loop-n.n c.loop-n.invariant.0 c.in_ok-visit.ensures.visits,
  same_edges_then c.args.post.now c.loop-n.post c.visit.new.post c.loop-n.invariant.1 c.visit.ensures.edges,
)

pub returns-in_err-visit-clause-edges : goal.returns-in_err-visit-clause-edges
returns-in_err-visit-clause-edges g c = same_edges_then c.args.post.now c.loop-n.post c.visit.new.post c.loop-n.invariant.1 c.visit.ensures.edges

pub returns-clause-edges : goal.returns-clause-edges
returns-clause-edges g c = c.loop-n.invariant.1
