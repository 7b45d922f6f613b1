use Rattle.std.proofs.Common.{sym, ◌∙◌}
use Rattle.ring_net.proofs.TakesEach.{same_edges_self, same_edges_then}
use Rattle.rib_stages.proofs.Drops.{least_is, no_least_is}
use Rattle.router_core.proofs.DecideSteps.{decides_all, decides_first, decides_next, fewer_dirty}
use Rattle.router_core.proofs.stages.decide.decide_all.Goals as goal

pub loop-prefix-init : goal.loop-prefix-init
loop-prefix-init c = (decides_first c.args.router.now c.args.post.now c.requires, same_edges_self c.args.post.now)

pub decide_one-requires-clause-keeps : goal.decide_one-requires-clause-keeps
decide_one-requires-clause-keeps c = c.loop-prefix.invariant.0.keeps

pub decide_one-requires-clause-dirty : goal.decide_one-requires-clause-dirty
decide_one-requires-clause-dirty c = least_is c.loop-prefix.router.rib.dirty c.in-Some.prefix (sym c.next_dirty.ensures.next ∙ c.in-Some.is)

pub loop-prefix-preserved : goal.loop-prefix-preserved
loop-prefix-preserved c = (
  decides_next c.args.router.now c.loop-prefix.router c.decide_one.new.router c.args.post.now c.loop-prefix.post
      c.decide_one.new.post c.in-Some.prefix c.loop-prefix.invariant.0 c.in_ok-decide_one.ensures.decides,
  same_edges_then c.args.post.now c.loop-prefix.post c.decide_one.new.post c.loop-prefix.invariant.1 c.decide_one.ensures.edges,
)

pub loop-prefix-smaller : goal.loop-prefix-smaller
loop-prefix-smaller c = fewer_dirty c.args.router.now c.loop-prefix.router c.decide_one.new.router c.args.post.now
    c.loop-prefix.post c.decide_one.new.post c.in-Some.prefix c.loop-prefix.invariant.0 c.in_ok-decide_one.ensures.decides
    (least_is c.loop-prefix.router.rib.dirty c.in-Some.prefix (sym c.next_dirty.ensures.next ∙ c.in-Some.is))

pub returns-in_err-decide_one-clause-edges : goal.returns-in_err-decide_one-clause-edges
returns-in_err-decide_one-clause-edges c =
    same_edges_then c.args.post.now c.loop-prefix.post c.decide_one.new.post c.loop-prefix.invariant.1 c.decide_one.ensures.edges

pub returns-clause-edges : goal.returns-clause-edges
returns-clause-edges c = c.loop-prefix.invariant.1

pub returns-clause-done : goal.returns-clause-done
returns-clause-done c = decides_all c.args.router.now c.loop-prefix.router c.args.post.now c.loop-prefix.post c.loop-prefix.invariant.0
    (no_least_is c.loop-prefix.router.rib.dirty (sym c.next_dirty.ensures.next ∙ c.in_default.is))
