use Rattle.std.proofs.Common.{length, ap, arith}
use Rattle.ring_net.proofs.TakesEach.{same_edges_self, same_edges_then}
use Rattle.far_side.specs.Links.{LinkValue}
use Rattle.far_side.proofs.PassSteps.{passing_first, passing_next, passing_last, passing_index}
use Rattle.far_side.proofs.pass.pass.Goals as goal

pub loop-count-init : goal.loop-count-init
loop-count-init g c = (passing_first c.args.way c.args.far.now c.args.post.now c.requires, same_edges_self c.args.post.now)

pub step-requires-clause-index : goal.step-requires-clause-index
step-requires-clause-index g c = passing_index c.args.way c.args.far.now c.loop-count.far
    c.args.post.now c.loop-count.post c.loop-count.index c.loop-count._count c.loop-count.invariant.0
    (omega (arith, c.len-count-end.ensures.plans, ap (λ (l : LinkValue). length l.plans) c.link.ensures))

pub loop-count-preserved : goal.loop-count-preserved
loop-count-preserved g c = (
  passing_next c.args.way c.args.far.now c.loop-count.far c.step.new.far c.args.post.now c.loop-count.post c.step.new.post
      c.loop-count.index c.in_ok-index.index c.loop-count._count c.loop-count.invariant.0 c.in_ok-index.ensures.step,
  same_edges_then c.args.post.now c.loop-count.post c.step.new.post c.loop-count.invariant.1 c.step.ensures.edges,
)

pub returns-in_err-index-clause-edges : goal.returns-in_err-index-clause-edges
returns-in_err-index-clause-edges g c = same_edges_then c.args.post.now c.loop-count.post c.step.new.post c.loop-count.invariant.1 c.step.ensures.edges

pub returns-clause-edges : goal.returns-clause-edges
returns-clause-edges g c = c.loop-count.invariant.1

pub returns-clause-pass : goal.returns-clause-pass
returns-clause-pass g c = passing_last c.args.way c.args.far.now c.loop-count.far c.args.post.now
    c.loop-count.post c.loop-count.index c.loop-count._count c.loop-count.invariant.0
    (omega (arith, c.len-count-end.ensures.plans, ap (λ (l : LinkValue). length l.plans) c.link.ensures))
