use Rattle.std.proofs.Common.{ℕ, Option, ◌+◌, sym, subst, arith}
use Rattle.router_core.proofs.RestSteps.{LowestBelow, lowest_all, lowest_first, lowest_next}
use Rattle.router_core.proofs.outstanding.lowest_graft.Goals as goal

pub loop-n-init : goal.loop-n-init
loop-n-init c = lowest_first c.args.places.now.places

pub loop-n-preserved : goal.loop-n-preserved
loop-n-preserved c = subst (λ (o : Option ℕ). LowestBelow c.args.places.now.places (c.loop-n.n + 1) o) (sym c.lower-lowest.ensures)
    (lowest_next c.args.places.now.places c.loop-n.n c.loop-n.lowest c.graft_at.result c.loop-n.invariant (sym c.graft_at.ensures))

pub returns : goal.returns
returns c = lowest_all c.args.places.now.places c.loop-n.n c.loop-n.lowest (omega (arith, c.loop-n-test.false, c.len-n-end.ensures)) c.loop-n.invariant
