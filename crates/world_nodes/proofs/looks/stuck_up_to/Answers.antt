use Rattle.std.proofs.Common.{◌≡◌, List, map, take, subst, sym, arith}
use Rattle.ring_net.specs.Shown.{view}
use Rattle.graft_actors.specs.Acts.{OwnPart}
use Rattle.world_nodes.specs.Nodes.{own}
use Rattle.world_nodes.specs.Looks.{IsLowest, IsStuckAtOne, IsStuckWith, as_numbers}
use Rattle.world_nodes.proofs.Firsts.{lowest_of_none, lowest_of_more, take_mapped}
use Rattle.world_nodes.proofs.looks.stuck_up_to.Goals as goal

pub loop-k-init : goal.loop-k-init
loop-k-init c = lowest_of_none (λ (o : OwnPart) p n. IsStuckWith o p n)

pub loop-k-preserved : goal.loop-k-preserved
loop-k-preserved c =
    let actors = (view c.args.net.now).actors in
    subst (λ (xs : List OwnPart). IsLowest (IsStuckAtOne xs) (as_numbers c.lower-lowest.result))
    (sym (take_mapped own actors c.loop-k.k c.actor.result.now c.actor.ensures))
    (lowest_of_more (λ (o : OwnPart) p n. IsStuckWith o p n) (take c.loop-k.k (map own actors)) (own c.actor.result.now)
    (as_numbers c.loop-k.lowest) (as_numbers c.in_ok-stuck_at.field-0) (as_numbers c.lower-lowest.result)
    c.loop-k.invariant c.in_ok-stuck_at.ensures c.lower-lowest.ensures)

pub returns : goal.returns
returns c =
    let actors = (view c.args.net.now).actors in
    let all : c.loop-k.k ≡ c.args.count = omega arith in
    subst (λ n. IsLowest (IsStuckAtOne (take n (map own actors))) (as_numbers c.loop-k.lowest)) all c.loop-k.invariant
