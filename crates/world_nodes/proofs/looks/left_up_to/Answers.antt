use Rattle.std.proofs.Common.{◌≡◌, List, map, take, subst, sym, arith}
use Rattle.ring_net.specs.Shown.{view}
use Rattle.graft_actors.specs.Acts.{OwnPart}
use Rattle.settled_check.specs.Firsts.{IsFirstOf}
use Rattle.world_nodes.specs.Nodes.{own}
use Rattle.world_nodes.specs.Looks.{IsLeftToOne, IsLeftWith}
use Rattle.world_nodes.proofs.Firsts.{first_of_none, first_of_more, take_mapped}
use Rattle.world_nodes.proofs.CourseSteps.{works_at}
use Rattle.world_nodes.proofs.looks.left_up_to.Goals as goal

pub left_at-requires : goal.left_at-requires
left_at-requires c = works_at (view c.args.net.now).actors c.loop-k.k c.actor.result.now c.requires.works c.actor.ensures

pub loop-k-init : goal.loop-k-init
loop-k-init c = first_of_none (λ (o : OwnPart) x. IsLeftWith o x)

pub loop-k-preserved : goal.loop-k-preserved
loop-k-preserved c =
    let actors = (view c.args.net.now).actors in
    subst (λ (xs : List OwnPart). IsFirstOf (IsLeftToOne xs) c.first_pending-first.result)
    (sym (take_mapped own actors c.loop-k.k c.actor.result.now c.actor.ensures))
    (first_of_more (λ (o : OwnPart) x. IsLeftWith o x) (take c.loop-k.k (map own actors)) (own c.actor.result.now) c.loop-k.first
    c.left_at.result c.first_pending-first.result c.loop-k.invariant c.left_at.ensures c.first_pending-first.ensures)

pub returns : goal.returns
returns c =
    let actors = (view c.args.net.now).actors in
    let all : c.loop-k.k ≡ c.args.count = omega arith in
    subst (λ n. IsFirstOf (IsLeftToOne (take n (map own actors))) c.loop-k.first) all c.loop-k.invariant
