use Rattle.std.proofs.Common.{◌≡◌, ◌+◌, ◌<◌, ◌≤◌, length, sym, subst, arith}
use Rattle.graft_model.specs.Setups.{Setup, routers_in}
use Rattle.graft_actors.specs.Actors.{Router}
use Rattle.graft_actors.proofs.Numbers.{there}
use Rattle.lab_setup.specs.Setups.{setup_of}
use Rattle.lab_setup.proofs.Ready.{as_many_routers}
use Rattle.node_configs.proofs.Accepted.{few}
use Rattle.lab_actors.specs.Firsts.{AreFirstUpTo}
use Rattle.lab_actors.proofs.Upto.{one_more}
use Rattle.lab_actors.proofs.actors.routers_of.Goals as goal

-- there are few enough for a number of 8 bits
pub overflow_cast-n : goal.overflow_cast-n
overflow_cast-n c =
    let most : length c.args.input.now.routers ≤ 8 = (few c.args.input.now c.requires).routers in
    omega (arith, most, c.loop-n-test.true, c.len-n-end.ensures)

-- one router more
pub loop-n-preserved : goal.loop-n-preserved
loop-n-preserved c =
    let setup : Setup = setup_of c.args.input.now in
    let many : routers_in setup ≡ length c.args.input.now.routers = as_many_routers c.args.input.now in
    let below : c.loop-n.n < routers_in setup = omega (arith, c.loop-n-test.true, c.len-n-end.ensures, many) in
    subst (AreFirstUpTo setup c.args.input.now.faults (c.loop-n.n + 1)) (sym c.in_ok-push.ensures.ok)
    (one_more setup c.args.input.now.faults c.loop-n.n c.loop-n.actors
    (Router c.loop-n.n) c.in_ok-node.node c.loop-n.invariant (there setup (Router c.loop-n.n) below) c.in_ok-node.ensures)
