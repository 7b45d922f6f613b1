use Rattle.std.proofs.Common.{◌≡◌, ℕ, ◌+◌, ◌<◌, ◌≤◌, length, Some, sym, ap, ◌∙◌, subst, arith}
use Rattle.graft_model.specs.Setups.{Setup, routers_in, peerings_in}
use Rattle.graft_actors.specs.Actors.{FarSide, actor_at}
use Rattle.graft_actors.proofs.Numbers.{there}
use Rattle.lab_setup.specs.Setups.{setup_of}
use Rattle.lab_setup.proofs.Ready.{as_many_routers, as_many_peerings}
use Rattle.node_configs.proofs.Accepted.{few}
use Rattle.lab_actors.specs.Firsts.{AreFirstUpTo}
use Rattle.lab_actors.proofs.Upto.{one_more}
use Rattle.lab_actors.proofs.actors.with_far_sides.Goals as goal

-- there are few enough for a number of 8 bits
pub overflow_cast-n : goal.overflow_cast-n
overflow_cast-n c =
    let most : length c.args.input.now.peerings ≤ 32 = (few c.args.input.now c.requires.accepted).peerings in
    omega (arith, most, c.loop-n-test.true, c.len-n-end.ensures)

-- one far side more
pub loop-n-preserved : goal.loop-n-preserved
loop-n-preserved c =
    let setup : Setup = setup_of c.args.input.now in
    let before : ℕ = length c.args.input.now.routers + c.loop-n.n in
    let routers : routers_in setup ≡ length c.args.input.now.routers = as_many_routers c.args.input.now in
    let peerings : peerings_in setup ≡ length c.args.input.now.peerings = as_many_peerings c.args.input.now in
    let below : c.loop-n.n < peerings_in setup = omega (arith, c.loop-n-test.true, c.len-n-end.ensures, peerings) in
    let at : actor_at setup before ≡ Some (FarSide c.loop-n.n) =
    ap (λ (k : ℕ). actor_at setup (k + c.loop-n.n)) (sym routers) ∙ there setup (FarSide c.loop-n.n) below in
    let next : before + 1 ≡ length c.args.input.now.routers + (c.loop-n.n + 1) = omega arith in
    subst (λ (k : ℕ). AreFirstUpTo setup c.args.input.now.faults k c.push.new.self) next
    (subst (AreFirstUpTo setup c.args.input.now.faults (before + 1)) (sym c.in_ok-push.ensures.ok)
    (one_more setup c.args.input.now.faults before c.loop-n.actors (FarSide c.loop-n.n) c.in_ok-node.node c.loop-n.invariant at c.in_ok-node.ensures))
