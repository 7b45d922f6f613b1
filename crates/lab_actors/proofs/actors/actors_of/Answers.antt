use Rattle.std.proofs.Common.{◌≡◌, ℕ, ◌+◌, length, Some, sym, ap, ◌∙◌, subst, arith}
use Rattle.graft_model.specs.Setups.{Setup, routers_in, peerings_in}
use Rattle.graft_actors.specs.Actors.{Operator, actor_at}
use Rattle.graft_actors.proofs.Numbers.{there}
use Rattle.lab_setup.specs.Setups.{setup_of}
use Rattle.lab_setup.proofs.Ready.{as_many_routers, as_many_peerings}
use Rattle.lab_actors.specs.Firsts.{AreFirstUpTo}
use Rattle.lab_actors.proofs.Upto.{one_more, are_first}
use Rattle.lab_actors.proofs.actors.actors_of.Goals as goal

-- the operator stands behind the far sides
pub returns-clause-first : goal.returns-clause-first
returns-clause-first c =
    let setup : Setup = setup_of c.args.input.now in
    let before : ℕ = length c.args.input.now.routers + length c.args.input.now.peerings in
    let routers : routers_in setup ≡ length c.args.input.now.routers = as_many_routers c.args.input.now in
    let peerings : peerings_in setup ≡ length c.args.input.now.peerings = as_many_peerings c.args.input.now in
    let same : routers_in setup + peerings_in setup ≡ before = omega (arith, routers, peerings) in
    let at : actor_at setup before ≡ Some Operator = ap (actor_at setup) (sym same) ∙ there setup Operator tt in
    let all : AreFirstUpTo setup c.args.input.now.faults (before + 1) c.push.new.self =
    subst (AreFirstUpTo setup c.args.input.now.faults (before + 1)) (sym c.in_ok-push.ensures.ok)
    (one_more setup c.args.input.now.faults before c.in_ok-actors.actors Operator
    c.in_ok-operator.operator c.in_ok-actors.ensures at c.in_ok-operator.ensures) in
    are_first setup c.args.input.now.faults c.push.new.self
    (subst (λ (k : ℕ). AreFirstUpTo setup c.args.input.now.faults (k + 1) c.push.new.self) (sym same) all)
