use Rattle.std.proofs.Common.{◌≡◌, ◌+◌, ◌∙◌, length, ap, arith, subst, sym}
use Rattle.graft_edge.specs.declared.ids.RouterId.{RouterId}
use Rattle.graft_model.specs.First.{first_router}
use Rattle.graft_model.specs.Setups.{IsSetup, Setup}
use Rattle.actor_configs.specs.Configs.{IsRouterConfigOf}
use Rattle.lab_setup.specs.Setups.{setup_of}
use Rattle.lab_setup.proofs.Ready.{as_many_routers}
use Rattle.node_configs.proofs.Accepted.{few, is_setup}
use Rattle.run_auditor.specs.Begins.{IsFirstRouter}
use Rattle.run_auditor.proofs.Begun.{AllAt, one_more}
use Rattle.run_auditor.proofs.auditor.first_routers.Goals as goal

-- there are few enough for a number of 8 bits
pub overflow_cast-n : goal.overflow_cast-n
overflow_cast-n c =
    let most = (few c.args.input.now c.requires).routers in
    omega (arith, most, c.loop-n-test.true, c.len-n-end.ensures)

pub new-requires-clause-setup : goal.new-requires-clause-setup
new-requires-clause-setup c = subst IsSetup (sym c.known_for.ensures) (is_setup c.args.input.now c.requires)

pub new-requires-clause-config : goal.new-requires-clause-config
new-requires-clause-config c =
    subst (λ (s : Setup). IsRouterConfigOf s c.in_ok-config.config) (sym c.known_for.ensures) c.in_ok-config.ensures.config

-- one router more
pub loop-n-preserved : goal.loop-n-preserved
loop-n-preserved c =
    let number = ap (λ (r : RouterId). r.0) c.in_ok-config.ensures.number in
    let is : IsFirstRouter (setup_of c.args.input.now) c.loop-n.n c.in_ok-router.router = record {
      setup_is = c.in_ok-router.ensures.setup ∙ c.known_for.ensures;
      number = ap (λ (r : RouterId). r.0) c.in_ok-router.ensures.number ∙ number;
      first = c.in_ok-router.ensures.first ∙ (λ i. first_router (c.known_for.ensures i) (number i));
      sound = c.in_ok-router.ensures.sound;
    } in
    subst (AllAt (IsFirstRouter (setup_of c.args.input.now)) (c.loop-n.n + 1)) (sym c.in_ok-push.ensures.items)
    (one_more (IsFirstRouter (setup_of c.args.input.now)) c.loop-n.n c.loop-n.routers.items c.in_ok-router.router c.loop-n.invariant is)

pub returns : goal.returns
returns c =
    let whole : c.loop-n.n ≡ length c.args.input.now.routers = omega (arith, c.loop-n-test.false, c.loop-n.auto.n-end, c.len-n-end.ensures) in
    record { all = c.loop-n.invariant.all ∙ whole ∙ sym (as_many_routers c.args.input.now); each = c.loop-n.invariant.each }
