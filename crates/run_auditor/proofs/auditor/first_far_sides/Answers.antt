use Rattle.std.proofs.Common.{◌≡◌, ◌+◌, ◌∙◌, length, ap, arith, subst, sym}
use Rattle.std.specs.Prelude.{slice_get}
use Rattle.graft_edge.specs.declared.ids.PeeringId.{PeeringId}
use Rattle.graft_model.specs.First.{first_far}
use Rattle.graft_model.specs.Setups.{Setup}
use Rattle.actor_configs.specs.Fars.{IsFarConfigOf}
use Rattle.lab_setup.specs.Setups.{setup_of}
use Rattle.lab_setup.proofs.Ready.{as_many_peerings}
use Rattle.node_configs.proofs.Accepted.{few}
use Rattle.run_auditor.specs.Begins.{IsFirstFarSide}
use Rattle.run_auditor.proofs.Begun.{AllAt, one_more}
use Rattle.run_auditor.proofs.auditor.first_far_sides.Goals as goal

-- there are few enough for a number of 8 bits
pub overflow_cast-n : goal.overflow_cast-n
overflow_cast-n c =
    let most = (few c.args.input.now c.requires).peerings in
    omega (arith, most, c.loop-n-test.true, c.len-n-end.ensures)

pub new-requires : goal.new-requires
new-requires c = subst (λ (s : Setup). IsFarConfigOf s c.in_ok-config.config) (sym c.known_for.ensures) c.in_ok-config.ensures.config

-- one far side more
pub loop-n-preserved : goal.loop-n-preserved
loop-n-preserved c =
    let number = ap (λ (p : PeeringId). p.0) c.in_ok-config.ensures.peering in
    let is : IsFirstFarSide (setup_of c.args.input.now) c.loop-n.n c.in_ok-far.far = record {
      setup_is = c.in_ok-far.ensures.setup ∙ c.known_for.ensures;
      number = ap (λ (p : PeeringId). p.0) c.in_ok-far.ensures.peering ∙ number;
      first = c.in_ok-far.ensures.first ∙ (λ i. first_far (slice_get (c.known_for.ensures i).peerings (number i)));
      sound = c.in_ok-far.ensures.sound;
    } in
    subst (AllAt (IsFirstFarSide (setup_of c.args.input.now)) (c.loop-n.n + 1)) (sym c.in_ok-push.ensures.items)
    (one_more (IsFirstFarSide (setup_of c.args.input.now)) c.loop-n.n c.loop-n.far_sides.items c.in_ok-far.far c.loop-n.invariant is)

pub returns : goal.returns
returns c =
    let whole : c.loop-n.n ≡ length c.args.input.now.peerings = omega (arith, c.loop-n-test.false, c.loop-n.auto.n-end, c.len-n-end.ensures) in
    record { all = c.loop-n.invariant.all ∙ whole ∙ sym (as_many_peerings c.args.input.now); each = c.loop-n.invariant.each }
