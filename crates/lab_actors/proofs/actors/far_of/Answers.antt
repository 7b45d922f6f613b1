use Rattle.std.proofs.Common.{sym, subst}
use Rattle.graft_model.specs.Setups.{Setup}
use Rattle.actor_configs.specs.Fars.{IsFarConfigOf}
use Rattle.far_side.specs.Fars.{IsNewFar}
use Rattle.lab_setup.specs.Setups.{setup_of}
use Rattle.lab_actors.proofs.Begun.{far_first}
use Rattle.lab_actors.proofs.actors.far_of.Goals as goal

pub new-requires : goal.new-requires
new-requires c = subst (λ (s : Setup). IsFarConfigOf s c.in_ok-config.config) (sym c.known_for-known.ensures) c.in_ok-config.ensures.config

pub returns : goal.returns
returns c =
    far_first (setup_of c.args.input.now) c.args.input.now.faults c.args.peering
    c.in_ok-config.config c.in_ok-far.far c.in_ok-config.ensures.config c.in_ok-config.ensures.peering
    (subst (λ (s : Setup). IsNewFar s c.in_ok-config.config c.in_ok-far.far) c.known_for-known.ensures c.in_ok-far.ensures)
    (c.in_ok-config.ensures.plan)
