use Rattle.std.proofs.Common.{sym, subst}
use Rattle.graft_model.specs.Setups.{Setup, IsSetup}
use Rattle.actor_configs.specs.Configs.{IsRouterConfigOf}
use Rattle.router_core.specs.Routers.{IsNewRouter}
use Rattle.lab_setup.specs.Setups.{setup_of}
use Rattle.node_configs.proofs.Accepted.{is_setup}
use Rattle.lab_actors.proofs.Begun.{router_first}
use Rattle.lab_actors.proofs.actors.router_of.Goals as goal

pub new-requires-clause-setup : goal.new-requires-clause-setup
new-requires-clause-setup c = subst IsSetup (sym c.known_for-known.ensures) (is_setup c.args.input.now c.requires.accepted)

pub new-requires-clause-config : goal.new-requires-clause-config
new-requires-clause-config c = subst (λ (s : Setup). IsRouterConfigOf s c.in_ok-config.config) (sym c.known_for-known.ensures) c.in_ok-config.ensures.config

pub returns : goal.returns
returns c =
    router_first (setup_of c.args.input.now) c.args.input.now.faults c.args.number c.in_ok-config.config c.in_ok-router.router c.in_ok-config.ensures.number
    (subst (λ (s : Setup). IsNewRouter s c.in_ok-config.config c.in_ok-router.router) c.known_for-known.ensures c.in_ok-router.ensures)
