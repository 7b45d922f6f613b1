use Rattle.router_rows.proofs.Sound.{laboratory_is_sound}
use Rattle.router_rows.proofs.Configs.{config_of_2}
use Rattle.router_rows.proofs.laboratory.router_2.Goals as goal

pub new-requires-clause-setup : goal.new-requires-clause-setup
new-requires-clause-setup c = rw c.new-known.ensures laboratory_is_sound

pub new-requires-clause-config : goal.new-requires-clause-config
new-requires-clause-config c =
    rw c.new-known.ensures (rw c.in_ok-config.ensures (rw c.new-policies.ensures (rw c.in_ok-networks.ensures (rw c.in_ok-sessions.ensures config_of_2))))
