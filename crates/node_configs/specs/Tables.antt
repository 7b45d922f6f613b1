-- What a router begins with, by the tables of an input.
use Rattle.std.specs.Prelude.{ℕ, ◌==◌, List, [], ◌∷◌, if◌then◌else◌}
use Rattle.std.specs.List.{enumerate_from, flat_map}
use Rattle.lab_tables.specs.declared.input.LabInput.{LabInput}
use Rattle.lab_tables.specs.declared.input.PeeringInput.{PeeringInput}
use Rattle.lab_tables.specs.declared.input.PolicyInput.{PolicyInput}
use Rattle.session_value.specs.declared.config.SessionConfig.{SessionConfig}
use Rattle.lab_setup.specs.Setups.{peering_config}
use Rattle.actor_configs.specs.declared.router.Firsts.{Firsts}
use Rattle.actor_configs.specs.declared.router.NamedPolicy.{NamedPolicy}

abbrev pub named_policy : PolicyInput → NamedPolicy
named_policy p = record { name = p.name; policy = p.rules }

-- the sequence numbers of the first bytes that both sides of a peering send
abbrev pub firsts_of : PeeringInput → Firsts
firsts_of p = record { home = record { 0 = p.home_seq }; remote = record { 0 = p.remote_seq } }

-- what the session of a peering begins with, where it starts at this router; the peering stands with its number
abbrev pub session_if : LabInput → ℕ → ℕ × PeeringInput → List SessionConfig
session_if input r p = if p.1.at.0 == r then peering_config input p ∷ [] else []

-- what the sessions begin with that start at a router, by rising peering
abbrev pub session_configs_at : LabInput → ℕ → List SessionConfig
session_configs_at input r = flat_map (session_if input r) (enumerate_from 0 input.peerings)
