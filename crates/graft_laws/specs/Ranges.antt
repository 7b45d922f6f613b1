-- The ranges of an input's numbers. A setup that a program reads has them by the types of its values.
use Rattle.std.specs.Prelude.{ℕ, ◌≡◌, ◌<◌, ◌^◌, List, Some, IfSome, slice_get}
use Rattle.std.specs.List.{AllByRecursion}
use Rattle.bgp_types.specs.OctetLists.{AreOctets}
use Rattle.route_policy.specs.declared.rule.Rule.{Rule}
use Rattle.session_value.specs.declared.config.SessionConfig.{SessionConfig}
use Rattle.graft_model.specs.Setups.{Setup, PeeringSetup, SayStep, config_of, rules_named}

-- a MED that a rule sets has 32 bits
abbrev pub HasMedInRange : Rule → Type 0
HasMedInRange rule = IfSome rule.med (λ med. med < 2 ^ 32)

-- AS numbers and MEDs have 32 bits, and what remotes say are octets.
pub record IsInRange (setup : Setup) : Type 0 where
  pub home_as : setup.home_as < 2 ^ 32
  pub remote_as : (p : ℕ) (config : SessionConfig) → config_of setup p ≡ Some config → config.remote_as < 2 ^ 32
  pub openings : (p : ℕ) (peering : PeeringSetup) → slice_get setup.peerings p ≡ Some peering → AreOctets peering.opening
  pub says : (n p : ℕ) (bytes : List ℕ) → slice_get setup.steps n ≡ Some (SayStep p bytes) → AreOctets bytes
  pub meds : (r : ℕ) (name : List ℕ) (rules : List Rule) → rules_named setup r name ≡ Some rules → AllByRecursion HasMedInRange rules
