-- A far side: how it begins, and the contracts of its calls.
use Rattle.std.specs.Prelude.{ℕ, ◌≡◌, List, [], slice_get}
use Rattle.ring_net.specs.Deeds.{Deed}
use Rattle.graft_steps.specs.declared.item.Item.{Item}
use Rattle.graft_model.specs.Setups.{Setup}
use Rattle.graft_model.specs.Parts.{FarPart}
use Rattle.graft_model.specs.First.{first_far}
use Rattle.graft_actors.specs.Actors.{FarSide, FarIs}
use Rattle.graft_actors.specs.Acts.{OwnPart}
use Rattle.far_side.specs.Parts.{far_part, own_part, HasLinks}
use Rattle.far_side.specs.Takes.{TookAsFar}
use Rattle.far_side.specs.Turned.{FarTurned}
use Rattle.actor_configs.specs.declared.far.FarConfig.{FarConfig}
use Rattle.far_side.specs.declared.far.Far.{Far}

-- the peering whose far side it is
abbrev pub peering_in : Far → ℕ
peering_in f = f.fields.peering.0

-- a far side's part of the world, by itself and as an actor
abbrev pub part_of_far : Far → FarPart
part_of_far f = far_part f.fields

abbrev pub far_own_part : Far → OwnPart
far_own_part f = own_part f.fields

-- The far side is that of its peering in the first world, with empty links and before its first turn.
pub record IsNewFar (setup : Setup) (config : FarConfig) (far : Far) : Type 0 where
  pub is : far_own_part far ≡ record { setup = setup; name = FarSide config.peering.0; part = FarIs (first_far (slice_get setup.peerings config.peering.0)) }
  pub at_turn : far.fields.remote.at_turn ≡ 0
  pub links : HasLinks far.fields
  pub homeward : (far.fields.homeward.plans ≡ []) × (far.fields.homeward.put ≡ 0)
  pub remoteward : (far.fields.remoteward.plans ≡ []) × (far.fields.remoteward.put ≡ 0)
  pub turns : far.fields.turns ≡ 0
  pub keepalive_interval : far.fields.keepalive_interval ≡ config.beat
  pub plan : far.fields.plan ≡ config.plan

-- what a take and a turn promise beside their events
abbrev pub took_by_far : {C : Type 0} → Far → ℕ → Item C → List (Deed (Item C)) → Far → Type 0
took_by_far old from item deeds new = TookAsFar old.fields from item deeds new.fields

abbrev pub turned_by_far : {C : Type 0} → Far → List (Deed (Item C)) → Far → Type 0
turned_by_far old deeds new = FarTurned old.fields deeds new.fields
