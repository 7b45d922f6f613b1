-- How a far side decides an event.
use Rattle.std.specs.Prelude.{◌≡◌, List}
use Rattle.std.specs.List.{AllByRecursion}
use Rattle.graft_model.specs.declared.event.FarEvent.{FarEvent}
use Rattle.graft_actors.specs.Actors.{ActorName, FarSide}
use Rattle.graft_actors.specs.Items.{MayGo}
use Rattle.audit_ruling.specs.Rulings.{Parcel, FarRules, FarRulesTaking}
use Rattle.bgp_session.specs.Running.{carried}
use Rattle.audit_ruling.specs.declared.ruling.Ruling.{Ruling}
use Rattle.audit_far.specs.Parts.{far_part, FarInvariant}
use Rattle.audit_far.specs.declared.far.AuditedFar.{AuditedFar}

-- it stays that of its peering, and sound
pub record KeepsFar (old new : AuditedFar) : Type 0 where
  pub setup : new.known.setup ≡ old.known.setup
  pub peering : new.peering ≡ old.peering
  pub sound : FarInvariant new

-- an event that takes nothing
pub record DecidesFar (event : FarEvent) (old : AuditedFar) (ruling : Ruling) (new : AuditedFar) : Type 0 where
  pub rules : FarRules old.known.setup old.peering.0 event (far_part old) ruling (far_part new)
  pub keeps : KeepsFar old new

-- one that takes the first item from this actor
pub record DecidesFarTaking (event : FarEvent) (from : ActorName) (old : AuditedFar) (channel : List Parcel)
    (ruling : Ruling) (new : AuditedFar) (rest : List Parcel) : Type 0 where
  pub rules : FarRulesTaking old.known.setup old.peering.0 event from (far_part old) channel ruling (far_part new) rest
  pub keeps : KeepsFar old new

-- each item of the channel may go there
abbrev pub AllFit : AuditedFar → ActorName → List Parcel → Type 0
AllFit f from channel = AllByRecursion (MayGo carried f.known.setup from (FarSide f.peering.0)) channel
