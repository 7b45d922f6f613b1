-- How a router decides an event.
use Rattle.std.specs.Prelude.{◌≡◌, List}
use Rattle.std.specs.List.{AllByRecursion}
use Rattle.graft_model.specs.declared.event.RouterEvent.{RouterEvent}
use Rattle.graft_actors.specs.Actors.{ActorName, Router}
use Rattle.graft_actors.specs.Items.{MayGo}
use Rattle.audit_ruling.specs.Rulings.{Parcel, RouterRules, RouterRulesTaking}
use Rattle.bgp_session.specs.Running.{carried}
use Rattle.audit_ruling.specs.declared.ruling.Ruling.{Ruling}
use Rattle.audit_router.specs.Parts.{router_part, setup_of_router, RouterInvariant}
use Rattle.audit_router.specs.declared.router.AuditedRouter.{AuditedRouter}

-- it stays the router that it is, and sound
pub record KeepsRouter (old new : AuditedRouter) : Type 0 where
  pub setup : setup_of_router new ≡ setup_of_router old
  pub number : new.tables.number ≡ old.tables.number
  pub sound : RouterInvariant new

-- an event that takes nothing
pub record Decides (event : RouterEvent) (old : AuditedRouter) (ruling : Ruling) (new : AuditedRouter) : Type 0 where
  pub rules : RouterRules (setup_of_router old) old.tables.number.0 event (router_part old) ruling (router_part new)
  pub keeps : KeepsRouter old new

-- one that takes the first item from this actor
pub record DecidesTaking (event : RouterEvent) (from : ActorName) (old : AuditedRouter) (channel : List Parcel)
    (ruling : Ruling) (new : AuditedRouter) (rest : List Parcel) : Type 0 where
  pub rules : RouterRulesTaking (setup_of_router old) old.tables.number.0 event from (router_part old) channel ruling (router_part new) rest
  pub keeps : KeepsRouter old new

-- each item of the channel may go there
abbrev pub AllFit : AuditedRouter → ActorName → List Parcel → Type 0
AllFit r from channel = AllByRecursion (MayGo carried (setup_of_router r) from (Router r.tables.number.0)) channel
