-- The world for which an auditor stands.
use Rattle.std.specs.Prelude.{Option, Some, None, slice_get}
use Rattle.std.specs.Option.{option_map, unwrap_or}
use Rattle.journal_merge.specs.Worlds as worlds
use Rattle.graft_model.specs.Setups.{IsSetup}
use Rattle.graft_model.specs.Parts.{World}
use Rattle.graft_model.specs.First.{first_router, first_far}
use Rattle.graft_laws.specs.Keeps.{Reached}
use Rattle.graft_actors.specs.Actors.{ActorName, Router, FarSide, Operator, actor_at}
use Rattle.graft_actors.specs.Acts.{OwnPart}
use Rattle.world_runs.specs.Labs.{IsLab}
use Rattle.audit_ruling.specs.Rulings.{Parcel, router_own, far_own, operator_own}
use Rattle.bgp_session.specs.Running.{carried}
use Rattle.audit_channels.specs.Channels.{parcels}
use Rattle.audit_far.specs.Parts.{far_part}
use Rattle.audit_operator.specs.Parts.{operator_part}
use Rattle.audit_router.specs.Parts.{router_part}
use Rattle.run_auditor.specs.declared.auditor.Auditor.{Auditor}

-- the part of an actor as the auditor has it; one that doesn't exist is as in the first world
abbrev pub own_of : Auditor → Option ActorName → OwnPart
own_of f (Some (Router r)) =
    router_own f.known.setup r (unwrap_or (option_map router_part (slice_get f.routers.items r)) (first_router f.known.setup r))
own_of f (Some (FarSide p)) = far_own f.known.setup p (unwrap_or (option_map far_part (slice_get f.far_sides.items p)) (first_far None))
own_of f (Some Operator) = operator_own f.known.setup (operator_part f.operator)
own_of f None = operator_own f.known.setup (operator_part f.operator)

-- its actors and channels, by numbers
abbrev pub lab_of : Auditor → worlds.DeedWorld OwnPart Parcel
lab_of f = record { part = λ n. own_of f (actor_at f.known.setup n); channel = λ a b. parcels f.inboxes.items a b }

-- The auditor stands for this world, which a run leads to: its actors' parts and all items on their way are the world's. It stands for only one.
pub record StandsFor (f : Auditor) (w : World) : Type 0 where
  pub sound : IsSetup f.known.setup
  pub reached : Reached f.known.setup w
  pub lab : IsLab carried f.known.setup (lab_of f) w
