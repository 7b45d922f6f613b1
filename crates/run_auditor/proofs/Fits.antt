-- What the world for which an auditor stands says of the items that come to an actor, and of the room in streams.
use Rattle.std.proofs.Common.{◌≡◌, ℕ, ◌+◌, ◌<◌, ◌≤◌, ◌^◌, false, length, Option, Some, None, option_map, refl, sym, ap, ◌∙◌, subst, arith}
use Rattle.std.specs.Prelude.{slice_get}
use Rattle.std.specs.List.{AllByRecursion}
use Rattle.std.proofs.lemmas.Option.{same_Some}
use Rattle.bgp_session.specs.Running.{carried}
use Rattle.bgp_types.specs.declared.message.Message.TheVariants.{KeepaliveMsg}
use Rattle.bgp_types.specs.Spelling.{spell}
use Rattle.session_value.proofs.Rooms.{keepalive_size}
use Rattle.graft_model.specs.Setups.{PeeringSetup, Setup, keepalive_interval_of}
use Rattle.graft_model.specs.Parts.{FarPart, World}
use Rattle.graft_laws.proofs.SaidSteps.{beat_fits}
use Rattle.graft_laws.proofs.StreamLaws.{said_is}
use Rattle.graft_actors.specs.Actors.{ActorName, IsActor, actor_at, number_in}
use Rattle.graft_actors.specs.Items.{MayGo}
use Rattle.graft_actors.proofs.Numbers.{there}
use Rattle.world_runs.specs.Labs.{AllMayGo}
use Rattle.audit_channels.specs.Channels.{parcels}
use Rattle.audit_far.specs.Parts.{FarInvariant, HasRoomToBeat, far_part}
use Rattle.audit_far.specs.declared.far.AuditedFar.{AuditedFar}
use Rattle.run_auditor.specs.States.{StandsFor}
use Rattle.run_auditor.specs.declared.auditor.Auditor.{Auditor}

module _ (f : Auditor) (w : World) (s : StandsFor f w) where
  -- each item may go where it is on its way to
  pub all_fit : (from to : ActorName) → IsActor f.known.setup from → IsActor f.known.setup to
      → AllByRecursion (MayGo carried f.known.setup from to) (parcels f.inboxes.items (number_in f.known.setup from) (number_in f.known.setup to))
  all_fit from to here known =
      let a : ℕ = number_in f.known.setup from in
      let b : ℕ = number_in f.known.setup to in
      subst (λ (o : Option ActorName). AllMayGo carried f.known.setup o (Some to) (parcels f.inboxes.items a b)) (there f.known.setup from here)
      (subst (λ (o : Option ActorName). AllMayGo carried f.known.setup (actor_at f.known.setup a) o (parcels f.inboxes.items a b)) (there f.known.setup to known)
      (s.lab.fits a b))

  -- a KEEPALIVE of a timer that may still run has room
  pub room_to_beat : (x : AuditedFar) → x.known.setup ≡ f.known.setup → FarInvariant x → far_part x ≡ w.far x.peering.0 → HasRoomToBeat x
  room_to_beat x setup_is sound part_is some few =
      by_peering (slice_get f.known.setup.peerings x.peering.0) refl
      (sym (ap (λ (z : Setup). option_map keepalive_interval_of (slice_get z.peerings x.peering.0)) setup_is) ∙ sound.keepalive_interval)
    where
      by_peering : (o : Option PeeringSetup) → slice_get f.known.setup.peerings x.peering.0 ≡ o → option_map keepalive_interval_of o ≡ Some x.keepalive_interval
          → length x.remote.end.stream + 19 ≤ 2 ^ 20
      by_peering None is e = absurd cc
      by_peering (Some peering) is e =
          let interval : keepalive_interval_of peering ≡ x.keepalive_interval = same_Some (keepalive_interval_of peering) x.keepalive_interval e in
          let fits : length (w.far x.peering.0).end.stream + length (spell KeepaliveMsg false) ≤ 2 ^ 20 =
          beat_fits f.known.setup x.peering.0 peering w (s.sound.peerings x.peering.0 peering is)
          (said_is f.known.setup x.peering.0 peering w is s.reached) (subst (λ (n : ℕ). 0 < n) (sym interval) some)
          (subst (λ (part : FarPart). part.keepalives < 27594) part_is few) in
          let here : length x.remote.end.stream + length (spell KeepaliveMsg false) ≤ 2 ^ 20 =
          subst (λ (part : FarPart). length part.end.stream + length (spell KeepaliveMsg false) ≤ 2 ^ 20) (sym part_is) fits in
          omega (arith, here, keepalive_size false)
