-- A far side as the model has it, and the invariant of its fields.
use Rattle.std.specs.Prelude.{ℕ, ◌≡◌, ◌<◌, ◌≤◌, ◌+◌, ◌^◌, Some, List, length, map, option_map, slice_get, if◌then◌else◌, Bool}
use Rattle.std.specs.List.{AllByRecursion, remove}
use Rattle.tcp_seq.specs.declared.segment.Segment.{Segment}
use Rattle.tcp_seq.specs.declared.segment.Way.TheVariants.{Home, Remote}
use Rattle.graft_model.specs.Setups.{keepalive_interval_of, routers_in, peerings_in}
use Rattle.graft_model.specs.Parts.{FarPart}
use Rattle.graft_actors.specs.Items.{IsSegmentOf, segment_of, home_first, remote_first}
use Rattle.actor_configs.specs.Says.{bytes_at, say_by}
use Rattle.audit_far.specs.declared.far.AuditedFar.{AuditedFar}

abbrev pub far_part : AuditedFar → FarPart
far_part f = record {
  end = f.remote.end;
  homeward = map (segment_of f.known.setup) f.homeward;
  remoteward = map (segment_of f.known.setup) f.remoteward;
  pointer = f.pointer.0;
  followed = f.followed;
  keepalives = f.keepalives;
  last_keepalive = f.last_keepalive;
}

-- what a bag holds after the segment at an index was given: the others, or all if it is kept
abbrev pub left_in_bag : Bool → ℕ → List Segment → List Segment
left_in_bag keep index segments = if keep then segments else remove segments index

pub record FarInvariant (f : AuditedFar) : Type 0 where
  -- the configuration is its laboratory's
  pub routers : f.routers ≡ routers_in f.known.setup
  pub few : f.routers ≤ 256
  pub there : f.peering.0 < peerings_in f.known.setup
  pub keepalive_interval : option_map keepalive_interval_of (slice_get f.known.setup.peerings f.peering.0) ≡ Some f.keepalive_interval
  pub says : (step : ℕ) → bytes_at f.says step ≡ say_by f.peering.0 (slice_get f.known.setup.steps step)
  -- the remote and the segments in both bags are its peering's
  pub remote : f.remote.peering ≡ f.peering.0
  pub sends : f.remote.send_first ≡ remote_first f.known.setup f.peering.0
  pub receives : f.remote.receive_first ≡ home_first f.known.setup f.peering.0
  pub homeward : AllByRecursion (IsSegmentOf f.known.setup f.peering.0 Home) f.homeward
  pub remoteward : AllByRecursion (IsSegmentOf f.known.setup f.peering.0 Remote) f.remoteward

-- The stream has room for a KEEPALIVE, if the remote has a timer and not all its KEEPALIVEs were said.
abbrev pub HasRoomToBeat : AuditedFar → Type 0
HasRoomToBeat f = 0 < f.keepalive_interval → f.keepalives < 27594 → length f.remote.end.stream + 19 ≤ 2 ^ 20
