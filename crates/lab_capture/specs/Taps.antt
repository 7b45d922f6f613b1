-- What is seen at the remotes' sides of the links: each segment as its remote sends it, and each as it reaches its remote.
use Rattle.std.specs.Prelude.{ℕ, List, [], ◌∷◌, length, nat_le, if◌then◌else◌, Option, None, slice_get}
use Rattle.std.specs.Option.{option_map, option_and_then}
use Rattle.tcp_seq.specs.Endpoint.{PlacedSegment}
use Rattle.tcp_seq.specs.declared.segment.Way.{Way}
use Rattle.tcp_seq.specs.declared.segment.Way.TheVariants.{Home, Remote}
use Rattle.graft_model.specs.Setups.{Setup}
use Rattle.graft_model.specs.Parts.{FarPart, World}
use Rattle.graft_model.specs.Steps.{Event, ByRouter, ByFar, ByOperator, Run}
use Rattle.graft_model.specs.declared.event.FarEvent.{FarEvent}
use Rattle.graft_model.specs.declared.event.FarEvent.TheVariants.{Send, Reach}
use Rattle.lab_tables.specs.declared.input.LabInput.{LabInput}
use Rattle.lab_capture.specs.Ends.{packet_to}

-- What a remote sends is the segment that goes into its link then, behind those that are there; what reaches it is the segment at an index of its link.
abbrev pub seen_by : FarEvent → (before after : FarPart) → Option (Way × PlacedSegment)
seen_by (Send from len) before after = option_map (λ s. (Home, s)) (slice_get after.homeward (length before.homeward))
seen_by (Reach index keep) before after = option_map (λ s. (Remote, s)) (slice_get before.remoteward index)
seen_by event before after = None

-- its packet, if it has room in one: 65,535 octets less the 40 of both headers
abbrev pub packet_at : LabInput → (p : ℕ) → Way × PlacedSegment → Option (List ℕ)
packet_at input p seen =
    if nat_le (length seen.1.bytes) 65495 then option_map (λ peering. packet_to seen.0 p peering seen.1) (slice_get input.peerings p) else None

-- the packet of an event that leads from one world to another, if there is one
abbrev pub tapped : LabInput → Event → (before after : World) → Option (List ℕ)
tapped input (ByRouter r event) before after = None
tapped input (ByFar p event) before after = option_and_then (packet_at input p) (seen_by event (before.far p) (after.far p))
tapped input (ByOperator event) before after = None

-- those of a run, event by event
abbrev pub tapped_along : LabInput → (setup : Setup) (w : World) (events : List Event) (v : World) → Run setup w events v → List (Option (List ℕ))
tapped_along input setup w [] v run = []
tapped_along input setup w (event ∷ events) v run = tapped input event w run.0 ∷ tapped_along input setup run.0 events v run.2
