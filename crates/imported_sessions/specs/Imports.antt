-- What a capture is imported as.
use Rattle.std.specs.Prelude.{ℕ, ◌≡◌, ◌≤◌, ◌<◌, ◌+◌, ◌==◌, ◌&&◌, if◌then◌else◌, Bool, false, List, [], ◌∷◌, ◌++◌, length, filter_map}
use Rattle.std.specs.Prelude.{Option, Some, None, option_map, is_some, IsSome, slice_get, bytes_eq}
use Rattle.std.specs.Option.{option_map_or}
use Rattle.std.specs.List.{All, flat_map, enumerate_from, list_any}
use Rattle.tcp_seq.specs.declared.segment.Way.TheVariants.{Home}
use Rattle.bgp_types.specs.declared.message.Cap.{Cap}
use Rattle.bgp_types.specs.declared.message.OpenMsg.{OpenMsg}
use Rattle.bgp_types.specs.OpenBody.{as_said}
use Rattle.tcp_packets.specs.declared.socket.Socket.{Socket}
use Rattle.captured_streams.specs.declared.directed.Peer.{Peer}
use Rattle.captured_streams.specs.declared.streams.Streams.{Streams}
use Rattle.imported_sessions.specs.Messages.{messages, opening, stream}
use Rattle.imported_sessions.specs.Opens.{as_of, first_home, home_open, is_external, IsHomeAs, remote_open, remote_opens}
use Rattle.imported_sessions.specs.Steps.{AreSteps}
use Rattle.imported_sessions.specs.declared.imported.Said.{Said}
use Rattle.imported_sessions.specs.declared.imported.ImportedPeering.{ImportedPeering}
use Rattle.imported_sessions.specs.declared.imported.Imported.{Imported}

-- ---- peerings

-- an OPEN has the capability of four-octet AS numbers (RFC 6793, section 3)
abbrev pub is_wide : OpenMsg → Bool
is_wide o = is_some (as_said o.caps)

-- the capability of IPv4 unicast: AFI 1, SAFI 1 (RFC 4760, section 8)
abbrev pub is_unicast : Cap → Bool
is_unicast cap = cap.code == 1 && bytes_eq cap.bytes (0 ∷ 1 ∷ 0 ∷ 1 ∷ [])

abbrev pub has_unicast : OpenMsg → Bool
has_unicast o = list_any is_unicast o.caps

-- The peering of a connection whose remote's OPEN and, if it was captured, whose home side's OPEN is this. A home side whose OPEN wasn't captured
-- supports four-octet AS numbers if the remote does.
abbrev pub peering_with : Streams → (k : ℕ) → Peer → OpenMsg → Option OpenMsg → ImportedPeering
peering_with s k peer o home = record {
  peer = k;
  remote_as = as_of o;
  remote_address = peer.remote.address;
  local_address = peer.home.address;
  remote_id = o.identifier;
  hold = o.hold;
  opening = opening (messages k s.flows);
  as4 = option_map_or is_wide home (is_wide o);
  remote_as4 = is_wide o;
  home_hold = option_map_or (λ o. o.hold) home 0;
  unicast = option_map_or has_unicast home false;
}

abbrev pub peering_at : Streams → (home_as : ℕ) → ℕ × Peer → Option ImportedPeering
peering_at s home_as (k, peer) =
    if is_external s home_as k then option_map (λ o. peering_with s k peer o (home_open s k)) (remote_open s k) else None

-- those of all connections to other ASes, in their order
abbrev pub peerings : Streams → (home_as : ℕ) → List ImportedPeering
peerings s home_as = filter_map (peering_at s home_as) (enumerate_from 0 s.peers)

-- ---- the whole

-- These sessions are imported so: each remote begins with a sound OPEN; those of the home side's own AS are left out.
pub record IsImport (s : Streams) (i : Imported) : Type 0 where
  pub opens : (k : ℕ) → k < length s.peers → IsSome (remote_open s k)
  pub home_as : IsHomeAs (remote_opens s) (first_home s) i.home_as
  pub home_id : i.home_id ≡ option_map (λ o. o.identifier) (first_home s)
  pub peerings_are : i.peerings ≡ peerings s i.home_as
  pub steps : AreSteps (is_external s i.home_as) (length s.peers) s.flows i.steps
  pub internal : i.internal + length i.peerings ≡ length s.peers
  pub fragments : i.fragments ≡ s.fragments
  pub others : i.others ≡ s.others

-- the first remote that doesn't begin with a sound OPEN
pub record IsFirstWithoutOpen (s : Streams) (remote : Socket) : Type 0 where
  pub k : ℕ
  pub peer : Peer
  pub at : slice_get s.peers k ≡ Some peer
  pub is : remote ≡ peer.remote
  pub none : remote_open s k ≡ None
  pub first : (n : ℕ) → n < k → IsSome (remote_open s n)

-- ---- what follows

abbrev pub octets_by : (k : ℕ) → Said → List ℕ
octets_by k said = if said.peer == k then said.octets else []

-- The opening of each peering and its steps, one behind another, are all that its remote says.
abbrev pub SayAll : Streams → Imported → Type 0
SayAll s i = (n : ℕ) (p : ImportedPeering) → slice_get i.peerings n ≡ Some p
    → p.opening ++ flat_map (octets_by p.peer) i.steps ≡ stream Home p.peer s.flows

-- No opening and no step has more than 4,096 octets, and each step has some.
pub record AreSmall (i : Imported) : Type 0 where
  pub openings : All (λ p. length p.opening ≤ 4096) i.peerings
  pub steps : All (λ step. (1 ≤ length step.octets) × (length step.octets ≤ 4096)) i.steps
