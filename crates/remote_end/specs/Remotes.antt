-- A scripted remote: its endpoint over whole numbers, and the segments that it emits.
use Rattle.std.specs.Prelude.{ℕ, ◌≡◌, ◌<◌, ◌≤◌, ◌+◌, ◌^◌, List, length, Option, Some, None, Bool, refl}
use Rattle.std.specs.Coded.{Coded, code_by, coded×, coded_ℕ, coded_bool, coded_list}
use Rattle.std.specs.FinMap as map
use Rattle.tcp_seq.specs.Endpoint.{Bytes, Endpoint, PlacedSegment, IsInStreams}
use Rattle.tcp_seq.specs.Placed.{placed}
use Rattle.tcp_seq.specs.declared.segment.Way.TheVariants.{Home, Remote}
use Rattle.tcp_seq.specs.declared.segment.Segment.{Segment}

-- the endpoint, how much was acknowledged at its last retransmission turn, its peering, and the initial sequence numbers of the remote and of its
-- peer
pub record RemoteValue : Type 0 where
  pub end : Endpoint
  pub at_turn : ℕ
  pub peering : ℕ
  pub send_first : ℕ
  pub receive_first : ℕ

-- an endpoint is stored as the tuple of its fields, and a remote as the tuple of its own
abbrev pub endpoint_code : Coded Endpoint
endpoint_code = code_by
    (List ℕ × (ℕ × (ℕ × (Bytes × (ℕ × Bool)))))
    (coded× (coded_list coded_ℕ) (coded× coded_ℕ (coded× coded_ℕ (coded× (map.code coded_ℕ coded_ℕ) (coded× coded_ℕ coded_bool)))))
    (λ e. (e.stream, (e.emitted, (e.acked, (e.arrived, (e.read, e.owed))))))
    (λ t. record { stream = t.0; emitted = t.1.0; acked = t.1.1.0; arrived = t.1.1.1.0; read = t.1.1.1.1.0; owed = t.1.1.1.1.1 })
    (λ _. refl)

abbrev pub remote_code : Coded RemoteValue
remote_code = code_by
    (Endpoint × (ℕ × (ℕ × (ℕ × ℕ))))
    (coded× endpoint_code (coded× coded_ℕ (coded× coded_ℕ (coded× coded_ℕ coded_ℕ))))
    (λ r. (r.end, (r.at_turn, (r.peering, (r.send_first, r.receive_first)))))
    (λ t. record { end = t.0; at_turn = t.1.0; peering = t.1.1.0; send_first = t.1.1.1.0; receive_first = t.1.1.1.1 })
    (λ _. refl)

-- a segment of this remote, that goes to home
pub record IsFrom (r : RemoteValue) (g : Segment) : Type 0 where
  pub peering : g.peering.0 ≡ r.peering
  pub way : g.way ≡ Home
  pub in_streams : IsInStreams (placed r.send_first r.receive_first g)
  pub short : length g.bytes ≤ 1024

-- a segment that is for this remote, with at most 65,535 bytes
pub record IsFor (r : RemoteValue) (g : Segment) : Type 0 where
  pub peering : g.peering.0 ≡ r.peering
  pub way : g.way ≡ Remote
  pub in_streams : IsInStreams (placed r.receive_first r.send_first g)
  pub short : length g.bytes < 2 ^ 16

-- The invariant of what an endpoint sends: no more is acknowledged than was emitted, and no more is emitted than the stream and the flight of 15,360
-- allow.
pub record SendingInvariant (e : Endpoint) : Type 0 where
  pub acked : e.acked ≤ e.emitted
  pub emitted : e.emitted ≤ length e.stream
  pub flight : e.emitted ≤ e.acked + 15360
  pub stream : length e.stream ≤ 2 ^ 20

-- whether a step emitted this segment
abbrev pub EmitsOf : (Endpoint → PlacedSegment → Endpoint → Type 0) → RemoteValue → Option Segment → Endpoint → Type 0
EmitsOf Step r None after = after ≡ r.end
EmitsOf Step r (Some g) after = IsFrom r g × Step r.end (placed r.send_first r.receive_first g) after
