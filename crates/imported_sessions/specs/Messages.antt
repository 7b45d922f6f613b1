-- What remotes say, message by message, in the order of a capture.
use Rattle.std.specs.Prelude.{ℕ, suc, ◌+◌, ◌==◌, nat_le, max, if◌then◌else◌, Bool, not, ◌&&◌, List, [], ◌∷◌, length, map, take, drop, filter}
use Rattle.std.specs.Prelude.{Option, Some, None, slice_get}
use Rattle.std.specs.List.{flat_map, range_with_len}
use Rattle.tcp_seq.specs.declared.segment.Way.{Way}
use Rattle.tcp_seq.specs.declared.segment.Way.TheVariants.{Home, Remote}
use Rattle.bgp_types.specs.Header.{frame_at, kind_in}
use Rattle.bgp_types.specs.Many.{many}
use Rattle.captured_streams.specs.Peers.{is_home}
use Rattle.captured_streams.specs.declared.streams.Flow.{Flow}
use Rattle.imported_sessions.specs.declared.imported.Said.{Said}

-- ---- streams

abbrev pub goes : Way → Way → Bool
goes Home way = is_home way
goes Remote way = not (is_home way)

abbrev pub octets_of : Way → (k : ℕ) → Flow → List ℕ
octets_of way k flow = if goes way flow.way && flow.peer == k then flow.octets else []

-- all octets of a connection that go this way
abbrev pub stream : Way → (k : ℕ) → List Flow → List ℕ
stream way k flows = flat_map (octets_of way k) flows

-- ---- messages

-- the messages with which a remote's stream begins, and what is behind them (RFC 4271, section 4.1)
abbrev pub messages : (k : ℕ) → List Flow → List (List ℕ)
messages k flows = (many frame_at (stream Home k flows)).0

abbrev pub unfinished : (k : ℕ) → List Flow → List ℕ
unfinished k flows = (many frame_at (stream Home k flows)).1

-- How many messages are what a remote says at first: its OPEN, and a KEEPALIVE behind it, if both have at most 4,096 octets.
abbrev pub opening_len : List (List ℕ) → ℕ
opening_len [] = 0
opening_len (first ∷ []) = 1
opening_len (first ∷ next ∷ rest) = if kind_in next == 4 && nat_le (length first + length next) 4096 then 2 else 1

-- their octets
abbrev pub opening : List (List ℕ) → List ℕ
opening all = flat_map (λ message. message) (take (opening_len all) all)

-- the messages behind the opening that are whole with this flow and weren't before it
abbrev pub ended_by : List Flow → (n : ℕ) → Option Flow → List Said
ended_by flows n None = []
ended_by flows n (Some flow) =
    let all = messages flow.peer (take (suc n) flows) in
    map (λ message. record { peer = flow.peer; octets = message }) (drop (max (opening_len all) (length (messages flow.peer (take n flows)))) all)

abbrev pub ended_at : List Flow → (n : ℕ) → List Said
ended_at flows n = ended_by flows n (slice_get flows n)

-- those of the remotes that are kept, in the order in which they are whole
abbrev pub told : (keeps : ℕ → Bool) → List Flow → List Said
told keeps flows = filter (λ said. keeps said.peer) (flat_map (ended_at flows) (range_with_len 0 (length flows)))
