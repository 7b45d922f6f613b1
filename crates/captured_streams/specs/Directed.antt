-- Segments of BGP's connections, and which way they go.
use Rattle.std.specs.Prelude.{ℕ, zero, suc, ◌==◌, nat_le, Bool, false, ◌||◌, if◌then◌else◌, List, [], ◌∷◌, length, take, drop}
use Rattle.std.specs.Prelude.{Option, Some, None, Result, Ok, Err}
use Rattle.std.specs.List.{flat_map}
use Rattle.tcp_seq.specs.Numbers.{plus}
use Rattle.tcp_seq.specs.declared.segment.Way.{Way}
use Rattle.tcp_seq.specs.declared.segment.Way.TheVariants.{Home, Remote}
use Rattle.pcap_form.specs.Blocks.{Captured}
use Rattle.tcp_packets.specs.declared.read.LeftOut.{LeftOut}
use Rattle.tcp_packets.specs.Reading.{Segment, read_packet}
use Rattle.captured_streams.specs.declared.directed.Peer.{Peer}
use Rattle.captured_streams.specs.declared.directed.Directed.{Directed}

-- BGP's port is at one end (RFC 4271, section 4.2).
abbrev pub is_bgp : Segment → Bool
is_bgp s = s.source.port == 179 || s.target.port == 179

-- Which way a segment goes. The home end is the one with the address that is named; where none is named, it is the one with BGP's port, and of two of
-- them the one that the segment comes from.
abbrev pub way_of : (home : Option ℕ) → Segment → Option Way
way_of None s = Some (if s.source.port == 179 then Remote else Home)
way_of (Some address) s =
    if s.source.address == address then Some Remote else if s.target.address == address then Some Home else None

abbrev pub peer_of : Way → Segment → Peer
peer_of Home s = record { home = s.target; remote = s.source }
peer_of Remote s = record { home = s.source; remote = s.target }

abbrev pub directed_on : Option Way → Segment → List Directed
directed_on None s = []
directed_on (Some way) s = record { peer = peer_of way s; way = way; segment = s } ∷ []

abbrev pub directed_in : (home : Option ℕ) → Result Segment LeftOut → List Directed
directed_in home (Err left) = []
directed_in home (Ok s) = if is_bgp s then directed_on (way_of home s) s else []

-- those of a capture, in its order
abbrev pub whole_segments : (home : Option ℕ) → List Captured → List Directed
whole_segments home packets = flat_map (λ packet. directed_in home (read_packet packet)) packets

-- ---- in pieces

-- the first 4,096 octets of a segment, and those behind them
abbrev pub front : Directed → Directed
front s = record s { segment = record s.segment { octets = take 4096 s.segment.octets } }

abbrev pub behind : Directed → Directed
behind s = record s { segment = record s.segment { opens = false; first = plus s.segment.first 4096; octets = drop 4096 s.segment.octets } }

-- a segment in pieces of 4,096 octets: so many, and what is behind them
abbrev pub pieces : ℕ → Directed → List Directed
pieces zero s = s ∷ []
pieces (suc n) s = if nat_le (length s.segment.octets) 4096 then s ∷ [] else front s ∷ pieces n (behind s)

-- Where the network card cuts what a host sends, a capture that was made there has segments far longer than those that others receive, and longer than a
-- window. They are taken in pieces of at most 4,096 octets; 16 of these are as much as a packet of IPv4 can have.
abbrev pub in_pieces : Directed → List Directed
in_pieces s = pieces 16 s

-- all segments of a capture, in its order
abbrev pub directed : (home : Option ℕ) → List Captured → List Directed
directed home packets = flat_map in_pieces (whole_segments home packets)
