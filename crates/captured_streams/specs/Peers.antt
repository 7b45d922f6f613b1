-- The sessions that a capture has: of each remote its first connection on which it sends octets.
use Rattle.std.specs.Prelude.{ℕ, ◌==◌, Bool, true, false, not, ◌&&◌, if◌then◌else◌, List, [], ◌∷◌, ◌++◌, length, Option, fold, is_none}
use Rattle.std.specs.List.{list_any, position}
use Rattle.tcp_seq.specs.declared.segment.Way.{Way}
use Rattle.tcp_seq.specs.declared.segment.Way.TheVariants.{Home, Remote}
use Rattle.tcp_packets.specs.declared.socket.Socket.{Socket}
use Rattle.captured_streams.specs.declared.directed.Peer.{Peer}
use Rattle.captured_streams.specs.declared.directed.Directed.{Directed}

abbrev pub same_remote : Peer → Peer → Bool
same_remote one other = one.remote.address == other.remote.address

abbrev pub same_socket : Socket → Socket → Bool
same_socket one other = one.address == other.address && one.port == other.port

abbrev pub same_peer : Peer → Peer → Bool
same_peer one other = same_socket one.home other.home && same_socket one.remote other.remote

abbrev pub is_home : Way → Bool
is_home Home = true
is_home Remote = false

-- a remote sends octets
abbrev pub says : Directed → Bool
says s = is_home s.way && not (length s.segment.octets == 0)

-- one more connection, if it is the first one of its remote on which that sends octets
abbrev pub with_peer : List Peer → Directed → List Peer
with_peer known s = if says s then (if list_any (same_remote s.peer) known then known else known ++ s.peer ∷ []) else known

-- the first connection of each remote address on which it sends octets, in their order
abbrev pub peers : List Directed → List Peer
peers all = fold with_peer [] all

-- the number of a segment's connection among these; none if it is another one
abbrev pub peer_at : List Peer → Directed → Option ℕ
peer_at known s = position (same_peer s.peer) known

abbrev pub is_other : List Peer → Directed → Bool
is_other known s = is_none (peer_at known s)
