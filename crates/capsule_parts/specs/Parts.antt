-- The parts of a capsule, by the session that it carries.
use Rattle.std.specs.Prelude.{ℕ, Bool, ◌+◌, ◌==◌, if◌then◌else◌, List, [], ◌∷◌, drop, map}
use Rattle.std.specs.FinMap as finmap
use Rattle.bgp_types.specs.Spelling.{spell}
use Rattle.tcp_seq.specs.declared.segment.Way.TheVariants.{Remote}
use Rattle.tcp_seq.specs.declared.state.Piece.{Piece}
use Rattle.tcp_seq.specs.declared.state.EndState.{EndState}
use Rattle.tcp_seq.specs.Endpoint.{Endpoint, received}
use Rattle.bgp_story.specs.declared.line.Line.{Line}
use Rattle.bgp_story.specs.declared.line.Line.TheVariants as lines
use Rattle.bgp_story.specs.Legal.{Peering, is_wide}
use Rattle.session_value.specs.declared.config.SessionConfig.{SessionConfig}
use Rattle.session_value.specs.Sessions.{peering_of, unread}
use Rattle.bgp_session.specs.Running.{RunningSession}
use Rattle.capsule_bytes.specs.declared.parts.CapsuleParts.{CapsuleParts}
use Rattle.capsule_bytes.specs.declared.parts.PartLine.{PartLine}
use Rattle.capsule_bytes.specs.declared.parts.PartLine.TheVariants as parts

-- ---- the story

-- a line in octets, with AS numbers of this width
abbrev pub part_line : Bool → Line → PartLine
part_line wide (lines.Put message) = parts.Put (spell message wide)
part_line wide (lines.Got bytes) = parts.Got bytes
part_line wide (lines.Tick round) = parts.Tick round

-- the story in octets, all of it in the width that its OPENs settle
abbrev pub part_lines : Peering → List Line → List PartLine
part_lines p story = map (part_line (is_wide p story)) story

-- ---- the endpoint

-- a byte in front of pieces: it belongs to the first of them if that begins at the next offset
abbrev pub in_front : (offset byte : ℕ) → List Piece → List Piece
in_front offset byte [] = record { offset = offset; bytes = byte ∷ [] } ∷ []
in_front offset byte (p ∷ ps) =
    if p.offset == offset + 1 then record { offset = offset; bytes = byte ∷ p.bytes } ∷ ps else record { offset = offset; bytes = byte ∷ [] } ∷ p ∷ ps

-- bytes with their offsets, as pieces: bytes whose offsets follow one another stand in one piece
abbrev pub pieces_of : List (ℕ × ℕ) → List Piece
pieces_of [] = []
pieces_of (e ∷ es) = in_front e.0 e.1 (pieces_of es)

-- the pieces that arrived ahead of a hole: all that arrived but the received bytes, which stand first
abbrev pub ahead_of : Endpoint → List Piece
ahead_of e = pieces_of (drop (received e) (finmap.entries e.arrived))

-- The endpoint at rest. All that it received in order counts as taken: the story got it, or it is held.
abbrev pub end_of : RunningSession → EndState
end_of capsule = record {
  way = Remote;
  peering = capsule.session.config.peering;
  send_first = capsule.session.config.send_first;
  acked = capsule.session.end.acked;
  sent = capsule.session.end.emitted;
  waiting = drop capsule.session.end.acked capsule.session.end.stream;
  receive_first = capsule.session.config.receive_first;
  taken = received capsule.session.end;
  ready = [];
  ahead = ahead_of capsule.session.end;
  acked_at_turn = capsule.acked_at_turn;
  owed = capsule.session.end.owed;
}

-- ---- the whole

-- Its tables aren't among its parts: they are what its story tells.
abbrev pub parts_of : RunningSession → CapsuleParts
parts_of capsule = let config = capsule.session.config in record {
  peering = config.peering;
  remote_as = config.remote_as;
  home_as = config.home_as;
  identifier = config.identifier;
  remote_address = config.remote_address;
  local_address = config.local_address;
  home_hold = config.home_hold;
  offered = config.offered;
  unicast = config.unicast;
  import = config.import;
  export = config.export;
  end = end_of capsule;
  held = unread capsule.session;
  story = part_lines (peering_of config) capsule.session.story;
  late = [];
}

-- the configuration in parts
abbrev pub config_of : CapsuleParts → SessionConfig
config_of parts = record {
  peering = parts.peering;
  home_as = parts.home_as;
  identifier = parts.identifier;
  remote_as = parts.remote_as;
  offered = parts.offered;
  unicast = parts.unicast;
  home_hold = parts.home_hold;
  remote_address = parts.remote_address;
  local_address = parts.local_address;
  send_first = parts.end.send_first;
  receive_first = parts.end.receive_first;
  import = parts.import;
  export = parts.export;
}
