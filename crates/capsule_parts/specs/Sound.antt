-- Which parts are those of a capsule.
use Rattle.std.specs.Prelude.{ℕ, Bool, ◌≡◌, ◌+◌, ◌<◌, ◌≤◌, List, [], ◌∷◌, length, drop, All}
use Rattle.std.specs.List.{flat_map}
use Rattle.bgp_types.specs.declared.message.SessionState.TheVariants.{Established}
use Rattle.bgp_types.specs.Writable.{IsWritable}
use Rattle.tcp_seq.specs.Endpoint.{received}
use Rattle.tcp_seq.specs.declared.segment.Way.TheVariants.{Remote}
use Rattle.tcp_seq.specs.declared.state.Piece.{Piece}
use Rattle.tcp_seq.specs.declared.state.EndState.{EndState}
use Rattle.tcp_end.specs.State.{got}
use Rattle.bgp_story.specs.declared.line.Line.{Line}
use Rattle.bgp_story.specs.declared.line.Line.TheVariants as lines
use Rattle.bgp_story.specs.Legal.{Peering, is_wide}
use Rattle.bgp_story.specs.Readings.{IsLegal}
use Rattle.session_value.specs.Fronts.{BeginsNothing}
use Rattle.session_value.specs.Sessions.{peering_of, state, unread}
use Rattle.session_value.specs.Ties.{IsOfStory}
use Rattle.bgp_session.specs.Running.{RunningSession}
use Rattle.capsule_bytes.specs.declared.parts.CapsuleParts.{CapsuleParts}
use Rattle.capsule_bytes.specs.declared.parts.PartLine.{PartLine}
use Rattle.capsule_bytes.specs.declared.parts.PartLine.TheVariants as parts
use Rattle.capsule_parts.specs.Parts.{part_lines, config_of}

-- ---- the story

abbrev pub PutsWritable : Bool → Line → Type 0
PutsWritable wide (lines.Put message) = IsWritable message wide
PutsWritable wide (lines.Got _) = Unit {0}
PutsWritable wide (lines.Tick _) = Unit {0}

-- The lines are those of a story: each Put is the spelling of a writable message in the story's width.
pub record AreSpelled (p : Peering) (octets : List PartLine) (story : List Line) : Type 0 where
  pub are : octets ≡ part_lines p story
  pub writable : All (PutsWritable (is_wide p story)) story

-- the octets that were put, and those that were got
abbrev pub put_in_part : PartLine → List ℕ
put_in_part (parts.Put octets) = octets
put_in_part (parts.Got _) = []
put_in_part (parts.Tick _) = []

abbrev pub got_in_part : PartLine → List ℕ
got_in_part (parts.Put _) = []
got_in_part (parts.Got octets) = octets
got_in_part (parts.Tick _) = []

abbrev pub put_octets : List PartLine → List ℕ
put_octets story = flat_map put_in_part story

abbrev pub got_octets : List PartLine → List ℕ
got_octets story = flat_map got_in_part story

-- ---- the endpoint

-- How much was emitted of a stream of this length: at most 15,360 bytes more than were acknowledged. Until a session is closed it puts at most
-- 1,044,480.
pub record IsInFlight (end : EndState) (put : ℕ) : Type 0 where
  pub acked : end.acked ≤ end.sent
  pub flight : end.sent ≤ end.acked + 15360
  pub emitted : end.sent ≤ put
  pub room : put ≤ 1044480

-- All that was received in order is taken, and it is at most 1 MiB.
pub record IsTaken (end : EndState) : Type 0 where
  pub none_ready : end.ready ≡ []
  pub few : got end ≤ 1048576

-- a piece that isn't empty, above an offset, and ends at or below another one
abbrev pub IsPieceAbove : (below high : ℕ) → Piece → Type 0
IsPieceAbove below high p = (below < p.offset) × (0 < length p.bytes) × (p.offset + length p.bytes ≤ high)

-- Such pieces, each above the end of the one before it.
abbrev pub LieAbove : (below high : ℕ) → List Piece → Type 0
LieAbove below high [] = Unit {0}
LieAbove below high (p ∷ ps) =
    (below < p.offset) × (0 < length p.bytes) × (p.offset + length p.bytes ≤ high) × LieAbove (p.offset + length p.bytes) high ps

-- ---- the whole

-- Parts are those of a capsule.
pub record IsSound (parts : CapsuleParts) : Type 0 where
  pub story : List Line
  pub puts : AreSpelled (peering_of (config_of parts)) parts.story story
  -- for these AS numbers, identifier, hold and offer
  pub legal : IsLegal (peering_of (config_of parts)) story Established
  pub waiting : parts.end.waiting ≡ drop parts.end.acked (put_octets parts.story)
  pub flight : IsInFlight parts.end (length (put_octets parts.story))
  pub taken : parts.end.taken ≡ length (got_octets parts.story) + length parts.held
  -- the held octets begin no whole message and no faulty header
  pub held : BeginsNothing parts.held
  pub received : IsTaken parts.end
  pub connection : (parts.end.peering ≡ parts.peering) × (parts.end.way ≡ Remote)
  pub ahead : LieAbove (got parts.end) (got parts.end + 16384) parts.end.ahead
  pub at_turn : parts.end.acked_at_turn ≤ parts.end.acked
  pub late : parts.late ≡ []

-- A capsule as a router sends it: it is what its story tells, established, it received at most 1 MiB, and it has read all that it could.
pub record IsAtRest (capsule : RunningSession) : Type 0 where
  pub of_story : IsOfStory capsule.session
  pub established : state capsule.session ≡ Established
  pub few : received capsule.session.end ≤ 1048576
  pub all_read : BeginsNothing (unread capsule.session)
