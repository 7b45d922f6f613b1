-- How a session is made again from its story.
use Rattle.std.specs.Prelude.{ℕ, true, ◌≡◌, ◌≢◌, ◌+◌, ◌<◌, ◌≤◌, List, [], ◌∷◌, ◌++◌, length, drop, map, All}
use Rattle.std.specs.List.{AllByRecursion}
use Rattle.bgp_types.specs.declared.message.Message.{Message}
use Rattle.bgp_types.specs.declared.message.Message.TheVariants.{OpenMsg, UpdateMsg, NoticeMsg, KeepaliveMsg}
use Rattle.bgp_types.specs.declared.message.SessionState.{SessionState}
use Rattle.bgp_types.specs.declared.message.SessionState.TheVariants.{Established, Closed}
use Rattle.bgp_types.specs.declared.message.Update.{Update}
use Rattle.bgp_types.specs.FirstFault.{message_of}
use Rattle.tcp_seq.specs.declared.segment.Way.TheVariants.{Remote}
use Rattle.tcp_seq.specs.declared.state.EndState.{EndState}
use Rattle.tcp_end.specs.State.{got}
use Rattle.bgp_story.specs.declared.line.Line.{Line}
use Rattle.bgp_story.specs.declared.line.Line.TheVariants.{Put, Got, Tick}
use Rattle.bgp_story.specs.Legal.{Peering, IsEarlier, IsGot, IsOneWay, expected_next, hold, is_up, is_wide, reply_at, reply_to, silence}
use Rattle.bgp_story.specs.Readings.{ChangesTold, IsLegal, got_bytes, put_bytes}
use Rattle.bgp_story.specs.States.{state_of}
use Rattle.session_value.specs.declared.config.SessionConfig.{SessionConfig}
use Rattle.session_value.specs.Fronts.{BeginsNothing}
use Rattle.session_value.specs.Sessions.{SessionValue, peering_of, state, unread}
use Rattle.session_value.specs.Ties.{IsOfStory}
use Rattle.capsule_bytes.specs.declared.parts.CapsuleParts.{CapsuleParts}
use Rattle.capsule_bytes.specs.declared.parts.PartLine.{PartLine}
use Rattle.capsule_parts.specs.Parts.{part_line, part_lines}
use Rattle.capsule_parts.specs.Sound.{IsInFlight, IsTaken, LieAbove, put_octets, got_octets}

-- ---- the end

-- What is asked of the end and of what is held, apart from the story's legality.
pub record HasSoundEnd (parts : CapsuleParts) : Type 0 where
  pub waiting : parts.end.waiting ≡ drop parts.end.acked (put_octets parts.story)
  pub flight : IsInFlight parts.end (length (put_octets parts.story))
  pub taken : parts.end.taken ≡ length (got_octets parts.story) + length parts.held
  pub held : BeginsNothing parts.held
  pub received : IsTaken parts.end
  pub connection : (parts.end.peering ≡ parts.peering) × (parts.end.way ≡ Remote)
  pub ahead : LieAbove (got parts.end) (got parts.end + 16384) parts.end.ahead
  pub at_turn : parts.end.acked_at_turn ≤ parts.end.acked
  pub late : parts.late ≡ []

-- as many bytes were taken as were received
pub record HasTaken (end : EndState) (received : ℕ) : Type 0 where
  pub taken : end.taken ≡ received
  pub few : end.taken ≤ 1048576
  pub none_ready : end.ready ≡ []

-- what of it is asked of the two streams
pub record HasSoundStreams (end : EndState) (put : List ℕ) (received : ℕ) : Type 0 where
  pub flight : IsInFlight end (length put)
  pub waiting : end.waiting ≡ drop end.acked put
  pub at_turn : end.acked_at_turn ≤ end.acked
  pub all_taken : HasTaken end received

-- the end as it goes on: what is held is ready
abbrev pub with_ready : CapsuleParts → ℕ → EndState
with_ready parts taken = record parts.end { taken = taken; ready = parts.held }

-- ---- the story

-- Lines go on from the lines of a story, case by case.
pub data GoesOn (p : Peering) : List Line → List Line → Type 0 where
  ends : (before : List Line) → GoesOn p before []
  gets : (before : List Line) (bytes : List ℕ) (answer : List Line) (next : SessionState) (more lines : List Line) →
      state_of before ≢ Closed → IsGot bytes → reply_to (message_of (expected_next p before (state_of before)) bytes) ≡ (answer, next) →
      GoesOn p (before ++ Got bytes ∷ answer) more → lines ≡ Got bytes ∷ (answer ++ more) → GoesOn p before lines
  puts : (before : List Line) (update : Update) (more lines : List Line) →
      state_of before ≡ Established → IsOneWay update (is_wide p before) → ChangesTold before update →
      GoesOn p (before ++ Put (UpdateMsg update) ∷ []) more → lines ≡ Put (UpdateMsg update) ∷ more → GoesOn p before lines
  passes : (before : List Line) (round : ℕ) (answer : List Line) (next : SessionState) (more lines : List Line) →
      is_up (state_of before) ≡ true → 0 < hold p before → All (IsEarlier round) before →
      reply_at (hold p before) (silence before + 1) round (state_of before) ≡ (answer, next) →
      GoesOn p (before ++ Tick round ∷ answer) more → lines ≡ Tick round ∷ (answer ++ more) → GoesOn p before lines

-- a session puts these by itself, and its router the UPDATEs
abbrev pub IsOwn : Message → Type 0
IsOwn (OpenMsg _) = Unit {0}
IsOwn (UpdateMsg _) = ⊥
IsOwn (NoticeMsg _) = Unit {0}
IsOwn KeepaliveMsg = Unit {0}

abbrev pub PutsOwn : Line → Type 0
PutsOwn (Put message) = IsOwn message
PutsOwn (Got _) = ⊥
PutsOwn (Tick _) = ⊥

-- The octets spell a legal story that puts at most 1,044,480 bytes, and these bytes are what it got and what is held.
pub record IsStoryOf (p : Peering) (received : List ℕ) (octets : List PartLine) (story : List Line) : Type 0 where
  pub spelled : octets ≡ part_lines p story
  pub held : List ℕ
  pub received_is : received ≡ got_bytes story ++ held
  pub state : SessionState
  pub legal : IsLegal p story state
  pub room : length (put_bytes p story) ≤ 1044480

-- Of the story that the octets spell, the session has told the first lines: all but those that come, and among them the session's own messages whose
-- octets come first.
pub record IsToldSoFar (story : List Line) (octets : List PartLine) (session : SessionValue) : Type 0 where
  pub of_story : IsOfStory session
  pub own : List Line
  pub come : List Line
  pub story_is : story ≡ session.story ++ come
  pub goes : GoesOn (peering_of session.config) session.story come
  pub octets_are : octets ≡ map (part_line (is_wide (peering_of session.config) story)) (own ++ come)
  pub each_own : AllByRecursion PutsOwn own
  pub held : List ℕ
  pub unread_is : unread session ≡ got_bytes come ++ held
  pub room : length (put_bytes (peering_of session.config) story) ≤ 1044480

-- the session goes on, and what it was it stays: of its configuration, and what its story tells
pub record StaysTold (before after : SessionValue) : Type 0 where
  pub config : after.config ≡ before.config
  pub of_story : IsOfStory before → IsOfStory after

-- the session is established, and its story is spelled in these lines
pub record HasTold (session : SessionValue) (octets : List PartLine) : Type 0 where
  pub established : state session ≡ Established
  pub spelled : octets ≡ part_lines (peering_of session.config) session.story

-- a session that has told this story
pub record IsRetold (config : SessionConfig) (octets : List PartLine) (session : SessionValue) : Type 0 where
  pub config_is : session.config ≡ config
  pub of_story : IsOfStory session
  pub told : HasTold session octets

-- a session that has only begun, and received these bytes
pub record HasBegun (config : SessionConfig) (received : List ℕ) (session : SessionValue) : Type 0 where
  pub config_is : session.config ≡ config
  pub of_story : IsOfStory session
  pub story_is : session.story ≡ Put (OpenMsg (peering_of config).first) ∷ []
  pub unread_is : unread session ≡ received
