-- The state of a story by its lines, without reading what was got: a line changes the state where it ends a case of a legal story.
use Rattle.std.specs.Prelude.{◌≡◌, ℕ, ◌==◌, length, List, [], ◌∷◌, ◌++◌, Option, Some, None, Bool, ◌&&◌, nat_le, is_none, fold, if◌then◌else◌}
use Rattle.bgp_types.specs.declared.message.Message.{Message}
use Rattle.bgp_types.specs.declared.message.Message.TheVariants.{OpenMsg, UpdateMsg, NoticeMsg, KeepaliveMsg}
use Rattle.bgp_types.specs.declared.message.SessionState.{SessionState}
use Rattle.bgp_types.specs.declared.message.SessionState.TheVariants.{OpenSent, OpenConfirm, Established, Closed}
use Rattle.bgp_types.specs.Header.{header_fault, kind_in}
use Rattle.bgp_story.specs.declared.line.Line.{Line}
use Rattle.bgp_story.specs.declared.line.Line.TheVariants.{Put, Got, Tick}
use Rattle.bgp_story.specs.Legal.{Peering, Allowed}

-- a sound header of this type
abbrev pub is_type : ℕ → List ℕ → Bool
is_type kind bytes = nat_le 19 (length bytes) && (is_none (header_fault bytes) && (kind_in bytes == kind))

-- a KEEPALIVE that is put answers an OPEN
abbrev pub with_keepalive_put : SessionState → SessionState
with_keepalive_put OpenSent = OpenConfirm
with_keepalive_put OpenConfirm = OpenConfirm
with_keepalive_put Established = Established
with_keepalive_put Closed = Closed

-- a KEEPALIVE that is got answers the home side's
abbrev pub with_keepalive_got : SessionState → SessionState
with_keepalive_got OpenSent = OpenSent
with_keepalive_got OpenConfirm = Established
with_keepalive_got Established = Established
with_keepalive_got Closed = Closed

-- a NOTIFICATION closes the session, whether it is put or got
abbrev pub after_put : SessionState → Message → SessionState
after_put state (OpenMsg _) = state
after_put state (UpdateMsg _) = state
after_put state (NoticeMsg _) = Closed
after_put state KeepaliveMsg = with_keepalive_put state

abbrev pub after_got : SessionState → List ℕ → SessionState
after_got state bytes = if is_type 3 bytes then Closed else if is_type 4 bytes then with_keepalive_got state else state

abbrev pub after : SessionState → Line → SessionState
after state (Put message) = after_put state message
after state (Got bytes) = after_got state bytes
after state (Tick _) = state

abbrev pub state_of : List Line → SessionState
state_of lines = fold after OpenSent lines

-- the line of a message that is put in answer, if there is one
abbrev pub answer_lines : Option Message → List Line
answer_lines None = []
answer_lines (Some message) = Put message ∷ []

-- The lines begin an allowed story, with a remote of this AS.
pub record BeginsStory (remote_as : ℕ) (lines : List Line) : Type 0 where
  pub peering : Peering
  pub remote : peering.remote_as ≡ remote_as
  pub rest : List Line
  pub state : SessionState
  pub legal : Allowed peering (lines ++ rest) state

-- a story as contracts see it
pub record StoryValue : Type 0 where
  pub lines : List Line
  pub remote_as : ℕ
