-- Sessions whose remotes begin with sound OPENs.
use Rattle.std.specs.Prelude.{ℕ, ◌≡◌, ◌==◌, Bool, false, not, List, length, Option, Some, None, slice_get}
use Rattle.std.specs.Option.{option_map_or}
use Rattle.bgp_types.specs.declared.message.Message.{Message}
use Rattle.bgp_types.specs.declared.message.Message.TheVariants as messages
use Rattle.bgp_types.specs.declared.message.OpenMsg.{OpenMsg}
use Rattle.captured_streams.specs.declared.streams.Streams.{Streams}
use Rattle.imported_sessions.specs.Messages.{messages as messages_of, opening}
use Rattle.imported_sessions.specs.Opens.{as_of, home_open, remote_open}
use Rattle.imported_sessions.specs.declared.opened.Opened.{Opened}

-- a message, if it is an OPEN
abbrev pub open_told : Message → Option OpenMsg
open_told (messages.OpenMsg o) = Some o
open_told (messages.UpdateMsg u) = None
open_told (messages.NoticeMsg n) = None
open_told messages.KeepaliveMsg = None

-- the session with this number
pub record IsOpened (s : Streams) (k : ℕ) (session : Opened) : Type 0 where
  pub number : session.peer ≡ k
  pub begins : remote_open s k ≡ Some session.remote
  pub as_is : session.remote_as ≡ as_of session.remote
  pub home_is : session.home ≡ home_open s k
  pub opening_is : session.opening ≡ opening (messages_of k s.flows)

-- the first sessions, as many as there are of these
abbrev pub AreOpened : Streams → List Opened → Type 0
AreOpened s opened = (k : ℕ) (session : Opened) → slice_get opened k ≡ Some session → IsOpened s k session

-- all sessions
pub record AreAllOpened (s : Streams) (opened : List Opened) : Type 0 where
  pub count : length opened ≡ length s.peers
  pub each : AreOpened s opened

-- the remote of the session with this number is of another AS
abbrev pub is_external_in : List Opened → (home_as : ℕ) → (k : ℕ) → Bool
is_external_in opened home_as k = option_map_or (λ session. not (session.remote_as == home_as)) (slice_get opened k) false
