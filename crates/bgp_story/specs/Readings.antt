-- What the lines of a story give as a whole: the octets each way, and the tables of the routes that were told and heard (RFC 4271, section 3.1).
use Rattle.std.specs.Prelude.{◌≢◌, ℕ, List, [], ◌++◌, Option, Some, None, Result, Ok, Err, Bool, fold, All}
use Rattle.std.specs.List.{flat_map}
use Rattle.std.specs.FinMap as map
use Rattle.bgp_types.specs.declared.attrs.Attrs.{Attrs}
use Rattle.bgp_types.specs.declared.fault.Expected.{Expected}
use Rattle.bgp_types.specs.declared.message.Message.{Message}
use Rattle.bgp_types.specs.declared.message.Message.TheVariants.{OpenMsg, UpdateMsg, NoticeMsg, KeepaliveMsg}
use Rattle.bgp_types.specs.declared.message.Notice.{Notice}
use Rattle.bgp_types.specs.declared.message.SessionState.{SessionState}
use Rattle.bgp_types.specs.declared.message.SessionState.TheVariants.{OpenSent, OpenConfirm, Established, Closed}
use Rattle.bgp_types.specs.declared.message.Update.{Update}
use Rattle.bgp_types.specs.FirstFault.{message_of}
use Rattle.bgp_types.specs.Prefixes.{PrefixValue}
use Rattle.bgp_types.specs.Spelling.{spell}
use Rattle.bgp_types.specs.Tables.{prefix_cmp}
use Rattle.bgp_story.specs.declared.line.Line.{Line}
use Rattle.bgp_story.specs.declared.line.Line.TheVariants.{Put, Got, Tick}
use Rattle.bgp_story.specs.Legal.{Peering, Legal, is_wide, expected_next}
use Rattle.bgp_story.specs.States.{state_of}

-- ---- octets

-- the octets of the messages that were put
abbrev pub put_in : Bool → Line → List ℕ
put_in wide (Put message) = spell message wide
put_in wide (Got _) = []
put_in wide (Tick _) = []

abbrev pub put_bytes : Peering → List Line → List ℕ
put_bytes p lines = flat_map (put_in (is_wide p lines)) lines

abbrev pub got_in : Line → List ℕ
got_in (Put _) = []
got_in (Got bytes) = bytes
got_in (Tick _) = []

abbrev pub got_bytes : List Line → List ℕ
got_bytes lines = flat_map got_in lines

-- ---- tables

abbrev pub Routes : Type 0
Routes = map.FinMap prefix_cmp Attrs

abbrev pub announce : Option Attrs → Routes → PrefixValue → Routes
announce None routes prefix = routes
announce (Some attrs) routes prefix = map.insert routes prefix attrs

-- An UPDATE removes what it withdraws, and sets what it announces.
abbrev pub apply : Routes → Update → Routes
apply routes u = fold (announce u.attrs) (fold map.remove routes u.withdrawn) u.nlri

abbrev pub update_in : Result Message Notice → Option Update
update_in (Ok (OpenMsg _)) = None
update_in (Ok (UpdateMsg u)) = Some u
update_in (Ok (NoticeMsg _)) = None
update_in (Ok KeepaliveMsg) = None
update_in (Err _) = None

abbrev pub apply_if : Routes → Option Update → Routes
apply_if routes None = routes
apply_if routes (Some u) = apply routes u

abbrev pub tell : Routes → Line → Routes
tell routes (Put message) = apply_if routes (update_in (Ok message))
tell routes (Got _) = routes
tell routes (Tick _) = routes

-- An UPDATE is accepted only in Established; an earlier one closes the session.
abbrev pub hear : Expected → Routes → Line → Routes
hear e routes (Put _) = routes
hear e routes (Got bytes) = apply_if routes (update_in (message_of e bytes))
hear e routes (Tick _) = routes

-- an empty table once the session is closed
abbrev pub unless_closed : SessionState → Routes → Routes
unless_closed OpenSent routes = routes
unless_closed OpenConfirm routes = routes
unless_closed Established routes = routes
unless_closed Closed routes = map.empty

-- the routes that the home side told, and those that it heard
abbrev pub told : List Line → Routes
told lines = unless_closed (state_of lines) (fold tell map.empty lines)

abbrev pub heard : Peering → List Line → Routes
heard p lines = unless_closed (state_of lines) (fold (hear (expected_next p lines Established)) map.empty lines)

-- ---- what is told has to be a change

-- each prefix of the UPDATE has another value after it than before
abbrev pub ChangesTold : List Line → Update → Type 0
ChangesTold lines u = All (λ prefix. map.get (apply (told lines) u) prefix ≢ map.get (told lines) prefix) (u.withdrawn ++ u.nlri)

-- the legal stories
abbrev pub IsLegal : Peering → List Line → SessionState → Type 0
IsLegal p lines state = Legal ChangesTold p lines state
