-- The legal stories of a peering (RFC 4271, sections 4.2, 6 and 8.2.2). Nothing in them depends on the router in which a session is, or on whether it
-- was moved.
use Rattle.std.specs.Prelude.{◌≡◌, ◌≢◌, ℕ, ◌+◌, ◌/◌, ◌%◌, ◌<◌, ◌==◌, min, length, List, [], ◌∷◌, ◌++◌, Option, Some, None}
use Rattle.std.specs.Prelude.{Result, Ok, Err, Bool, true, false, ◌&&◌, ◌⊎◌, IsSome, All, fold, if◌then◌else◌}
use Rattle.bgp_types.specs.declared.fault.Expected.{Expected}
use Rattle.bgp_types.specs.declared.message.Message.{Message}
use Rattle.bgp_types.specs.declared.message.Message.TheVariants.{OpenMsg, UpdateMsg, NoticeMsg, KeepaliveMsg}
use Rattle.bgp_types.specs.declared.message.Notice.{Notice}
use Rattle.bgp_types.specs.declared.message.OpenMsg as open_type
use Rattle.bgp_types.specs.declared.message.SessionState.{SessionState}
use Rattle.bgp_types.specs.declared.message.SessionState.TheVariants.{OpenSent, OpenConfirm, Established, Closed}
use Rattle.bgp_types.specs.declared.message.Update.{Update}
use Rattle.bgp_types.specs.FirstFault.{message_of}
use Rattle.bgp_types.specs.Header.{frame_at, header_fault}
use Rattle.bgp_types.specs.Writable.{IsWritable}
use Rattle.bgp_story.specs.declared.line.Line.{Line}
use Rattle.bgp_story.specs.declared.line.Line.TheVariants.{Put, Got, Tick}
use Rattle.bgp_story.specs.Opens.{offers, IsHomeOpen, IsAsNumber}

-- What its stories depend on: the OPEN that the home side puts, and the AS of the remote.
pub record Peering : Type 0 where
  pub first : open_type.OpenMsg
  pub remote_as : ℕ

-- The OPEN is one that a home side can put, and the remote has an AS.
pub record IsPeering (p : Peering) : Type 0 where
  pub home : IsHomeOpen p.first
  pub remote_as : IsAsNumber p.remote_as

-- ---- what the lines so far give

abbrev pub open_in : Result Message Notice → Option open_type.OpenMsg
open_in (Ok (OpenMsg o)) = Some o
open_in (Ok (UpdateMsg _)) = None
open_in (Ok (NoticeMsg _)) = None
open_in (Ok KeepaliveMsg) = None
open_in (Err _) = None

-- The OPEN that was got. The first Got line is either that OPEN, or ends the session.
abbrev pub got_open : Peering → List Line → Option open_type.OpenMsg
got_open p [] = None
got_open p (Put _ ∷ lines) = got_open p lines
got_open p (Tick _ ∷ lines) = got_open p lines
got_open p (Got bytes ∷ lines) = open_in (message_of (record { state = OpenSent; remote_as = p.remote_as; offered = offers p.first; wide = false }) bytes)

-- A session has AS numbers of four octets if and only if both OPENs offer them.
abbrev pub both_offer : open_type.OpenMsg → Option open_type.OpenMsg → Bool
both_offer first None = false
both_offer first (Some o) = offers first && offers o

abbrev pub is_wide : Peering → List Line → Bool
is_wide p lines = both_offer p.first (got_open p lines)

-- The hold time of a session is the smaller one of the two OPENs; 0 means none.
abbrev pub smaller_hold : open_type.OpenMsg → Option open_type.OpenMsg → ℕ
smaller_hold first None = 0
smaller_hold first (Some o) = min first.hold o.hold

abbrev pub hold : Peering → List Line → ℕ
hold p lines = smaller_hold p.first (got_open p lines)

-- what is expected next
abbrev pub expected_next : Peering → List Line → SessionState → Expected
expected_next p lines state = record { state = state; remote_as = p.remote_as; offered = offers p.first; wide = is_wide p lines }

-- the rounds since something was got: while a session isn't closed, that was an OPEN, an UPDATE or a KEEPALIVE
abbrev pub count_round : ℕ → Line → ℕ
count_round n (Put _) = n
count_round n (Got _) = 0
count_round n (Tick _) = n + 1

abbrev pub silence : List Line → ℕ
silence lines = fold count_round 0 lines

-- ---- the cases

-- what is got at once: a whole frame with a sound header, or a header with a fault
abbrev pub IsGot : List ℕ → Type 0
IsGot bytes = (frame_at bytes ≡ Some (bytes, [])) ⊎ ((length bytes ≡ 19) × IsSome (header_fault bytes))

-- the answer to what was got, and the state then
abbrev pub reply_to : Result Message Notice → List Line × SessionState
reply_to (Ok (OpenMsg _)) = (Put KeepaliveMsg ∷ [], OpenConfirm)
reply_to (Ok KeepaliveMsg) = ([], Established)
reply_to (Ok (UpdateMsg _)) = ([], Established)
reply_to (Ok (NoticeMsg _)) = ([], Closed)
reply_to (Err n) = (Put (NoticeMsg n) ∷ [], Closed)

-- an UPDATE that may be put: it is writable, and either withdraws or announces
pub record IsOneWay (u : Update) (wide : Bool) : Type 0 where
  pub writable : IsWritable (UpdateMsg u) wide
  pub one_way : ((u.withdrawn ≢ []) × (u.nlri ≡ [])) ⊎ ((u.withdrawn ≡ []) × (u.nlri ≢ []))

-- the hold timer runs
abbrev pub is_up : SessionState → Bool
is_up OpenSent = false
is_up OpenConfirm = true
is_up Established = true
is_up Closed = false

abbrev pub IsEarlier : ℕ → Line → Type 0
IsEarlier round (Put _) = Unit {0}
IsEarlier round (Got _) = Unit {0}
IsEarlier round (Tick earlier) = earlier < round

-- Hold Timer Expired
abbrev pub hold_expired : Notice
hold_expired = record { code = 4; subcode = 0; info = [] }

-- the answer to a round, and the state then: when the hold time expires the session ends; in each round whose number is a multiple of a third of the
-- hold time, rounded down, a KEEPALIVE is put (RFC 4271, sections 4.4 and 10)
abbrev pub reply_at : ℕ → ℕ → ℕ → SessionState → List Line × SessionState
reply_at hold count round state =
    if count == hold then (Put (NoticeMsg hold_expired) ∷ [], Closed)
    else if round % (hold / 3) == 0 then (Put KeepaliveMsg ∷ [], state)
    else ([], state)

-- A legal story, and the state of its session. `Changes` says which UPDATEs change what was told.
pub data Legal (Changes : List Line → Update → Type 0) (p : Peering) : List Line → SessionState → Type 0 where
  -- the OPEN of a home side is put
  opened : (lines : List Line) → IsPeering p → lines ≡ Put (OpenMsg p.first) ∷ [] → Legal Changes p lines OpenSent
  -- in a state other than Closed something is got and answered
  got : (before : List Line) (state : SessionState) (bytes : List ℕ) (answer : List Line) (next : SessionState) (lines : List Line) →
      Legal Changes p before state → state ≢ Closed → IsGot bytes →
      reply_to (message_of (expected_next p before state) bytes) ≡ (answer, next) →
      lines ≡ before ++ Got bytes ∷ answer → Legal Changes p lines next
  -- in Established an UPDATE is put
  updated : (before : List Line) (u : Update) (lines : List Line) →
      Legal Changes p before Established → IsOneWay u (is_wide p before) → Changes before u →
      lines ≡ before ++ Put (UpdateMsg u) ∷ [] → Legal Changes p lines Established
  -- in OpenConfirm and Established, with a hold time, a round passes and is answered
  passed : (before : List Line) (state : SessionState) (round : ℕ) (answer : List Line) (next : SessionState) (lines : List Line) →
      Legal Changes p before state → is_up state ≡ true → 0 < hold p before → All (IsEarlier round) before →
      reply_at (hold p before) (silence before + 1) round state ≡ (answer, next) →
      lines ≡ before ++ Tick round ∷ answer → Legal Changes p lines next

-- The form that doesn't require that an UPDATE changes what was told.
abbrev pub Allowed : Peering → List Line → SessionState → Type 0
Allowed p lines state = Legal (λ _ _. Unit {0}) p lines state
