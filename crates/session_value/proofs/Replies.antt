-- What the answer to a message adds to a story, and to its tables.
use Rattle.std.proofs.Common.{◌≡◌, ℕ, Bool, true, false, cond, List, [], ◌++◌, None, Result, Ok, Err, refl, sym, ap, ◌∙◌}
use Rattle.std.specs.Prelude.{◌≢◌, fold}
use Rattle.bgp_types.specs.declared.fault.Expected.{Expected}
use Rattle.bgp_types.specs.declared.message.Message.{Message}
use Rattle.bgp_types.specs.declared.message.Message.TheVariants.{OpenMsg, UpdateMsg, NoticeMsg, KeepaliveMsg}
use Rattle.bgp_types.specs.declared.message.Notice.{Notice}
use Rattle.bgp_types.specs.declared.message.SessionState.{SessionState}
use Rattle.bgp_types.specs.declared.message.SessionState.TheVariants.{OpenSent, OpenConfirm, Established, Closed}
use Rattle.bgp_types.specs.FirstFault.{message_of, body_of, is_in_state, state_fault}
use Rattle.bgp_types.specs.Header.{header_fault, kind_in}
use Rattle.bgp_story.specs.declared.line.Line.{Line}
use Rattle.bgp_story.specs.Legal.{Peering, expected_next, reply_to, is_wide, is_up, Allowed}
use Rattle.bgp_story.specs.Opens.{offers}
use Rattle.bgp_story.specs.Readings.{Routes, got_bytes, update_in, tell, hear, unless_closed}
use Rattle.bgp_story.proofs.Grows.{width_stays}
use Rattle.bgp_story.proofs.HeaderKinds.{read_of}

-- ---- the answer holds only messages that are put, and none is an UPDATE

pub answer_gets : (r : Result Message Notice) → got_bytes (reply_to r).0 ≡ []
answer_gets (Ok (OpenMsg _)) = refl
answer_gets (Ok (UpdateMsg _)) = refl
answer_gets (Ok (NoticeMsg _)) = refl
answer_gets (Ok KeepaliveMsg) = refl
answer_gets (Err n) = refl

pub answer_tells : (r : Result Message Notice) (routes : Routes) → fold tell routes (reply_to r).0 ≡ routes
answer_tells (Ok (OpenMsg _)) routes = refl
answer_tells (Ok (UpdateMsg _)) routes = refl
answer_tells (Ok (NoticeMsg _)) routes = refl
answer_tells (Ok KeepaliveMsg) routes = refl
answer_tells (Err n) routes = refl

pub answer_hears : (e : Expected) (r : Result Message Notice) (routes : Routes) → fold (hear e) routes (reply_to r).0 ≡ routes
answer_hears e (Ok (OpenMsg _)) routes = refl
answer_hears e (Ok (UpdateMsg _)) routes = refl
answer_hears e (Ok (NoticeMsg _)) routes = refl
answer_hears e (Ok KeepaliveMsg) routes = refl
answer_hears e (Err n) routes = refl

pub while_unclosed : (state : SessionState) (routes : Routes) → state ≢ Closed → unless_closed state routes ≡ routes
while_unclosed OpenSent routes o = refl
while_unclosed OpenConfirm routes o = refl
while_unclosed Established routes o = refl
while_unclosed Closed routes o = absurd (o refl)

pub up_open : (state : SessionState) → is_up state ≡ true → state ≢ Closed
up_open OpenSent e = λ f. cc
up_open OpenConfirm e = λ f. cc
up_open Established e = λ f. cc
up_open Closed e = absurd cc

-- ---- which message leads where

only_update : (state : SessionState) → is_in_state state 2 ≡ true → state ≡ Established
only_update OpenSent e = absurd cc
only_update OpenConfirm e = absurd cc
only_update Established e = refl
only_update Closed e = absurd cc

pub only_open : (state : SessionState) → is_in_state state 1 ≡ true → state ≡ OpenSent
only_open OpenSent e = refl
only_open OpenConfirm e = absurd cc
only_open Established e = absurd cc
only_open Closed e = absurd cc

no_keepalive : is_in_state OpenSent 4 ≢ true
no_keepalive e = absurd cc

-- a session that is established after a message was established before, or waited for the KEEPALIVE
pub established_from : (e : Expected) (bytes : List ℕ) (answer : List Line) → reply_to (message_of e bytes) ≡ (answer, Established) → e.state ≢ OpenSent
established_from e bytes answer r s = by_message (message_of e bytes) refl r where
  by_message : (m : Result Message Notice) → message_of e bytes ≡ m → reply_to m ≡ (answer, Established) → ⊥
  by_message (Ok (OpenMsg o)) g f = let x : OpenConfirm ≡ Established = ap (λ y. y.1) f in absurd cc
  by_message (Ok (UpdateMsg u)) g f = let x = sym s ∙ only_update e.state (read_of e bytes (UpdateMsg u) g).in_state in absurd cc
  by_message (Ok (NoticeMsg n)) g f = let x : Closed ≡ Established = ap (λ y. y.1) f in absurd cc
  by_message (Ok KeepaliveMsg) g f = no_keepalive (ap (λ (y : SessionState). is_in_state y 4) (sym s) ∙ (read_of e bytes KeepaliveMsg g).in_state)
  by_message (Err n) g f = let x : Closed ≡ Established = ap (λ y. y.1) f in absurd cc

-- a session that is neither established nor closed after a message has taken an OPEN
pub confirmed_from : (e : Expected) (bytes : List ℕ) (answer : List Line) (next : SessionState) → reply_to (message_of e bytes) ≡ (answer, next)
    → next ≢ Established → next ≢ Closed → e.state ≡ OpenSent
confirmed_from e bytes answer next r o c = by_message (message_of e bytes) refl r where
  by_message : (m : Result Message Notice) → message_of e bytes ≡ m → reply_to m ≡ (answer, next) → e.state ≡ OpenSent
  by_message (Ok (OpenMsg x)) g f = only_open e.state (read_of e bytes (OpenMsg x) g).in_state
  by_message (Ok (UpdateMsg u)) g f = absurd (o (sym (ap (λ y. y.1) f)))
  by_message (Ok (NoticeMsg n)) g f = absurd (c (sym (ap (λ y. y.1) f)))
  by_message (Ok KeepaliveMsg) g f = absurd (o (sym (ap (λ y. y.1) f)))
  by_message (Err n) g f = absurd (c (sym (ap (λ y. y.1) f)))

-- ---- a message says the same UPDATE whenever it is read again

other_state : (e : Expected) (bytes : List ℕ) → header_fault bytes ≡ None → is_in_state e.state (kind_in bytes) ≡ false → update_in (message_of e bytes) ≡ None
unfolding message_of
other_state e bytes h s = rw h (rw s refl)

keepalive_again : (e : Expected) (bytes : List ℕ) → header_fault bytes ≡ None → kind_in bytes ≡ 4 → update_in (message_of e bytes) ≡ None
unfolding message_of body_of
keepalive_again e bytes h k = rw h (rw k (by_state (is_in_state e.state 4))) where
  by_state : (t : Bool) → update_in (cond t (Ok KeepaliveMsg) (Err state_fault)) ≡ None
  by_state true = refl
  by_state false = refl

pub same_update : (p : Peering) (lines more : List Line) (state : SessionState) (bytes : List ℕ) (answer : List Line) (next : SessionState)
    → Allowed p lines state → reply_to (message_of (expected_next p lines state) bytes) ≡ (answer, next) → next ≢ Closed
    → update_in (message_of (expected_next p (lines ++ more) Established) bytes) ≡ update_in (message_of (expected_next p lines state) bytes)
same_update p lines more state bytes answer next l r c = by_message (message_of (expected_next p lines state) bytes) refl r where
  later : Expected
  later = expected_next p (lines ++ more) Established

  by_message : (m : Result Message Notice) → message_of (expected_next p lines state) bytes ≡ m → reply_to m ≡ (answer, next)
      → update_in (message_of later bytes) ≡ update_in m
  by_message (Ok (OpenMsg o)) g f =
      let read = read_of (expected_next p lines state) bytes (OpenMsg o) g in
      other_state later bytes read.sound (ap (is_in_state Established) read.kind)
  by_message (Ok (UpdateMsg u)) g f =
      let s : state ≡ Established = only_update state (read_of (expected_next p lines state) bytes (UpdateMsg u) g).in_state in
      let wide : is_wide p (lines ++ more) ≡ is_wide p lines = width_stays p lines more state l (ap is_up s) in
      let e : later ≡ expected_next p lines state =
      ap (λ (w : Bool). record { state = Established; remote_as = p.remote_as; offered = offers p.first; wide = w }) wide
      ∙ ap (expected_next p lines) (sym s) in
      ap (λ (x : Expected). update_in (message_of x bytes)) e ∙ ap update_in g
  by_message (Ok (NoticeMsg n)) g f = absurd (c (sym (ap (λ y. y.1) f)))
  by_message (Ok KeepaliveMsg) g f =
      let read = read_of (expected_next p lines state) bytes KeepaliveMsg g in
      keepalive_again later bytes read.sound read.kind
  by_message (Err n) g f = absurd (c (sym (ap (λ y. y.1) f)))

-- a message that doesn't establish the session says no UPDATE
pub no_update : (m : Result Message Notice) (answer : List Line) (next : SessionState) → reply_to m ≡ (answer, next) → next ≢ Established → update_in m ≡ None
no_update (Ok (OpenMsg o)) answer next r e = refl
no_update (Ok (UpdateMsg u)) answer next r e = absurd (e (sym (ap (λ y. y.1) r)))
no_update (Ok (NoticeMsg n)) answer next r e = refl
no_update (Ok KeepaliveMsg) answer next r e = refl
no_update (Err n) answer next r e = refl
