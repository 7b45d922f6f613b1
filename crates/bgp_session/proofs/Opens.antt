-- What the two OPENs settled.
use Rattle.std.proofs.Common.{◌≡◌, ℕ, ◌<◌, ◌≤◌, Bool, true, false, cond, eqb, List, [], ◌∷◌, ◌++◌, drop}
use Rattle.std.proofs.Common.{Option, Some, None, Result, Ok, Err, refl, sym, ap, ◌∙◌, arith}
use Rattle.std.specs.Prelude.{◌≢◌, ◌==◌, ◌&&◌, not}
use Rattle.std.specs.Option.{option_map}
use Rattle.std.proofs.lemmas.Bool.Decides.{nat_tests}
use Rattle.bgp_types.specs.declared.fault.Expected.{Expected}
use Rattle.bgp_types.specs.declared.fault.HeaderFault.{HeaderFault}
use Rattle.bgp_types.specs.declared.message.Cap.{Cap}
use Rattle.bgp_types.specs.declared.message.Message.{Message}
use Rattle.bgp_types.specs.declared.message.Message.TheVariants as messages
use Rattle.bgp_types.specs.declared.message.Notice.{Notice}
use Rattle.bgp_types.specs.declared.message.OpenMsg.{OpenMsg}
use Rattle.bgp_types.specs.declared.message.SessionState.{SessionState}
use Rattle.bgp_types.specs.declared.message.SessionState.TheVariants.{OpenSent, OpenConfirm, Established, Closed}
use Rattle.bgp_types.specs.declared.message.Update.{Update}
use Rattle.bgp_types.specs.FirstFault.{is_in_state, open_message, update_message, notice_of, body_of, state_fault, with_header, message_of}
use Rattle.bgp_types.specs.Header.{header_fault, kind_in}
use Rattle.bgp_types.specs.OpenBody.{open_fault, open_of, open_with, with_said, unless_fault, hold_in, identifier_in}
use Rattle.bgp_types.specs.OpenBody.{version_in, is_field, is_said, as_in, as_said, with_params, params_of}
use Rattle.bgp_types.specs.UpdateBody.{update_of}
use Rattle.bgp_types.specs.Values.{is_no_host, is_short_hold}
use Rattle.bgp_story.specs.declared.line.Line.{Line}
use Rattle.bgp_story.specs.declared.line.Line.TheVariants.{Put, Got, Tick}
use Rattle.bgp_story.specs.Legal.{Peering, Allowed, expected_next, got_open, hold, open_in, smaller_hold}
use Rattle.bgp_story.proofs.Grows.{open_stays}
use Rattle.bgp_story.proofs.HeaderKinds.{read_of}
use Rattle.bgp_story.proofs.Ranges.{peering_of as its_peering}
use Rattle.session_value.specs.Sessions.{peering_of}
use Rattle.session_value.proofs.Openings.{only_opened}
use Rattle.session_value.proofs.Replies.{only_open}
use Rattle.bgp_session.specs.declared.parts.Parts.{Parts}
use Rattle.bgp_session.specs.Inner.{SessionInvariant, opened_by, hold_of}

-- ---- what is kept says the hold time

pub hold_kept : (first : OpenMsg) (o : Option OpenMsg) → hold_of (option_map (opened_by first) o) ≡ smaller_hold first o
hold_kept first None = refl
hold_kept first (Some theirs) = refl

-- ---- the OPEN that was got, after something more was got

module _ (p : Peering) (lines : List Line) (bytes : List ℕ) (answer : List Line) where
  opening_reads : (state : SessionState) → Allowed p lines state → state ≡ OpenSent
      → got_open p (lines ++ Got bytes ∷ answer) ≡ open_in (message_of (expected_next p lines state) bytes)
  opening_reads state l s =
      let alone : lines ≡ Put (messages.OpenMsg p.first) ∷ [] = only_opened p lines state l s in
      ap (λ (xs : List Line). got_open p (xs ++ Got bytes ∷ answer)) alone
      ∙ sym (ap (λ (xs : List Line). open_in (message_of (expected_next p xs state) bytes)) alone
      ∙ ap (λ (x : SessionState). open_in (message_of (expected_next p (Put (messages.OpenMsg p.first) ∷ []) x) bytes)) s)

  -- it is the one that is read
  pub open_read : (state : SessionState) (theirs : OpenMsg) → Allowed p lines state
      → message_of (expected_next p lines state) bytes ≡ Ok (messages.OpenMsg theirs) → got_open p (lines ++ Got bytes ∷ answer) ≡ Some theirs
  open_read state theirs l r =
      let sent : state ≡ OpenSent = only_open state (read_of (expected_next p lines state) bytes (messages.OpenMsg theirs) r).in_state in
      opening_reads state l sent ∙ ap open_in r

  none_opened : (state : SessionState) → Allowed p lines state → state ≡ OpenSent → got_open p lines ≡ None
  none_opened state l s = ap (got_open p) (only_opened p lines state l s)

  -- or the one that was got before
  pub open_kept : (state : SessionState) → Allowed p lines state → state ≢ Closed → open_in (message_of (expected_next p lines state) bytes) ≡ None
      → got_open p (lines ++ Got bytes ∷ answer) ≡ got_open p lines
  open_kept OpenSent l o r = opening_reads OpenSent l refl ∙ r ∙ sym (none_opened OpenSent l refl)
  open_kept OpenConfirm l o r = open_stays p lines (Got bytes ∷ answer) OpenConfirm l refl
  open_kept Established l o r = open_stays p lines (Got bytes ∷ answer) Established l refl
  open_kept Closed l o r = absurd (o refl)

-- ---- a hold time is 0, or 3 and more

said_hold : (e : Expected) (body : List ℕ) (r : Result (List Cap) Notice) (o : OpenMsg) → with_said e body r ≡ Ok o → hold_in body ≡ o.hold
said_hold e body (Err n) o f = absurd cc
said_hold e body (Ok caps) o f =
    by_said (e.offered && not (is_said e.remote_as (as_in body) (as_said caps))) f where
      by_said : (t : Bool) → unless_fault t (open_fault 2) (Ok (open_with body caps)) ≡ Ok o → hold_in body ≡ o.hold
      by_said true g = absurd cc
      by_said false g = let same : open_with body caps ≡ o = cc in ap (λ (x : OpenMsg). x.hold) same

open_hold : (e : Expected) (body : List ℕ) (o : OpenMsg) → open_of e body ≡ Ok o → is_short_hold o.hold ≡ false
unfolding open_of
open_hold e body o f = tests (not (version_in body == 4)) (not e.offered && not (is_field e.remote_as (as_in body)))
    (is_short_hold (hold_in body)) (is_no_host (identifier_in body)) refl f
  where
    tests : (t u v w : Bool) → is_short_hold (hold_in body) ≡ v
        → unless_fault t (record { code = 2; subcode = 1; info = 0 ∷ 4 ∷ [] }) (unless_fault u (open_fault 2)
        (unless_fault v (open_fault 6) (unless_fault w (open_fault 3) (with_said e body (with_params (params_of (drop 9 body))))))) ≡ Ok o
        → is_short_hold o.hold ≡ false
    tests true u v w h g = absurd cc
    tests false true v w h g = absurd cc
    tests false false true w h g = absurd cc
    tests false false false true h g = absurd cc
    tests false false false false h g = ap is_short_hold (sym (said_hold e body (with_params (params_of (drop 9 body))) o g)) ∙ h

open_of_message : (r : Result OpenMsg Notice) (o : OpenMsg) → open_message r ≡ Ok (messages.OpenMsg o) → r ≡ Ok o
open_of_message (Err n) o e = absurd cc
open_of_message (Ok x) o e = let same : x ≡ o = cc in ap Ok same

no_update_open : (r : Result Update Notice) (o : OpenMsg) → update_message r ≡ Ok (messages.OpenMsg o) → ⊥
no_update_open (Err n) o e = cc
no_update_open (Ok u) o e = cc

body_hold : (e : Expected) (kind : ℕ) (body : List ℕ) (o : OpenMsg) → body_of e kind body ≡ Ok (messages.OpenMsg o) → is_short_hold o.hold ≡ false
unfolding body_of
body_hold e kind body o f = tests (eqb kind 1) (eqb kind 2) (eqb kind 3) f where
  tests : (t u v : Bool)
      → cond t (open_message (open_of e body)) (cond u (update_message (update_of e.wide body))
      (cond v (Ok (messages.NoticeMsg (notice_of body))) (Ok messages.KeepaliveMsg))) ≡ Ok (messages.OpenMsg o)
      → is_short_hold o.hold ≡ false
  tests true u v g = open_hold e body o (open_of_message (open_of e body) o g)
  tests false true v g = absurd (no_update_open (update_of e.wide body) o g)
  tests false false true g = absurd cc
  tests false false false g = absurd cc

message_hold : (e : Expected) (bytes : List ℕ) (o : OpenMsg) → message_of e bytes ≡ Ok (messages.OpenMsg o) → is_short_hold o.hold ≡ false
unfolding message_of
message_hold e bytes o f = by_header (header_fault bytes) f where
  by_state : (t : Bool) → cond t (body_of e (kind_in bytes) (drop 19 bytes)) (Err state_fault) ≡ Ok (messages.OpenMsg o) → is_short_hold o.hold ≡ false
  by_state true g = body_hold e (kind_in bytes) (drop 19 bytes) o g
  by_state false g = absurd cc

  by_header : (h : Option HeaderFault) → with_header h e bytes ≡ Ok (messages.OpenMsg o) → is_short_hold o.hold ≡ false
  by_header (Some fault) g = absurd cc
  by_header None g = by_state (is_in_state e.state (kind_in bytes)) g

read_hold : (e : Expected) (bytes : List ℕ) (m : Result Message Notice) (o : OpenMsg) → message_of e bytes ≡ m → open_in m ≡ Some o
    → is_short_hold o.hold ≡ false
read_hold e bytes (Ok (messages.OpenMsg x)) o g f = let same : x ≡ o = cc in message_hold e bytes o (g ∙ ap (λ (y : OpenMsg). Ok (messages.OpenMsg y)) same)
read_hold e bytes (Ok (messages.UpdateMsg _)) o g f = absurd cc
read_hold e bytes (Ok (messages.NoticeMsg _)) o g f = absurd cc
read_hold e bytes (Ok messages.KeepaliveMsg) o g f = absurd cc
read_hold e bytes (Err n) o g f = absurd cc

got_hold : (p : Peering) (lines : List Line) (o : OpenMsg) → got_open p lines ≡ Some o → is_short_hold o.hold ≡ false
got_hold p [] o e = absurd cc
got_hold p (Put _ ∷ lines) o e = got_hold p lines o e
got_hold p (Tick _ ∷ lines) o e = got_hold p lines o e
got_hold p (Got bytes ∷ lines) o e = read_hold _ bytes _ o refl e

long_hold : (n : ℕ) → is_short_hold n ≡ false → 0 < n → 3 ≤ n
long_hold n s some = grind (arith, nat_tests)

smaller_long : (p : Peering) (lines : List Line) (first : OpenMsg) (o : Option OpenMsg) → got_open p lines ≡ o → is_short_hold first.hold ≡ false
    → 0 < smaller_hold first o → 3 ≤ smaller_hold first o
smaller_long p lines first None e s some = absurd (omega (arith, some))
smaller_long p lines first (Some theirs) e s some =
    let ours : 3 ≤ first.hold = long_hold first.hold s (omega (arith, some)) in
    let other : 3 ≤ theirs.hold = long_hold theirs.hold (got_hold p lines theirs e) (omega (arith, some)) in
    omega (arith, ours, other)

pub hold_long : (p : Peering) (lines : List Line) (state : SessionState) → Allowed p lines state → 0 < hold p lines → 3 ≤ hold p lines
hold_long p lines state l some = smaller_long p lines p.first (got_open p lines) refl (its_peering p lines state l).home.hold_time some

-- ---- the same of the parts that keep it

pub kept_hold : (parts : Parts) → SessionInvariant parts → hold_of parts.opened ≡ hold (peering_of parts.config) parts.story.lines
kept_hold parts k = ap hold_of k.opened ∙ hold_kept (peering_of parts.config).first (got_open (peering_of parts.config) parts.story.lines)
