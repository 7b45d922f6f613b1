-- A round that passes, and its answer, in a story and in its readings.
use Rattle.std.proofs.Common.{◌≡◌, ℕ, ◌+◌, ◌/◌, ◌%◌, ◌<◌, List, [], ◌∷◌, ◌++◌, Bool, true, false, cond, eqb, refl, sym, ap, ◌∙◌, subst}
use Rattle.std.specs.Prelude.{fold, All}
use Rattle.std.specs.List.{flat_map}
use Rattle.std.proofs.lemmas.List.{append-nil}
use Rattle.bgp_types.specs.declared.fault.Expected.{Expected}
use Rattle.bgp_types.specs.declared.message.Message.TheVariants.{NoticeMsg, KeepaliveMsg}
use Rattle.bgp_types.specs.declared.message.SessionState.{SessionState}
use Rattle.bgp_types.specs.declared.message.SessionState.TheVariants.{Established, Closed}
use Rattle.bgp_types.specs.declared.message.Update.{Update}
use Rattle.bgp_story.specs.declared.line.Line.{Line}
use Rattle.bgp_story.specs.declared.line.Line.TheVariants.{Put, Tick}
use Rattle.bgp_story.specs.Legal.{Legal, Peering, Allowed, IsEarlier, expected_next, hold, hold_expired, is_up, is_wide, reply_at, silence}
use Rattle.bgp_story.specs.Readings.{Routes, put_in, put_bytes, got_bytes, heard, told, hear, tell, unless_closed}
use Rattle.bgp_story.specs.States.{state_of}
use Rattle.bgp_story.proofs.Grows.{put_grows, got_grows, told_grows, heard_grows, none_told, none_heard}
use Rattle.bgp_story.proofs.StoryLaws.{state_is}
use Rattle.session_value.proofs.Replies.{up_open, while_unclosed}
use Rattle.session_value.proofs.Gets.{by_closed}

-- ---- the answer to a round

-- what answers a round: the end of the session, a KEEPALIVE or nothing
pub data Answers (state : SessionState) : List Line → SessionState → Type 0 where
  ends : Answers state (Put (NoticeMsg hold_expired) ∷ []) Closed
  says_keepalive : Answers state (Put KeepaliveMsg ∷ []) state
  stays : Answers state [] state

by_tests : (t u : Bool) (state : SessionState) →
    let r : List Line × SessionState = cond t (Put (NoticeMsg hold_expired) ∷ [], Closed) (cond u (Put KeepaliveMsg ∷ [], state) ([], state)) in
    Answers state r.0 r.1
by_tests true u state = ends
by_tests false true state = says_keepalive
by_tests false false state = stays

pub answers_are : (h count round : ℕ) (state : SessionState) (answer : List Line) (next : SessionState)
    → reply_at h count round state ≡ (answer, next) → Answers state answer next
answers_are h count round state answer next e =
    subst (λ (r : List Line × SessionState). Answers state r.0 r.1) e (by_tests (eqb count h) (eqb (round % (h / 3)) 0) state)

round_gets : (state : SessionState) (answer : List Line) (next : SessionState) → Answers state answer next → got_bytes answer ≡ []
round_gets state _ _ ends = refl
round_gets state _ _ says_keepalive = refl
round_gets state _ _ stays = refl

round_tells : (state : SessionState) (answer : List Line) (next : SessionState) → Answers state answer next → (routes : Routes)
    → fold tell routes answer ≡ routes
round_tells state _ _ ends routes = refl
round_tells state _ _ says_keepalive routes = refl
round_tells state _ _ stays routes = refl

round_hears : (e : Expected) (state : SessionState) (answer : List Line) (next : SessionState) → Answers state answer next → (routes : Routes)
    → fold (hear e) routes answer ≡ routes
round_hears e state _ _ ends routes = refl
round_hears e state _ _ says_keepalive routes = refl
round_hears e state _ _ stays routes = refl

-- ---- the story

module _ (p : Peering) (lines : List Line) (round : ℕ) (answer : List Line) (next : SessionState)
    (up : is_up (state_of lines) ≡ true)
    (runs : 0 < hold p lines)
    (later : All (IsEarlier round) lines)
    (reply : reply_at (hold p lines) (silence lines + 1) round (state_of lines) ≡ (answer, next)) where
  abbrev pub more : List Line
  more = Tick round ∷ answer

  answered : Answers (state_of lines) answer next
  answered = answers_are (hold p lines) (silence lines + 1) round (state_of lines) answer next reply

  pub legal_next : (Changes : List Line → Update → Type 0) → Legal Changes p lines (state_of lines) → Legal Changes p (lines ++ more) next
  legal_next Changes legal = Legal.passed lines (state_of lines) round answer next (lines ++ more) legal up runs later reply refl

  module _ (allowed : Allowed p lines (state_of lines)) where
    pub state_next : state_of (lines ++ more) ≡ next
    state_next = state_is p (lines ++ more) next (legal_next (λ _ _. Unit {0}) allowed)

    pub legal_then : (Changes : List Line → Update → Type 0) → Legal Changes p lines (state_of lines)
        → Legal Changes p (lines ++ more) (state_of (lines ++ more))
    legal_then Changes legal = subst (λ (x : SessionState). Legal Changes p (lines ++ more) x) (sym state_next) (legal_next Changes legal)

    pub got_then : got_bytes (lines ++ more) ≡ got_bytes lines
    got_then =
        got_grows lines more
        ∙ ap (λ (x : List ℕ). got_bytes lines ++ x) (round_gets (state_of lines) answer next answered)
        ∙ append-nil (got_bytes lines)

    pub put_then : put_bytes p (lines ++ more) ≡ put_bytes p lines ++ flat_map (put_in (is_wide p (lines ++ more))) answer
    put_then = put_grows p lines more (state_of lines) allowed

    abbrev expected_then : Expected
    expected_then = expected_next p (lines ++ more) Established

    pub heard_then : heard p (lines ++ more) ≡ unless_closed next (heard p lines)
    heard_then = by_closed next
        (λ e. none_heard p (lines ++ more) (state_next ∙ e) ∙ sym (ap (λ (x : SessionState). unless_closed x (heard p lines)) e))
        (λ c. heard_grows p lines more (state_of lines) refl allowed (up_open (state_of lines) up) (λ e. c (sym state_next ∙ e))
        ∙ round_hears expected_then (state_of lines) answer next answered (heard p lines)
        ∙ sym (while_unclosed next _ c))

    pub told_then : told (lines ++ more) ≡ unless_closed next (told lines)
    told_then = by_closed next
        (λ e. none_told (lines ++ more) (state_next ∙ e) ∙ sym (ap (λ (x : SessionState). unless_closed x (told lines)) e))
        (λ c. told_grows lines more (up_open (state_of lines) up) (λ e. c (sym state_next ∙ e))
        ∙ round_tells (state_of lines) answer next answered (told lines)
        ∙ sym (while_unclosed next _ c))
