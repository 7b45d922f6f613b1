-- What is got, and its answer, in a story and in its readings.
use Rattle.std.proofs.Common.{◌≡◌, ℕ, List, ◌∷◌, ◌++◌, Result, refl, sym, ap, ◌∙◌, subst}
use Rattle.std.specs.Prelude.{◌≢◌, fold}
use Rattle.std.specs.List.{flat_map}
use Rattle.std.proofs.lemmas.List.{append-nil}
use Rattle.bgp_types.specs.declared.fault.Expected.{Expected}
use Rattle.bgp_types.specs.declared.message.Message.{Message}
use Rattle.bgp_types.specs.declared.message.Notice.{Notice}
use Rattle.bgp_types.specs.declared.message.SessionState.{SessionState}
use Rattle.bgp_types.specs.declared.message.SessionState.TheVariants.{OpenSent, OpenConfirm, Established, Closed}
use Rattle.bgp_types.specs.declared.message.Update.{Update}
use Rattle.bgp_types.specs.FirstFault.{message_of}
use Rattle.bgp_story.specs.declared.line.Line.{Line}
use Rattle.bgp_story.specs.declared.line.Line.TheVariants.{Got}
use Rattle.bgp_story.specs.Legal.{Legal, Peering, Allowed, IsGot, expected_next, is_wide, reply_to}
use Rattle.bgp_story.specs.Readings.{put_in, put_bytes, got_bytes, heard, told, hear, tell, apply_if, update_in, unless_closed}
use Rattle.bgp_story.specs.States.{state_of}
use Rattle.bgp_story.proofs.Grows.{put_grows, got_grows, told_grows, heard_grows, none_told, none_heard}
use Rattle.bgp_story.proofs.StoryLaws.{state_is}
use Rattle.session_value.proofs.Replies.{answer_gets, answer_tells, answer_hears, while_unclosed, same_update}

-- a state is closed or not
pub by_closed : {A : Type 0} (state : SessionState) → (state ≡ Closed → A) → (state ≢ Closed → A) → A
by_closed OpenSent f g = g (λ e. absurd cc)
by_closed OpenConfirm f g = g (λ e. absurd cc)
by_closed Established f g = g (λ e. absurd cc)
by_closed Closed f g = f refl

module _ (p : Peering) (lines : List Line) (bytes : List ℕ) (answer : List Line) (next : SessionState)
    (open_yet : state_of lines ≢ Closed)
    (got : IsGot bytes)
    (reply : reply_to (message_of (expected_next p lines (state_of lines)) bytes) ≡ (answer, next)) where
  abbrev pub said : Result Message Notice
  said = message_of (expected_next p lines (state_of lines)) bytes

  abbrev pub more : List Line
  more = Got bytes ∷ answer

  answer_is : answer ≡ (reply_to said).0
  answer_is = ap (λ (x : List Line × SessionState). x.0) (sym reply)

  pub legal_next : (Changes : List Line → Update → Type 0) → Legal Changes p lines (state_of lines) → Legal Changes p (lines ++ more) next
  legal_next Changes legal = Legal.got lines (state_of lines) bytes answer next (lines ++ more) legal open_yet got reply refl

  module _ (allowed : Allowed p lines (state_of lines)) where
    pub state_next : state_of (lines ++ more) ≡ next
    state_next = state_is p (lines ++ more) next (legal_next (λ _ _. Unit {0}) allowed)

    pub legal_then : (Changes : List Line → Update → Type 0) → Legal Changes p lines (state_of lines)
        → Legal Changes p (lines ++ more) (state_of (lines ++ more))
    legal_then Changes legal = subst (λ (x : SessionState). Legal Changes p (lines ++ more) x) (sym state_next) (legal_next Changes legal)

    pub got_then : got_bytes (lines ++ more) ≡ got_bytes lines ++ bytes
    got_then =
        got_grows lines more
        ∙ ap (λ (x : List ℕ). got_bytes lines ++ (bytes ++ x)) (ap got_bytes answer_is ∙ answer_gets said)
        ∙ ap (λ (x : List ℕ). got_bytes lines ++ x) (append-nil bytes)

    pub put_then : put_bytes p (lines ++ more) ≡ put_bytes p lines ++ flat_map (put_in (is_wide p (lines ++ more))) answer
    put_then = put_grows p lines more (state_of lines) allowed

    abbrev pub later : Expected
    later = expected_next p (lines ++ more) Established

    heard_unclosed : next ≢ Closed → heard p (lines ++ more) ≡ apply_if (heard p lines) (update_in said)
    heard_unclosed c =
        heard_grows p lines more (state_of lines) refl allowed open_yet (λ e. c (sym state_next ∙ e))
        ∙ (ap (λ (x : List Line). fold (hear later) (hear later (heard p lines) (Got bytes)) x) answer_is
        ∙ (answer_hears later said (hear later (heard p lines) (Got bytes))
        ∙ ap (apply_if (heard p lines)) (same_update p lines more (state_of lines) bytes answer next allowed reply c)))

    told_unclosed : next ≢ Closed → told (lines ++ more) ≡ told lines
    told_unclosed c =
        told_grows lines more open_yet (λ e. c (sym state_next ∙ e))
        ∙ (ap (λ (x : List Line). fold tell (told lines) x) answer_is
        ∙ answer_tells said (told lines))

    pub heard_then : heard p (lines ++ more) ≡ unless_closed next (apply_if (heard p lines) (update_in said))
    heard_then = by_closed next
        (λ e. none_heard p (lines ++ more) (state_next ∙ e) ∙ sym (ap (λ (x : SessionState). unless_closed x (apply_if (heard p lines) (update_in said))) e))
        (λ c. heard_unclosed c ∙ sym (while_unclosed next _ c))

    pub told_then : told (lines ++ more) ≡ unless_closed next (told lines)
    told_then = by_closed next
        (λ e. none_told (lines ++ more) (state_next ∙ e) ∙ sym (ap (λ (x : SessionState). unless_closed x (told lines)) e))
        (λ c. told_unclosed c ∙ sym (while_unclosed next _ c))
