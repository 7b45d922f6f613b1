-- An UPDATE that is put, in a story and in its readings.
use Rattle.std.proofs.Common.{◌≡◌, ℕ, List, [], ◌∷◌, ◌++◌, Bool, refl, sym, ap, ◌∙◌, subst}
use Rattle.std.specs.Prelude.{◌≢◌}
use Rattle.std.proofs.lemmas.List.{append-nil}
use Rattle.bgp_types.specs.declared.message.Message.TheVariants.{UpdateMsg}
use Rattle.bgp_types.specs.declared.message.SessionState.{SessionState}
use Rattle.bgp_types.specs.declared.message.SessionState.TheVariants.{Established, Closed}
use Rattle.bgp_types.specs.declared.message.Update.{Update}
use Rattle.bgp_types.specs.Spelling.{spell}
use Rattle.bgp_story.specs.declared.line.Line.{Line}
use Rattle.bgp_story.specs.declared.line.Line.TheVariants.{Put}
use Rattle.bgp_story.specs.Legal.{Legal, Peering, Allowed, IsOneWay, is_up, is_wide}
use Rattle.bgp_story.specs.Readings.{put_bytes, got_bytes, heard, told, apply}
use Rattle.bgp_story.specs.States.{state_of}
use Rattle.bgp_story.proofs.Grows.{put_grows, got_grows, told_grows, heard_grows, width_stays}
use Rattle.bgp_story.proofs.StoryLaws.{state_is}

unclosed : (state : SessionState) → state ≡ Established → state ≢ Closed
unclosed state e f = let x : Established ≡ Closed = sym e ∙ f in cc

module _ (p : Peering) (lines : List Line) (u : Update) (established : state_of lines ≡ Established) where
  abbrev pub more : List Line
  more = Put (UpdateMsg u) ∷ []

  pub legal_next : (Changes : List Line → Update → Type 0) → IsOneWay u (is_wide p lines) → Changes lines u → Legal Changes p lines (state_of lines)
      → Legal Changes p (lines ++ more) Established
  legal_next Changes one_way changes legal =
      Legal.updated lines u (lines ++ more) (subst (λ (x : SessionState). Legal Changes p lines x) established legal) one_way changes refl

  module _ (one_way : IsOneWay u (is_wide p lines)) (allowed : Allowed p lines (state_of lines)) where
    pub state_next : state_of (lines ++ more) ≡ Established
    state_next = state_is p (lines ++ more) Established (legal_next (λ _ _. Unit {0}) one_way tt allowed)

    pub legal_then : (Changes : List Line → Update → Type 0) → Changes lines u → Legal Changes p lines (state_of lines)
        → Legal Changes p (lines ++ more) (state_of (lines ++ more))
    legal_then Changes changes legal =
        subst (λ (x : SessionState). Legal Changes p (lines ++ more) x) (sym state_next) (legal_next Changes one_way changes legal)

    pub got_then : got_bytes (lines ++ more) ≡ got_bytes lines
    got_then = got_grows lines more ∙ append-nil (got_bytes lines)

    pub put_then : put_bytes p (lines ++ more) ≡ put_bytes p lines ++ spell (UpdateMsg u) (is_wide p lines)
    put_then =
        put_grows p lines more (state_of lines) allowed
        ∙ ap (λ (x : List ℕ). put_bytes p lines ++ x) (append-nil (spell (UpdateMsg u) (is_wide p (lines ++ more))))
        ∙ ap (λ (w : Bool). put_bytes p lines ++ spell (UpdateMsg u) w) (width_stays p lines more (state_of lines) allowed (ap is_up established))

    pub heard_then : heard p (lines ++ more) ≡ heard p lines
    heard_then = heard_grows p lines more (state_of lines) refl allowed (unclosed (state_of lines) established) (unclosed (state_of (lines ++ more)) state_next)

    pub told_then : told (lines ++ more) ≡ apply (told lines) u
    told_then = told_grows lines more (unclosed (state_of lines) established) (unclosed (state_of (lines ++ more)) state_next)
