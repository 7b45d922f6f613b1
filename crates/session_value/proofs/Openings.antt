-- A session in OpenSent has put its OPEN, and nothing else stands in its story.
use Rattle.std.proofs.Common.{◌≡◌, ◌+◌, ◌/◌, ◌%◌, List, [], ◌∷◌, Bool, true, false, cond, eqb, Result, Ok, Err, sym, ap, ◌∙◌}
use Rattle.bgp_types.specs.declared.message.Message.{Message}
use Rattle.bgp_types.specs.declared.message.Message.TheVariants.{OpenMsg, UpdateMsg, NoticeMsg, KeepaliveMsg}
use Rattle.bgp_types.specs.declared.message.Notice.{Notice}
use Rattle.bgp_types.specs.declared.message.SessionState.{SessionState}
use Rattle.bgp_types.specs.declared.message.SessionState.TheVariants.{OpenSent, OpenConfirm, Established, Closed}
use Rattle.bgp_types.specs.FirstFault.{message_of}
use Rattle.bgp_story.specs.declared.line.Line.{Line}
use Rattle.bgp_story.specs.declared.line.Line.TheVariants.{Put}
use Rattle.bgp_story.specs.Legal.{Peering, Allowed, opened, got, updated, passed, reply_to, hold_expired, is_up, expected_next, hold, silence}

-- no answer leads to OpenSent
reply_leads : (r : Result Message Notice) (answer : List Line) (next : SessionState) → reply_to r ≡ (answer, next) → next ≡ OpenSent → ⊥
reply_leads (Ok (OpenMsg _)) answer next r e = let x : OpenConfirm ≡ OpenSent = ap (λ (y : List Line × SessionState). y.1) r ∙ e in absurd cc
reply_leads (Ok (UpdateMsg _)) answer next r e = let x : Established ≡ OpenSent = ap (λ (y : List Line × SessionState). y.1) r ∙ e in absurd cc
reply_leads (Ok (NoticeMsg _)) answer next r e = let x : Closed ≡ OpenSent = ap (λ (y : List Line × SessionState). y.1) r ∙ e in absurd cc
reply_leads (Ok KeepaliveMsg) answer next r e = let x : Established ≡ OpenSent = ap (λ (y : List Line × SessionState). y.1) r ∙ e in absurd cc
reply_leads (Err n) answer next r e = let x : Closed ≡ OpenSent = ap (λ (y : List Line × SessionState). y.1) r ∙ e in absurd cc

not_up : (state : SessionState) → is_up state ≡ true → state ≡ OpenSent → ⊥
not_up state up e = let x : is_up OpenSent ≡ true = ap is_up (sym e) ∙ up in absurd cc

round_leads : (t u : Bool) (state next : SessionState) (answer : List Line) → is_up state ≡ true →
    ◌≡◌ {A = List Line × SessionState} (cond t (Put (NoticeMsg hold_expired) ∷ [], Closed) (cond u (Put KeepaliveMsg ∷ [], state) ([], state))) (answer, next)
    → next ≡ OpenSent → ⊥
round_leads true u state next answer up r e = let x : Closed ≡ OpenSent = ap (λ (y : List Line × SessionState). y.1) r ∙ e in absurd cc
round_leads false true state next answer up r e = not_up state up (ap (λ (y : List Line × SessionState). y.1) r ∙ e)
round_leads false false state next answer up r e = not_up state up (ap (λ (y : List Line × SessionState). y.1) r ∙ e)

pub only_opened : (p : Peering) (lines : List Line) (state : SessionState) → Allowed p lines state → state ≡ OpenSent → lines ≡ Put (OpenMsg p.first) ∷ []
only_opened p _ _ (opened lines h e) s = e
only_opened p _ _ (got before state bytes answer next lines l o w r e) s =
    absurd (reply_leads (message_of (expected_next p before state) bytes) answer next r s)
only_opened p _ _ (updated before u lines l w c e) s = absurd cc
only_opened p _ _ (passed before state round answer next lines l up h a r e) s =
    absurd (round_leads (eqb (silence before + 1) (hold p before)) (eqb (round % (hold p before / 3)) 0) state next answer up r s)
