-- What stands in a legal story: one OPEN, and frames.
use Rattle.std.proofs.Common.{◌≡◌, ℕ, ◌+◌, ◌/◌, ◌%◌, List, [], ◌∷◌, ◌++◌, Bool, true, false, cond, eqb, Result, Ok, Err, ap, ◌∙◌, subst}
use Rattle.std.specs.List.{AllByRecursion}
use Rattle.bgp_types.specs.declared.message.Message.{Message}
use Rattle.bgp_types.specs.declared.message.Message.TheVariants.{OpenMsg, UpdateMsg, NoticeMsg, KeepaliveMsg}
use Rattle.bgp_types.specs.declared.message.Notice.{Notice}
use Rattle.bgp_types.specs.declared.message.SessionState.{SessionState}
use Rattle.bgp_types.specs.declared.message.SessionState.TheVariants.{Established, Closed}
use Rattle.bgp_types.specs.FirstFault.{message_of}
use Rattle.bgp_story.specs.declared.line.Line.{Line}
use Rattle.bgp_story.specs.declared.line.Line.TheVariants.{Put, Got, Tick}
use Rattle.bgp_story.specs.Laws.{PutsNoOpen, OpensOnce, IsGotLine}
use Rattle.bgp_story.specs.Legal.{Peering, Allowed, opened, got, updated, passed, reply_to, reply_at, hold_expired, expected_next, hold, silence}
use Rattle.bgp_story.specs.Readings.{IsLegal}
use Rattle.bgp_story.proofs.Splits.{all_append}

-- ---- legal is allowed

pub allowed_of : (p : Peering) (lines : List Line) (state : SessionState) → IsLegal p lines state → Allowed p lines state
allowed_of p _ _ (opened lines h e) = opened lines h e
allowed_of p _ _ (got before state bytes answer next lines l o w r e) = got before state bytes answer next lines (allowed_of p before state l) o w r e
allowed_of p _ _ (updated before u lines l w c e) = updated before u lines (allowed_of p before Established l) w tt e
allowed_of p _ _ (passed before state round answer next lines l up h a r e) =
    passed before state round answer next lines (allowed_of p before state l) up h a r e

-- ---- answers are short: a KEEPALIVE, a NOTIFICATION or none

-- a list of KEEPALIVEs and NOTIFICATIONs that are put
abbrev pub IsAnswer : Line → Type 0
IsAnswer (Put (OpenMsg _)) = ⊥
IsAnswer (Put (UpdateMsg _)) = ⊥
IsAnswer (Put (NoticeMsg _)) = Unit {0}
IsAnswer (Put KeepaliveMsg) = Unit {0}
IsAnswer (Got _) = ⊥
IsAnswer (Tick _) = ⊥

reply_answers : (r : Result Message Notice) → AllByRecursion IsAnswer (reply_to r).0
reply_answers (Ok (OpenMsg _)) = (tt, tt)
reply_answers (Ok (UpdateMsg _)) = tt
reply_answers (Ok (NoticeMsg _)) = tt
reply_answers (Ok KeepaliveMsg) = tt
reply_answers (Err _) = (tt, tt)

round_answers : (t u : Bool) (state : SessionState) →
    let r : List Line × SessionState = cond t (Put (NoticeMsg hold_expired) ∷ [], Closed) (cond u (Put KeepaliveMsg ∷ [], state) ([], state)) in
    AllByRecursion IsAnswer r.0
round_answers true u state = (tt, tt)
round_answers false true state = (tt, tt)
round_answers false false state = tt

of_reply : (r : List Line × SessionState) (answer : List Line) (next : SessionState) → r ≡ (answer, next) → AllByRecursion IsAnswer r.0
    → AllByRecursion IsAnswer answer
of_reply r answer next e a = subst (λ (x : List Line × SessionState). AllByRecursion IsAnswer x.0) e a

pub got_answers : (p : Peering) (before : List Line) (state : SessionState) (bytes : List ℕ) (answer : List Line) (next : SessionState)
    → reply_to (message_of (expected_next p before state) bytes) ≡ (answer, next) → AllByRecursion IsAnswer answer
got_answers p before state bytes answer next r = of_reply _ answer next r (reply_answers (message_of (expected_next p before state) bytes))

pub passed_answers : (h c round : ℕ) (state : SessionState) (answer : List Line) (next : SessionState) → reply_at h c round state ≡ (answer, next)
    → AllByRecursion IsAnswer answer
passed_answers h c round state answer next r = of_reply _ answer next r (round_answers (eqb c h) (eqb (round % (h / 3)) 0) state)

pub all_weaken : (P Q : Line → Type 0) → ((line : Line) → P line → Q line) → (lines : List Line) → AllByRecursion P lines → AllByRecursion Q lines
all_weaken P Q f [] a = tt
all_weaken P Q f (line ∷ lines) a = (f line a.0, all_weaken P Q f lines a.1)

answer_no_open : (line : Line) → IsAnswer line → PutsNoOpen line
answer_no_open (Put (OpenMsg _)) a = a
answer_no_open (Put (UpdateMsg _)) a = tt
answer_no_open (Put (NoticeMsg _)) a = tt
answer_no_open (Put KeepaliveMsg) a = tt
answer_no_open (Got _) a = tt
answer_no_open (Tick _) a = tt

answer_got : (line : Line) → IsAnswer line → IsGotLine line
answer_got (Put _) a = tt
answer_got (Got _) a = absurd a
answer_got (Tick _) a = tt

no_open : (answer : List Line) → AllByRecursion IsAnswer answer → AllByRecursion PutsNoOpen answer
no_open answer a = all_weaken IsAnswer PutsNoOpen answer_no_open answer a

no_got : (answer : List Line) → AllByRecursion IsAnswer answer → AllByRecursion IsGotLine answer
no_got answer a = all_weaken IsAnswer IsGotLine answer_got answer a

-- ---- one OPEN

once_more : (p : Peering) (before step lines : List Line) → lines ≡ before ++ step → AllByRecursion PutsNoOpen step → OpensOnce p before → OpensOnce p lines
once_more p before step lines e a k = record {
  rest = k.rest ++ step;
  first = e ∙ ap (λ (x : List Line). x ++ step) k.first;
  others = all_append PutsNoOpen k.rest step k.others a;
}

pub opens_once_is : (p : Peering) (lines : List Line) (state : SessionState) → Allowed p lines state → OpensOnce p lines
opens_once_is p _ _ (opened lines h e) = record { rest = []; first = e; others = tt }
opens_once_is p _ _ (got before state bytes answer next lines l o w r e) =
    once_more p before (Got bytes ∷ answer) lines e (tt, no_open answer (got_answers p before state bytes answer next r)) (opens_once_is p before state l)
opens_once_is p _ _ (updated before u lines l w c e) = once_more p before (Put (UpdateMsg u) ∷ []) lines e (tt, tt) (opens_once_is p before Established l)
opens_once_is p _ _ (passed before state round answer next lines l up h a r e) =
    once_more p before (Tick round ∷ answer) lines e
    (tt, no_open answer (passed_answers (hold p before) (silence before + 1) round state answer next r)) (opens_once_is p before state l)

-- ---- frames

frames_more : (before step lines : List Line) → lines ≡ before ++ step → AllByRecursion IsGotLine step → AllByRecursion IsGotLine before
    → AllByRecursion IsGotLine lines
frames_more before step lines e a b = rw e (all_append IsGotLine before step b a)

pub got_in_frames_is : (p : Peering) (lines : List Line) (state : SessionState) → Allowed p lines state → AllByRecursion IsGotLine lines
got_in_frames_is p _ _ (opened lines h e) = rw e (tt, tt)
got_in_frames_is p _ _ (got before state bytes answer next lines l o w r e) =
    frames_more before (Got bytes ∷ answer) lines e (w, no_got answer (got_answers p before state bytes answer next r)) (got_in_frames_is p before state l)
got_in_frames_is p _ _ (updated before u lines l w c e) = frames_more before (Put (UpdateMsg u) ∷ []) lines e (tt, tt) (got_in_frames_is p before Established l)
got_in_frames_is p _ _ (passed before state round answer next lines l up h a r e) =
    frames_more before (Tick round ∷ answer) lines e
    (tt, no_got answer (passed_answers (hold p before) (silence before + 1) round state answer next r)) (got_in_frames_is p before state l)
