-- Nothing is told on a session that isn't established.
use Rattle.std.proofs.Common.{◌≡◌, ℕ, Bool, true, false, cond, List, [], ◌∷◌, ◌++◌, Result, Ok, Err, refl, sym, ap, ◌∙◌, subst}
use Rattle.std.specs.Prelude.{◌≢◌, fold, ◌+◌, ◌==◌, ◌%◌, ◌/◌}
use Rattle.std.specs.FinMap as map
use Rattle.std.specs.List.{AllByRecursion}
use Rattle.bgp_types.specs.declared.fault.Expected.{Expected}
use Rattle.bgp_types.specs.declared.message.Message.{Message}
use Rattle.bgp_types.specs.declared.message.Message.TheVariants.{OpenMsg, UpdateMsg, NoticeMsg, KeepaliveMsg}
use Rattle.bgp_types.specs.declared.message.Notice.{Notice}
use Rattle.bgp_types.specs.declared.message.SessionState.{SessionState}
use Rattle.bgp_types.specs.declared.message.SessionState.TheVariants.{OpenSent, OpenConfirm, Established, Closed}
use Rattle.bgp_types.specs.FirstFault.{is_in_state, message_of}
use Rattle.bgp_story.specs.declared.line.Line.{Line}
use Rattle.bgp_story.specs.declared.line.Line.TheVariants.{Put, Got, Tick}
use Rattle.bgp_story.specs.Legal.{Peering, Allowed, opened, got, updated, passed, expected_next, reply_to, hold, silence, hold_expired}
use Rattle.bgp_story.specs.Readings.{Routes, tell, told, unless_closed}
use Rattle.bgp_story.specs.States.{state_of}
use Rattle.bgp_story.proofs.HeaderKinds.{read_of}
use Rattle.bgp_story.proofs.Shapes.{IsAnswer, all_weaken, got_answers}
use Rattle.bgp_story.proofs.Grows.{PutsNoUpdate, answer_no_update, none_told}
use Rattle.session_value.specs.Sessions.{SessionValue, peering_of, state}
use Rattle.session_value.specs.Ties.{IsOfStory}
use Rattle.graft_laws.proofs.Lists.{all_join}

-- ---- no UPDATE is put before

in_open_sent : (now : SessionState) → is_in_state now 1 ≡ true → now ≡ OpenSent
in_open_sent OpenSent e = refl
in_open_sent OpenConfirm e = absurd cc
in_open_sent Established e = absurd cc
in_open_sent Closed e = absurd cc

-- a message that leaves the session unestablished and open is an OPEN, which is taken in OpenSent alone
pub before_open : (e : Expected) (bytes : List ℕ) (r : Result Message Notice) (answer : List Line) (next : SessionState) → message_of e bytes ≡ r
    → reply_to r ≡ (answer, next) → next ≢ Established → next ≢ Closed → e.state ≡ OpenSent
before_open e bytes (Ok (OpenMsg o)) answer next g f up closed = in_open_sent e.state ((read_of e bytes (OpenMsg o) g).in_state)
before_open e bytes (Ok (UpdateMsg u)) answer next g f up closed = absurd (up (sym (ap (λ (x : List Line × SessionState). x.1) f)))
before_open e bytes (Ok KeepaliveMsg) answer next g f up closed = absurd (up (sym (ap (λ (x : List Line × SessionState). x.1) f)))
before_open e bytes (Ok (NoticeMsg n)) answer next g f up closed = absurd (closed (sym (ap (λ (x : List Line × SessionState). x.1) f)))
before_open e bytes (Err n) answer next g f up closed = absurd (closed (sym (ap (λ (x : List Line × SessionState). x.1) f)))

pub record Rounds (state next : SessionState) (answer : List Line) : Type 0 where
  pub same : next ≡ state
  pub none : AllByRecursion PutsNoUpdate answer

pub round_is : (a b : Bool) (now next : SessionState) (answer : List Line)
    → ◌≡◌ {A = List Line × SessionState} (cond a (Put (NoticeMsg hold_expired) ∷ [], Closed) (cond b (Put KeepaliveMsg ∷ [], now) ([], now))) (answer, next)
    → next ≢ Closed → Rounds now next answer
round_is true b now next answer e closed = absurd (closed (sym (ap (λ (x : List Line × SessionState). x.1) e)))
round_is false true now next answer e closed = record {
  same = sym (ap (λ (x : List Line × SessionState). x.1) e);
  none = subst (λ (x : List Line). AllByRecursion PutsNoUpdate x) (ap (λ (x : List Line × SessionState). x.0) e) (tt, tt);
}
round_is false false now next answer e closed = record {
  same = sym (ap (λ (x : List Line × SessionState). x.1) e);
  none = subst (λ (x : List Line). AllByRecursion PutsNoUpdate x) (ap (λ (x : List Line × SessionState). x.0) e) tt;
}

joined : (before more lines : List Line) → lines ≡ before ++ more → AllByRecursion PutsNoUpdate before → AllByRecursion PutsNoUpdate more
    → AllByRecursion PutsNoUpdate lines
joined before more lines e a b = subst (λ (x : List Line). AllByRecursion PutsNoUpdate x) (sym e) (all_join PutsNoUpdate before more a b)

is_not : (state next : SessionState) → state ≡ OpenSent → (state ≢ Established) × (state ≢ Closed)
is_not state next e = (
  (λ (f : state ≡ Established). (let g : OpenSent ≡ Established = sym e ∙ f in absurd cc)),
  (λ (f : state ≡ Closed). (let g : OpenSent ≡ Closed = sym e ∙ f in absurd cc)),
)

no_updates : (p : Peering) (lines : List Line) (state : SessionState) → Allowed p lines state → state ≢ Established → state ≢ Closed
    → AllByRecursion PutsNoUpdate lines
no_updates p _ _ (opened lines h e) up closed = subst (λ (x : List Line). AllByRecursion PutsNoUpdate x) (sym e) (tt, tt)
no_updates p _ _ (got before state bytes answer next lines l unclosed w r e) up closed =
    let is : state ≡ OpenSent =
    before_open (expected_next p before state) bytes (message_of (expected_next p before state) bytes) answer next refl r up closed in
    let n = is_not state next is in
    joined before (Got bytes ∷ answer) lines e (no_updates p before state l n.0 n.1)
    (tt, all_weaken IsAnswer PutsNoUpdate answer_no_update answer (got_answers p before state bytes answer next r))
no_updates p _ _ (updated before u lines l w c e) up closed = absurd (up refl)
no_updates p _ _ (passed before state round answer next lines l up_now h a r e) up closed =
    let is : Rounds state next answer = round_is (silence before + 1 == hold p before) (round % (hold p before / 3) == 0) state next answer r closed in
    joined before (Tick round ∷ answer) lines e
    (no_updates p before state l (λ (f : state ≡ Established). up (is.same ∙ f)) (λ (f : state ≡ Closed). closed (is.same ∙ f))) (tt, is.none)

-- ---- nothing is told

tells_none : (routes : Routes) (line : Line) → PutsNoUpdate line → tell routes line ≡ routes
tells_none routes (Put (OpenMsg _)) a = refl
tells_none routes (Put (UpdateMsg _)) a = absurd a
tells_none routes (Put (NoticeMsg _)) a = refl
tells_none routes (Put KeepaliveMsg) a = refl
tells_none routes (Got _) a = refl
tells_none routes (Tick _) a = refl

folds_none : (routes : Routes) (lines : List Line) → AllByRecursion PutsNoUpdate lines → fold tell routes lines ≡ routes
folds_none routes [] a = refl
folds_none routes (line ∷ lines) a = ap (λ (x : Routes). fold tell x lines) (tells_none routes line a.0) ∙ folds_none routes lines a.1

open_none : (p : Peering) (lines : List Line) (now : SessionState) → state_of lines ≡ now → Allowed p lines (state_of lines) → now ≢ Established
    → told lines ≡ map.empty
open_none p lines Closed is allowed up = none_told lines is
open_none p lines Established is allowed up = absurd (up refl)
open_none p lines OpenSent is allowed up = ap (λ (x : SessionState). unless_closed x (fold tell map.empty lines)) is
    ∙ folds_none map.empty lines (no_updates p lines (state_of lines) allowed (λ (f : state_of lines ≡ Established). up (sym is ∙ f))
    (λ (f : state_of lines ≡ Closed). (let g : OpenSent ≡ Closed = sym is ∙ f in absurd cc)))
open_none p lines OpenConfirm is allowed up = ap (λ (x : SessionState). unless_closed x (fold tell map.empty lines)) is
    ∙ folds_none map.empty lines (no_updates p lines (state_of lines) allowed (λ (f : state_of lines ≡ Established). up (sym is ∙ f))
    (λ (f : state_of lines ≡ Closed). (let g : OpenConfirm ≡ Closed = sym is ∙ f in absurd cc)))

pub told_none : (session : SessionValue) → IsOfStory session → state session ≢ Established → session.adj_rib_out ≡ map.empty
told_none session is up = is.adj_rib_out ∙ open_none (peering_of session.config) session.story (state session) refl is.tied.allowed up
