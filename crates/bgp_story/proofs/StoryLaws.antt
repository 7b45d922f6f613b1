-- The laws of legal stories, by the cases of a legal story.
use Rattle.std.proofs.Common.{◌≡◌, ℕ, ◌+◌, ◌/◌, ◌%◌, List, [], ◌∷◌, ◌++◌, Bool, true, false, cond, eqb, Result, Ok, Err, refl, sym, ap, ◌∙◌}
use Rattle.std.specs.Prelude.{fold}
use Rattle.std.proofs.lemmas.List.Sums.{fold-append}
use Rattle.bgp_types.specs.declared.fault.Expected.{Expected}
use Rattle.bgp_types.specs.declared.message.Message.{Message}
use Rattle.bgp_types.specs.declared.message.Message.TheVariants.{OpenMsg, UpdateMsg, NoticeMsg, KeepaliveMsg}
use Rattle.bgp_types.specs.declared.message.Notice.{Notice}
use Rattle.bgp_types.specs.declared.message.SessionState.{SessionState}
use Rattle.bgp_types.specs.declared.message.SessionState.TheVariants.{OpenSent, OpenConfirm, Established, Closed}
use Rattle.bgp_types.specs.FirstFault.{is_in_state, message_of}
use Rattle.bgp_story.specs.declared.line.Line.{Line}
use Rattle.bgp_story.specs.declared.line.Line.TheVariants.{Put, Got, Tick}
use Rattle.bgp_story.specs.Legal.{Peering, Allowed, opened, got, updated, passed, IsGot, reply_to, hold_expired, is_up, expected_next, hold, silence}
use Rattle.bgp_story.specs.States.{is_type, with_keepalive_put, with_keepalive_got, after_got, after, state_of}
use Rattle.bgp_story.proofs.HeaderKinds.{read_of, read_type}

-- ---- the state

pub after_is : (state : SessionState) (bytes : List ℕ) (t u : Bool) → is_type 3 bytes ≡ t → is_type 4 bytes ≡ u
    → after_got state bytes ≡ cond t Closed (cond u (with_keepalive_got state) state)
after_is state bytes t u a b =
    ap (λ (x : Bool). cond x Closed (cond (is_type 4 bytes) (with_keepalive_got state) state)) a
    ∙ ap (λ (x : Bool). cond t Closed (cond x (with_keepalive_got state) state)) b

takes_open : (state : SessionState) → is_in_state state 1 ≡ true → state ≡ OpenSent
takes_open OpenSent e = refl
takes_open OpenConfirm e = absurd cc
takes_open Established e = absurd cc
takes_open Closed e = absurd cc

takes_update : (state : SessionState) → is_in_state state 2 ≡ true → state ≡ Established
takes_update OpenSent e = absurd cc
takes_update OpenConfirm e = absurd cc
takes_update Established e = refl
takes_update Closed e = absurd cc

takes_keepalive : (state : SessionState) → is_in_state state 4 ≡ true → with_keepalive_got state ≡ Established
takes_keepalive OpenSent e = absurd cc
takes_keepalive OpenConfirm e = refl
takes_keepalive Established e = refl
takes_keepalive Closed e = absurd cc

got_step : (e : Expected) (bytes : List ℕ) → IsGot bytes → (r : Result Message Notice) → message_of e bytes ≡ r
    → fold after e.state (Got bytes ∷ (reply_to r).0) ≡ (reply_to r).1
got_step e bytes w (Err n) g = refl
got_step e bytes w (Ok (OpenMsg o)) g =
    let r = read_of e bytes (OpenMsg o) g in
    ap with_keepalive_put
    (after_is e.state bytes false false (read_type 3 e bytes (OpenMsg o) w r) (read_type 4 e bytes (OpenMsg o) w r) ∙ takes_open e.state r.in_state)
got_step e bytes w (Ok (UpdateMsg u)) g =
    let r = read_of e bytes (UpdateMsg u) g in
    after_is e.state bytes false false (read_type 3 e bytes (UpdateMsg u) w r) (read_type 4 e bytes (UpdateMsg u) w r) ∙ takes_update e.state r.in_state
got_step e bytes w (Ok (NoticeMsg n)) g =
    let r = read_of e bytes (NoticeMsg n) g in
    after_is e.state bytes true (is_type 4 bytes) (read_type 3 e bytes (NoticeMsg n) w r) refl
got_step e bytes w (Ok KeepaliveMsg) g =
    let r = read_of e bytes KeepaliveMsg g in
    after_is e.state bytes false true (read_type 3 e bytes KeepaliveMsg w r) (read_type 4 e bytes KeepaliveMsg w r) ∙ takes_keepalive e.state r.in_state

stays_up : (state : SessionState) → is_up state ≡ true → with_keepalive_put state ≡ state
stays_up OpenSent e = absurd cc
stays_up OpenConfirm e = refl
stays_up Established e = refl
stays_up Closed e = absurd cc

round_step : (t u : Bool) (state : SessionState) (round : ℕ) → is_up state ≡ true →
    let r : List Line × SessionState = cond t (Put (NoticeMsg hold_expired) ∷ [], Closed) (cond u (Put KeepaliveMsg ∷ [], state) ([], state)) in
    fold after state (Tick round ∷ r.0) ≡ r.1
round_step true u state round e = refl
round_step false true state round e = stays_up state e
round_step false false state round e = refl

-- the answer and the state after it are those of a reply
replied : (state : SessionState) (line : Line) (r : List Line × SessionState) (answer : List Line) (next : SessionState) → r ≡ (answer, next)
    → fold after state (line ∷ r.0) ≡ r.1 → fold after state (line ∷ answer) ≡ next
replied state line r answer next e f = ap (λ (x : List Line × SessionState). fold after state (line ∷ x.0)) (sym e)
    ∙ (f ∙ ap (λ (x : List Line × SessionState). x.1) e)

-- a step of a story, from the state before it
stepped : (before step lines : List Line) (state next : SessionState) → lines ≡ before ++ step → state_of before ≡ state
    → fold after state step ≡ next → state_of lines ≡ next
stepped before step lines state next e f g = ap state_of e ∙ (fold-append after OpenSent before step ∙ (ap (λ (x : SessionState). fold after x step) f ∙ g))

-- what is got, and its answer, lead from the state of any story to the state of the reply
pub state_got : (p : Peering) (before : List Line) (bytes : List ℕ) (answer : List Line) (next : SessionState) → IsGot bytes
    → reply_to (message_of (expected_next p before (state_of before)) bytes) ≡ (answer, next) → state_of (before ++ Got bytes ∷ answer) ≡ next
state_got p before bytes answer next w r =
    stepped before (Got bytes ∷ answer) (before ++ Got bytes ∷ answer) (state_of before) next refl refl
    (replied (state_of before) (Got bytes) _ answer next r
    (got_step (expected_next p before (state_of before)) bytes w (message_of (expected_next p before (state_of before)) bytes) refl))

pub state_is : (p : Peering) (lines : List Line) (state : SessionState) → Allowed p lines state → state_of lines ≡ state
state_is p _ _ (opened lines h e) = ap state_of e
state_is p _ _ (got before state bytes answer next lines l o w r e) =
    stepped before (Got bytes ∷ answer) lines state next e (state_is p before state l)
    (replied state (Got bytes) _ answer next r (got_step (expected_next p before state) bytes w (message_of (expected_next p before state) bytes) refl))
state_is p _ _ (updated before u lines l w c e) =
    stepped before (Put (UpdateMsg u) ∷ []) lines Established Established e (state_is p before Established l) refl
state_is p _ _ (passed before state round answer next lines l up h a r e) =
    stepped before (Tick round ∷ answer) lines state next e (state_is p before state l)
    (replied state (Tick round) _ answer next r (round_step (eqb (silence before + 1) (hold p before)) (eqb (round % (hold p before / 3)) 0) state round up))
