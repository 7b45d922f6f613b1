-- How a legal story ends: nothing follows Closed, and a NOTIFICATION has a cause.
use Rattle.std.proofs.Common.{◌≡◌, ◌≢◌, ℕ, ◌+◌, ◌/◌, ◌%◌, List, [], ◌∷◌, ◌++◌, Bool, true, false, cond, eqb, Some}
use Rattle.std.proofs.Common.{Result, Ok, Err, refl, sym, ap, ◌∙◌, inl, inr, append_assoc, subst}
use Rattle.std.proofs.lemmas.Bool.{eqb-true}
use Rattle.std.proofs.lemmas.List.{append-nil}
use Rattle.std.proofs.lemmas.List.Sums.{fold-append}
use Rattle.bgp_types.specs.declared.fault.Expected.{Expected}
use Rattle.bgp_types.specs.declared.message.Message.{Message}
use Rattle.bgp_types.specs.declared.message.Message.TheVariants.{OpenMsg, UpdateMsg, NoticeMsg, KeepaliveMsg}
use Rattle.bgp_types.specs.declared.message.Notice.{Notice}
use Rattle.bgp_types.specs.declared.message.SessionState.{SessionState}
use Rattle.bgp_types.specs.declared.message.SessionState.TheVariants.{OpenSent, OpenConfirm, Established, Closed}
use Rattle.bgp_types.specs.Faults.{fault_in}
use Rattle.bgp_types.specs.FirstFault.{message_of}
use Rattle.bgp_story.specs.declared.line.Line.{Line}
use Rattle.bgp_story.specs.declared.line.Line.TheVariants.{Put, Got, Tick}
use Rattle.bgp_story.specs.Laws.{HasCause}
use Rattle.bgp_story.specs.Legal.{Peering, Allowed, opened, got, updated, passed, IsGot, reply_to, reply_at, hold_expired, is_up, expected_next, hold, silence}
use Rattle.bgp_story.specs.States.{is_type, with_keepalive_got, after_got, after, state_of, BeginsStory}
use Rattle.bgp_story.proofs.HeaderKinds.{read_of, read_type, notice_sound}
use Rattle.bgp_story.proofs.Splits.{Cut, behind, ahead, cut_of, some_left}
use Rattle.bgp_story.proofs.StoryLaws.{after_is, state_is}

-- a step has one answer at most, and is not closed before its answer
data Brief (state : SessionState) (line : Line) : List Line → Type 0 where
  no_answer : Brief state line []
  one_answer : (a : Line) → after state line ≢ Closed → Brief state line (a ∷ [])

stays_open : (u : Bool) (state : SessionState) → state ≢ Closed → cond u (with_keepalive_got state) state ≢ Closed
stays_open true OpenSent o = λ e. cc
stays_open true OpenConfirm o = λ e. cc
stays_open true Established o = λ e. cc
stays_open true Closed o = o
stays_open false state o = o

not_closed : (state : SessionState) (bytes : List ℕ) → state ≢ Closed → is_type 3 bytes ≡ false → after_got state bytes ≢ Closed
not_closed state bytes o t = λ e. stays_open (is_type 4 bytes) state o (sym (after_is state bytes false (is_type 4 bytes) t refl) ∙ e)

got_brief : (e : Expected) (bytes : List ℕ) → e.state ≢ Closed → IsGot bytes → (r : Result Message Notice) → message_of e bytes ≡ r
    → Brief e.state (Got bytes) (reply_to r).0
got_brief e bytes o w (Ok (OpenMsg m)) g =
    one_answer (Put KeepaliveMsg) (not_closed e.state bytes o (read_type 3 e bytes (OpenMsg m) w (read_of e bytes (OpenMsg m) g)))
got_brief e bytes o w (Ok (UpdateMsg _)) g = no_answer
got_brief e bytes o w (Ok (NoticeMsg _)) g = no_answer
got_brief e bytes o w (Ok KeepaliveMsg) g = no_answer
got_brief e bytes o w (Err n) g = one_answer (Put (NoticeMsg n)) (not_closed e.state bytes o (notice_sound e bytes n g))

round_brief : (t u : Bool) (state : SessionState) (round : ℕ) → state ≢ Closed →
    let r : List Line × SessionState = cond t (Put (NoticeMsg hold_expired) ∷ [], Closed) (cond u (Put KeepaliveMsg ∷ [], state) ([], state)) in
    Brief state (Tick round) r.0
round_brief true u state round o = one_answer (Put (NoticeMsg hold_expired)) o
round_brief false true state round o = one_answer (Put KeepaliveMsg) o
round_brief false false state round o = no_answer

up_open : (state : SessionState) → is_up state ≡ true → state ≢ Closed
up_open OpenSent e = λ f. cc
up_open OpenConfirm e = λ f. cc
up_open Established e = λ f. cc
up_open Closed e = absurd cc

of_reply : (state : SessionState) (line : Line) (r : List Line × SessionState) (answer : List Line) (next : SessionState) → r ≡ (answer, next)
    → Brief state line r.0 → Brief state line answer
of_reply state line r answer next e b = subst (λ (x : List Line × SessionState). Brief state line x.0) e b

got_short : (p : Peering) (before : List Line) (state : SessionState) (bytes : List ℕ) (answer : List Line) (next : SessionState) → state ≢ Closed
    → IsGot bytes → reply_to (message_of (expected_next p before state) bytes) ≡ (answer, next) → Brief state (Got bytes) answer
got_short p before state bytes answer next o w r = of_reply state (Got bytes) _ answer next r
    (got_brief (expected_next p before state) bytes o w (message_of (expected_next p before state) bytes) refl)

passed_short : (h c round : ℕ) (state : SessionState) (answer : List Line) (next : SessionState) → is_up state ≡ true
    → reply_at h c round state ≡ (answer, next) → Brief state (Tick round) answer
passed_short h c round state answer next up r =
    of_reply state (Tick round) _ answer next r (round_brief (eqb c h) (eqb (round % (h / 3)) 0) state round (up_open state up))

-- ---- nothing follows Closed

answered : (state : SessionState) (line : Line) (answer : List Line) (m y : Line) (ys : List Line) → Brief state line answer
    → line ∷ answer ≡ m ∷ y ∷ ys → after state m ≢ Closed
answered state line _ m y ys no_answer g = absurd cc
answered state line _ m y ys (one_answer a o) g = let same : line ≡ m = cc in λ c. o (ap (after state) same ∙ c)

too_long : (state : SessionState) (line : Line) (answer : List Line) (m k : Line) (mid : List Line) (y : Line) (ys : List Line)
    → Brief state line answer → line ∷ answer ≡ m ∷ k ∷ (mid ++ y ∷ ys) → ⊥
too_long state line _ m k mid y ys no_answer g = cc
too_long state line _ m k mid y ys (one_answer a o) g = let h : ◌≡◌ {A = List Line} [] (mid ++ y ∷ ys) = cc in some_left mid y ys h

closed_step : (xs : List Line) (y : Line) (ys before : List Line) (state : SessionState) (line : Line) (answer : List Line) →
    state_of before ≡ state → state ≢ Closed → Brief state line answer →
    ((xs' : List Line) (y' : Line) (ys' : List Line) → before ≡ xs' ++ y' ∷ ys' → state_of xs' ≢ Closed) →
    xs ++ y ∷ ys ≡ before ++ line ∷ answer → state_of xs ≢ Closed
closed_step xs y ys before state line answer s o b ih e = by_cut (cut_of xs (y ∷ ys) before (line ∷ answer) e) where
  by_cut : Cut xs (y ∷ ys) before (line ∷ answer) → state_of xs ≢ Closed
  by_cut (ahead [] f g) = λ c. o (sym s ∙ (ap state_of (f ∙ append-nil xs) ∙ c))
  by_cut (ahead (m ∷ mid) f g) = ih xs m mid f
  by_cut (behind [] f g) = λ c. o (sym s ∙ (ap state_of (sym (append-nil before) ∙ sym f) ∙ c))
  by_cut (behind (m ∷ []) f g) = λ c. answered state line answer m y ys b g
      (ap (λ (x : SessionState). after x m) (sym s) ∙ (sym (fold-append after OpenSent before (m ∷ [])) ∙ (ap state_of (sym f) ∙ c)))
  by_cut (behind (m ∷ k ∷ mid) f g) = absurd (too_long state line answer m k mid y ys b g)

first_line : (l : Line) (xs : List Line) (y : Line) (ys : List Line) → l ∷ [] ≡ xs ++ y ∷ ys → state_of xs ≢ Closed
first_line l [] y ys e = λ c. cc
first_line l (x ∷ xs) y ys e = let h : ◌≡◌ {A = List Line} [] (xs ++ y ∷ ys) = cc in absurd (some_left xs y ys h)

pub open_before : (p : Peering) (lines : List Line) (state : SessionState) → Allowed p lines state → (xs : List Line) (y : Line) (ys : List Line)
    → lines ≡ xs ++ y ∷ ys → state_of xs ≢ Closed
open_before p _ _ (opened lines h e) xs y ys f = first_line _ xs y ys (sym e ∙ f)
open_before p _ _ (got before state bytes answer next lines l o w r e) xs y ys f =
    closed_step xs y ys before state (Got bytes) answer (state_is p before state l) o
    (got_short p before state bytes answer next o w r) (open_before p before state l) (sym f ∙ e)
open_before p _ _ (updated before u lines l w c e) xs y ys f =
    closed_step xs y ys before Established (Put (UpdateMsg u)) [] (state_is p before Established l)
    (λ g. cc) no_answer (open_before p before Established l) (sym f ∙ e)
open_before p _ _ (passed before state round answer next lines l up h a r e) xs y ys f =
    closed_step xs y ys before state (Tick round) answer (state_is p before state l) (up_open state up)
    (passed_short (hold p before) (silence before + 1) round state answer next up r) (open_before p before state l) (sym f ∙ e)

pub closed_ends : (p : Peering) (lines more : List Line) (state : SessionState) → Allowed p lines Closed → Allowed p (lines ++ more) state → more ≡ []
closed_ends p lines [] state l k = refl
closed_ends p lines (m ∷ more) state l k = absurd (open_before p (lines ++ m ∷ more) state k lines m more refl (state_is p lines Closed l))

pub begun_open : (remote_as : ℕ) (lines more : List Line) (line : Line) → BeginsStory remote_as (lines ++ line ∷ more) → state_of lines ≢ Closed
begun_open remote_as lines more line b =
    open_before b.peering ((lines ++ line ∷ more) ++ b.rest) b.state b.legal lines line (more ++ b.rest) (append_assoc lines (line ∷ more) b.rest)

-- ---- causes

cause_step : (p : Peering) (n : Notice) (xs ys before : List Line) (state : SessionState) (line : Line) (answer : List Line) →
    line ≢ Put (NoticeMsg n) → Brief state line answer →
    (answer ≡ Put (NoticeMsg n) ∷ ys → HasCause p (before ++ line ∷ []) n) →
    ((xs' ys' : List Line) → before ≡ xs' ++ Put (NoticeMsg n) ∷ ys' → HasCause p xs' n) →
    xs ++ Put (NoticeMsg n) ∷ ys ≡ before ++ line ∷ answer → HasCause p xs n
cause_step p n xs ys before state line answer other b cause ih e = by_cut (cut_of xs (Put (NoticeMsg n) ∷ ys) before (line ∷ answer) e) where
  by_cut : Cut xs (Put (NoticeMsg n) ∷ ys) before (line ∷ answer) → HasCause p xs n
  by_cut (ahead [] f g) = absurd (other cc)
  by_cut (ahead (m ∷ mid) f g) = let same : m ≡ Put (NoticeMsg n) = cc in ih xs mid (f ∙ ap (λ (x : Line). xs ++ x ∷ mid) same)
  by_cut (behind [] f g) = absurd (other cc)
  by_cut (behind (m ∷ []) f g) =
      let same : line ≡ m = cc in
      let rest : answer ≡ Put (NoticeMsg n) ∷ ys = cc in
      subst (λ (x : List Line). HasCause p x n) (ap (λ (x : Line). before ++ x ∷ []) same ∙ sym f) (cause rest)
  by_cut (behind (m ∷ k ∷ mid) f g) = absurd (too_long state line answer m k mid (Put (NoticeMsg n)) ys b g)

got_cause : (e : Expected) (bytes : List ℕ) (n : Notice) (ys answer : List Line) (next : SessionState) (r : Result Message Notice)
    → message_of e bytes ≡ r → reply_to r ≡ (answer, next) → answer ≡ Put (NoticeMsg n) ∷ ys → fault_in (message_of e bytes) ≡ Some n
got_cause e bytes n ys answer next (Ok (OpenMsg _)) g f h =
    let k : ◌≡◌ {A = List Line} (Put KeepaliveMsg ∷ []) answer = ap (λ (x : List Line × SessionState). x.0) f in absurd cc
got_cause e bytes n ys answer next (Ok (UpdateMsg _)) g f h = let k : ◌≡◌ {A = List Line} [] answer = ap (λ (x : List Line × SessionState). x.0) f in absurd cc
got_cause e bytes n ys answer next (Ok (NoticeMsg _)) g f h = let k : ◌≡◌ {A = List Line} [] answer = ap (λ (x : List Line × SessionState). x.0) f in absurd cc
got_cause e bytes n ys answer next (Ok KeepaliveMsg) g f h = let k : ◌≡◌ {A = List Line} [] answer = ap (λ (x : List Line × SessionState). x.0) f in absurd cc
got_cause e bytes n ys answer next (Err m) g f h =
    let k : ◌≡◌ {A = List Line} (Put (NoticeMsg m) ∷ []) answer = ap (λ (x : List Line × SessionState). x.0) f in
    let same : m ≡ n = cc in
    ap fault_in g ∙ ap Some same

round_cause : (n : Notice) (ys answer : List Line) (next state : SessionState) (c h : ℕ) (t u : Bool) → eqb c h ≡ t →
    ◌≡◌ {A = List Line × SessionState} (cond t (Put (NoticeMsg hold_expired) ∷ [], Closed) (cond u (Put KeepaliveMsg ∷ [], state) ([], state))) (answer, next)
    → answer ≡ Put (NoticeMsg n) ∷ ys → (c ≡ h) × (n ≡ hold_expired)
round_cause n ys answer next state c h true u g f e =
    let k : ◌≡◌ {A = List Line} (Put (NoticeMsg hold_expired) ∷ []) answer = ap (λ (x : List Line × SessionState). x.0) f in
    let same : n ≡ hold_expired = cc in
    (eqb-true _ _ g, same)
round_cause n ys answer next state c h false true g f e =
    let k : ◌≡◌ {A = List Line} (Put KeepaliveMsg ∷ []) answer = ap (λ (x : List Line × SessionState). x.0) f in absurd cc
round_cause n ys answer next state c h false false g f e = let k : ◌≡◌ {A = List Line} [] answer = ap (λ (x : List Line × SessionState). x.0) f in absurd cc

first_cause : (p : Peering) (n : Notice) (o : Message) (xs ys : List Line) → Put o ≢ Put (NoticeMsg n) → Put o ∷ [] ≡ xs ++ Put (NoticeMsg n) ∷ ys
    → HasCause p xs n
first_cause p n o [] ys other e = absurd (other cc)
first_cause p n o (x ∷ xs) ys other e = let h : ◌≡◌ {A = List Line} [] (xs ++ Put (NoticeMsg n) ∷ ys) = cc in absurd (some_left xs (Put (NoticeMsg n)) ys h)

pub cause_of : (p : Peering) (lines : List Line) (state : SessionState) → Allowed p lines state → (n : Notice) (xs ys : List Line)
    → lines ≡ xs ++ Put (NoticeMsg n) ∷ ys → HasCause p xs n
cause_of p _ _ (opened lines h e) n xs ys f = first_cause p n (OpenMsg p.first) xs ys (λ g. cc) (sym e ∙ f)
cause_of p _ _ (got before state bytes answer next lines l o w r e) n xs ys f =
    let m : Result Message Notice = message_of (expected_next p before state) bytes in
    cause_step p n xs ys before state (Got bytes) answer (λ g. cc) (got_short p before state bytes answer next o w r)
    (λ h. inl (record {
      before = before;
      state = state;
      bytes = bytes;
      allowed = l;
      last = refl;
      fault = got_cause (expected_next p before state) bytes n ys answer next m refl r h;
    }))
    (cause_of p before state l n) (sym f ∙ e)
cause_of p _ _ (updated before u lines l w c e) n xs ys f =
    cause_step p n xs ys before Established (Put (UpdateMsg u)) [] (λ g. cc) no_answer (λ h. absurd cc) (cause_of p before Established l n) (sym f ∙ e)
cause_of p _ _ (passed before state round answer next lines l up h a r e) n xs ys f =
    cause_step p n xs ys before state (Tick round) answer (λ g. cc) (passed_short (hold p before) (silence before + 1) round state answer next up r)
    (λ k. let c = round_cause n ys answer next state (silence before + 1) (hold p before)
    (eqb (silence before + 1) (hold p before)) (eqb (round % (hold p before / 3)) 0) refl r k in
    inr (record { before = before; round = round; last = refl; over = c.0; expired = c.1 }))
    (cause_of p before state l n) (sym f ∙ e)
