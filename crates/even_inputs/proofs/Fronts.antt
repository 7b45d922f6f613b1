-- What a session got stands at the front of what its remote says, message by message.
use Rattle.std.proofs.Common.{◌≡◌, ℕ, ◌≤◌, Bool, true, false, cond, leb, List, [], ◌∷◌, ◌++◌, length, take, drop, Option, Some, None}
use Rattle.std.proofs.Common.{refl, sym, ap, ◌∙◌, subst, arith, append_assoc, append-nil, length-append, ◌⊎◌, inl, inr}
use Rattle.std.specs.Prelude.{◌&&◌, is_some, IsSome}
use Rattle.std.specs.List.{AllByRecursion, flat_map}
use Rattle.std.proofs.lemmas.Bool.{le-leb}
use Rattle.std.proofs.lemmas.Bool.Decides.{nat_tests}
use Rattle.std.proofs.lemmas.Grind.{flat_map-append}
use Rattle.std.proofs.lemmas.List.{take_at, take-append-drop, length-take-le}
use Rattle.bgp_types.specs.declared.message.SessionState.{SessionState}
use Rattle.bgp_types.specs.declared.message.SessionState.TheVariants.{Established, Closed}
use Rattle.bgp_types.specs.declared.message.Message.TheVariants.{UpdateMsg}
use Rattle.bgp_types.specs.Header.{frame_at, header_fault}
use Rattle.bgp_types.specs.Many.{many}
use Rattle.bgp_types.proofs.FrameLaws.{IsFrame, frame_is, front_frame, frame_reads, header_same}
use Rattle.bgp_types.proofs.ManyLaws.{many_front, many_none}
use Rattle.bgp_story.specs.declared.line.Line.{Line}
use Rattle.bgp_story.specs.declared.line.Line.TheVariants.{Put, Got, Tick}
use Rattle.bgp_story.specs.Legal.{Peering, Allowed, IsGot, opened, got, updated, passed}
use Rattle.bgp_story.specs.Readings.{got_bytes}
use Rattle.bgp_story.proofs.Shapes.{IsAnswer, got_answers}
use Rattle.session_value.specs.Fronts.{BeginsNothing}
use Rattle.graft_laws.proofs.Lists.{all_front, all_back, all_join}
use Rattle.story_readings.specs.Reads.{IsNoTick, GotAllOf}
use Rattle.even_inputs.specs.Readings.{faulty_front, fronts_in}
use Rattle.even_inputs.proofs.Lists.{both}
use Rattle.even_inputs.proofs.Readings.{gots, gots_whole, whole_lines}

-- ---- what is got by a step of a story

pub gots_append : (xs ys : List Line) → gots (xs ++ ys) ≡ gots xs ++ gots ys
gots_append [] ys = refl
gots_append (Put _ ∷ xs) ys = gots_append xs ys
gots_append (Got bytes ∷ xs) ys = ap (λ (fs : List (List ℕ)). bytes ∷ fs) (gots_append xs ys)
gots_append (Tick _ ∷ xs) ys = gots_append xs ys

pub joined : (lines : List Line) → got_bytes lines ≡ flat_map (λ f. f) (gots lines)
joined [] = refl
joined (Put _ ∷ lines) = joined lines
joined (Got bytes ∷ lines) = ap (λ (xs : List ℕ). bytes ++ xs) (joined lines)
joined (Tick _ ∷ lines) = joined lines

answer_gets : (answer : List Line) → AllByRecursion IsAnswer answer → gots answer ≡ []
answer_gets [] all = refl
answer_gets (Put _ ∷ lines) all = answer_gets lines all.1
answer_gets (Got _ ∷ lines) all = absurd all.0
answer_gets (Tick _ ∷ lines) all = absurd all.0

pub one_got : (before answer lines : List Line) (bytes : List ℕ) → AllByRecursion IsAnswer answer → lines ≡ before ++ Got bytes ∷ answer
    → gots lines ≡ gots before ++ bytes ∷ []
one_got before answer lines bytes all e =
    ap gots e ∙ gots_append before (Got bytes ∷ answer) ∙ ap (λ (fs : List (List ℕ)). gots before ++ bytes ∷ fs) (answer_gets answer all)

pub none_got : (before lines : List Line) (line : Line) → gots (line ∷ []) ≡ [] → lines ≡ before ++ line ∷ [] → gots lines ≡ gots before
none_got before lines line none e =
    ap gots e ∙ gots_append before (line ∷ []) ∙ ap (λ (fs : List (List ℕ)). gots before ++ fs) none ∙ append-nil (gots before)

-- no round passed before a step, nor in it
pub timeless_parts : (before step lines : List Line) → lines ≡ before ++ step → AllByRecursion IsNoTick lines
    → AllByRecursion IsNoTick before × AllByRecursion IsNoTick step
timeless_parts before step lines e all =
    let both_are : AllByRecursion IsNoTick (before ++ step) = subst (AllByRecursion IsNoTick) e all in
    (all_front IsNoTick before step both_are, all_back IsNoTick before step both_are)

-- ---- fronts

-- messages stand one after another in front of whatever follows
in_front : (fs : List (List ℕ)) (rest : List ℕ) → AllByRecursion IsFrame fs → fronts_in (flat_map (λ f. f) fs ++ rest) ≡ fs ++ fronts_in rest
in_front fs rest whole =
    ap (λ (x : List (List ℕ) × List ℕ). x.0 ++ faulty_front x.1) (many_front frame_at (λ frame. frame) IsFrame frame_reads fs rest whole)
    ∙ append_assoc fs (many frame_at rest).0 (faulty_front (many frame_at rest).1)

-- behind the last message only a faulty header is left
pub at_end : (bytes : List ℕ) → frame_at bytes ≡ None → fronts_in bytes ≡ faulty_front bytes
at_end bytes none = ap (λ (x : List (List ℕ) × List ℕ). x.0 ++ faulty_front x.1) (many_none frame_at bytes none)

no_faulty : (rest : List ℕ) → BeginsNothing rest → faulty_front rest ≡ []
no_faulty rest nothing = by_test (leb 19 (length rest) && is_some (header_fault rest)) refl where
  by_test : (b : Bool) → (leb 19 (length rest) && is_some (header_fault rest)) ≡ b → cond b (take 19 rest ∷ []) [] ≡ []
  by_test false e = refl
  by_test true e =
      let parts = both (leb 19 (length rest)) (is_some (header_fault rest)) e in
      let long : 19 ≤ length rest = grind (arith, nat_tests, parts.0) in
      let size : length (take 19 rest) ≡ 19 = length-take-le 19 rest long in
      let same : header_fault (take 19 rest) ≡ header_fault rest =
      sym (header_same (take 19 rest) (drop 19 rest) (omega (arith, size))) ∙ ap header_fault (take-append-drop 19 rest) in
      absurd (nothing (take 19 rest) (drop 19 rest) (sym (take-append-drop 19 rest)) (inr (size, ap is_some same ∙ parts.1)))

pub no_fronts : (rest : List ℕ) → BeginsNothing rest → fronts_in rest ≡ []
no_fronts rest nothing = by_frame (frame_at rest) refl where
  by_frame : (o : Option (List ℕ × List ℕ)) → frame_at rest ≡ o → fronts_in rest ≡ []
  by_frame None e = at_end rest e ∙ no_faulty rest nothing
  by_frame (Some x) e =
      let front = front_frame rest x e in
      absurd (nothing x.0 x.1 front.0 (inl (ap frame_at (sym (append-nil x.0)) ∙ front.1 [])))

-- a header of 19 octets with a fault
abbrev pub IsFaulty : List ℕ → Type 0
IsFaulty f = (length f ≡ 19) × IsSome (header_fault f)

pub faulty_in_front : (f rest : List ℕ) → IsFaulty f → fronts_in (f ++ rest) ≡ f ∷ []
faulty_in_front f rest faulty = by_frame (frame_at (f ++ rest)) refl where
  same : header_fault (f ++ rest) ≡ header_fault f
  same = header_same f rest (let size = faulty.0 in omega (arith, size))

  fault : is_some (header_fault (f ++ rest)) ≡ true
  fault = ap is_some same ∙ faulty.1

  long : leb 19 (length (f ++ rest)) ≡ true
  long = let size = faulty.0 in le-leb 19 (length (f ++ rest)) (omega (arith, size, length-append f rest))

  alone : faulty_front (f ++ rest) ≡ f ∷ []
  alone =
      ap (λ (b : Bool). cond (b && is_some (header_fault (f ++ rest))) (take 19 (f ++ rest) ∷ []) []) long
      ∙ ap (λ (b : Bool). cond b (take 19 (f ++ rest) ∷ []) []) fault
      ∙ ap (λ (g : List ℕ). g ∷ []) (take_at f rest 19 faulty.0)

  by_frame : (o : Option (List ℕ × List ℕ)) → frame_at (f ++ rest) ≡ o → fronts_in (f ++ rest) ≡ f ∷ []
  by_frame None e = at_end (f ++ rest) e ∙ alone
  by_frame (Some x) e = absurd (not_none (header_fault (f ++ rest)) (frame_is (f ++ rest) x e).1 fault)
    where
      not_none : {A : Type 0} (o : Option A) → o ≡ None → is_some o ≡ true → ⊥
      not_none None n s = absurd cc
      not_none (Some y) n s = absurd cc

-- ---- what was got

-- Messages, of which the last may be a faulty header alone.
data AreGot (fs : List (List ℕ)) : Type 0 where
  whole : AllByRecursion IsFrame fs → AreGot fs
  ended : (before : List (List ℕ)) (f : List ℕ) → fs ≡ before ++ f ∷ [] → AllByRecursion IsFrame before → IsFaulty f → AreGot fs

are_got : (p : Peering) (lines : List Line) (state : SessionState) → Allowed p lines state → AllByRecursion IsNoTick lines → AreGot (gots lines)
are_got p _ _ (opened lines h e) n = whole (subst (λ (ls : List Line). AllByRecursion IsFrame (gots ls)) (sym e) tt)
are_got p _ _ (got before state bytes answer next lines l o w r e) n = by_front w where
  is : gots lines ≡ gots before ++ bytes ∷ []
  is = one_got before answer lines bytes (got_answers p before state bytes answer next r) e

  earlier : AllByRecursion IsFrame (gots before)
  earlier = gots_whole before (whole_lines p before state l o)

  by_front : IsGot bytes → AreGot (gots lines)
  by_front (inl f) = whole (subst (AllByRecursion IsFrame) (sym is)
      (all_join IsFrame (gots before) (bytes ∷ []) earlier ((front_frame bytes (bytes, []) f).1, tt)))
  by_front (inr g) = ended (gots before) bytes is earlier g
are_got p _ _ (updated before u lines l w c e) n = whole (subst (AllByRecursion IsFrame) (sym (none_got before lines (Put (UpdateMsg u)) refl e))
    (gots_whole before (whole_lines p before Established l (λ f. absurd cc))))
are_got p _ _ (passed before state round answer next lines l up h a r e) n = absurd (timeless_parts before (Tick round ∷ answer) lines e n).1.0

-- The messages in what was said are those that were got, and more only where the session has ended.
pub record BeginWith (said : List ℕ) (lines : List Line) (state : SessionState) : Type 0 where
  pub more : List (List ℕ)
  pub is : fronts_in said ≡ gots lines ++ more
  pub end : (state ≡ Closed) ⊎ (more ≡ [])

pub begin_with : (p : Peering) (said : List ℕ) (lines : List Line) (state : SessionState) → Allowed p lines state → AllByRecursion IsNoTick lines
    → GotAllOf said lines state → BeginWith said lines state
begin_with p said lines state l n all = by_gots (are_got p lines state l n) where
  split : (fs : List (List ℕ)) → gots lines ≡ fs → said ≡ flat_map (λ f. f) fs ++ all.rest
  split fs e = all.is ∙ ap (λ (xs : List ℕ). xs ++ all.rest) (joined lines ∙ ap (λ (xs : List (List ℕ)). flat_map (λ f. f) xs) e)

  by_end : (state ≡ Closed) ⊎ BeginsNothing all.rest → (state ≡ Closed) ⊎ (fronts_in all.rest ≡ [])
  by_end (inl closed) = inl closed
  by_end (inr nothing) = inr (no_fronts all.rest nothing)

  by_gots : AreGot (gots lines) → BeginWith said lines state
  by_gots (whole frames) = record {
    more = fronts_in all.rest;
    is = ap fronts_in (split (gots lines) refl) ∙ in_front (gots lines) all.rest frames;
    end = by_end all.end;
  }
  by_gots (ended before f e frames faulty) = record {
    more = [];
    is = ap fronts_in (split (before ++ f ∷ []) e
        ∙ ap (λ (xs : List ℕ). xs ++ all.rest) (flat_map-append (λ x. x) before (f ∷ []) ∙ ap (λ (xs : List ℕ). flat_map (λ x. x) before ++ xs) (append-nil f))
        ∙ append_assoc (flat_map (λ x. x) before) f all.rest)
        ∙ in_front before (f ++ all.rest) frames
        ∙ ap (λ (fs : List (List ℕ)). before ++ fs) (faulty_in_front f all.rest faulty)
        ∙ sym e ∙ sym (append-nil (gots lines));
    end = inr refl;
  }
