-- What was got says in which state a story is.
use Rattle.std.proofs.Common.{◌≡◌, ◌≢◌, ℕ, List, [], ◌∷◌, ◌++◌, false, refl, sym, ap, ◌∙◌, subst, inl, inr, append-nil}
use Rattle.std.specs.Prelude.{◌⊎◌, Option, None, fold}
use Rattle.std.specs.List.{AllByRecursion}
use Rattle.std.specs.FinMap as map
use Rattle.bgp_types.specs.declared.fault.Expected.{Expected}
use Rattle.bgp_types.specs.declared.message.OpenMsg as open_type
use Rattle.bgp_types.specs.declared.message.SessionState.{SessionState}
use Rattle.bgp_types.specs.declared.message.SessionState.TheVariants.{OpenSent, Established, Closed}
use Rattle.bgp_types.specs.declared.message.Message.TheVariants.{UpdateMsg}
use Rattle.bgp_types.specs.FirstFault.{message_of}
use Rattle.bgp_story.specs.declared.line.Line.{Line}
use Rattle.bgp_story.specs.declared.line.Line.TheVariants.{Put, Got, Tick}
use Rattle.bgp_story.specs.Laws.{IsGotLine}
use Rattle.bgp_story.specs.Legal.{Peering, Allowed, IsGot, opened, got, updated, passed, got_open, open_in, both_offer, expected_next, reply_to}
use Rattle.bgp_story.specs.Opens.{offers}
use Rattle.bgp_story.specs.Readings.{Routes, apply_if, update_in, hear, heard, got_bytes, unless_closed}
use Rattle.bgp_story.proofs.Shapes.{IsAnswer, allowed_of, got_answers, got_in_frames_is}
use Rattle.bgp_story.proofs.Splits.{Cut, behind, ahead, cut_of, some_left}
use Rattle.bgp_story.proofs.StoryLaws.{state_is}
use Rattle.session_value.specs.Fronts.{BeginsNothing}
use Rattle.story_readings.specs.Reads.{IsNoTick, StoryReads, AreAlike}
use Rattle.story_readings.proofs.Fronts.{joined, Cuts, same, first_ends, second_ends, cuts_of}

-- ---- what was got

abbrev gots : List Line → List (List ℕ)
gots [] = []
gots (Put m ∷ lines) = gots lines
gots (Got bytes ∷ lines) = bytes ∷ gots lines
gots (Tick round ∷ lines) = gots lines

gots_append : (xs ys : List Line) → gots (xs ++ ys) ≡ gots xs ++ gots ys
gots_append [] ys = refl
gots_append (Put m ∷ xs) ys = gots_append xs ys
gots_append (Got b ∷ xs) ys = ap (λ z. b ∷ z) (gots_append xs ys)
gots_append (Tick r ∷ xs) ys = gots_append xs ys

answers_got_nothing : (lines : List Line) → AllByRecursion IsAnswer lines → gots lines ≡ []
answers_got_nothing [] h = refl
answers_got_nothing (Put m ∷ lines) h = answers_got_nothing lines h.1
answers_got_nothing (Got b ∷ lines) h = absurd h.0
answers_got_nothing (Tick r ∷ lines) h = absurd h.0

all_got : (lines : List Line) → AllByRecursion IsGotLine lines → AllByRecursion IsGot (gots lines)
all_got [] h = tt
all_got (Put m ∷ lines) h = all_got lines h.1
all_got (Got b ∷ lines) h = (h.0, all_got lines h.1)
all_got (Tick r ∷ lines) h = all_got lines h.1

bytes_joined : (lines : List Line) → got_bytes lines ≡ joined (gots lines)
bytes_joined [] = refl
bytes_joined (Put m ∷ lines) = bytes_joined lines
bytes_joined (Got b ∷ lines) = ap (λ z. b ++ z) (bytes_joined lines)
bytes_joined (Tick r ∷ lines) = bytes_joined lines

-- ---- no round passed

timeless_parts : (xs ys : List Line) → AllByRecursion IsNoTick (xs ++ ys) → AllByRecursion IsNoTick xs × AllByRecursion IsNoTick ys
timeless_parts [] ys h = (tt, h)
timeless_parts (x ∷ xs) ys h = let rest = timeless_parts xs ys h.1 in ((h.0, rest.0), rest.1)

timeless_cut : (xs ys lines : List Line) → lines ≡ xs ++ ys → AllByRecursion IsNoTick lines → AllByRecursion IsNoTick xs × AllByRecursion IsNoTick ys
timeless_cut xs ys lines e h = timeless_parts xs ys (subst (AllByRecursion IsNoTick) e h)

second : (x : List Line × SessionState) (answer : List Line) (next : SessionState) → x ≡ (answer, next) → next ≡ x.1
second x answer next e = ap (λ (y : List Line × SessionState). y.1) (sym e)

snoc_same : (fs gs : List (List ℕ)) (f g : List ℕ) → fs ++ f ∷ [] ≡ gs ++ g ∷ [] → (fs ≡ gs) × (f ≡ g)
snoc_same fs gs f g e = by_cut (cut_of fs (f ∷ []) gs (g ∷ []) e)
  where
    by_cut : Cut fs (f ∷ []) gs (g ∷ []) → (fs ≡ gs) × (f ≡ g)
    by_cut (behind [] a b) = (a ∙ append-nil gs, cc)
    by_cut (behind (m ∷ mid) a b) = absurd (some_left mid f [] cc)
    by_cut (ahead [] a b) = (sym (a ∙ append-nil fs), cc)
    by_cut (ahead (m ∷ mid) a b) = absurd (some_left mid g [] cc)

module _ (p : Peering) where
  -- the OPEN that was got, by what was got
  abbrev open_of : List (List ℕ) → Option open_type.OpenMsg
  open_of [] = None
  open_of (b ∷ bs) = open_in (message_of (record { state = OpenSent; remote_as = p.remote_as; offered = offers p.first; wide = false }) b)

  open_gots : (lines : List Line) → got_open p lines ≡ open_of (gots lines)
  open_gots [] = refl
  open_gots (Put m ∷ lines) = open_gots lines
  open_gots (Got b ∷ lines) = refl
  open_gots (Tick r ∷ lines) = open_gots lines

  abbrev expected_by : List (List ℕ) → SessionState → Expected
  expected_by fs state = record { state = state; remote_as = p.remote_as; offered = offers p.first; wide = both_offer p.first (open_of fs) }

  expected_gots : (lines : List Line) (state : SessionState) → expected_next p lines state ≡ expected_by (gots lines) state
  expected_gots lines state =
      ap (λ o. record { state = state; remote_as = p.remote_as; offered = offers p.first; wide = both_offer p.first o }) (open_gots lines)

  abbrev next_of : List (List ℕ) → SessionState → List ℕ → SessionState
  next_of fs state f = (reply_to (message_of (expected_by fs state) f)).1

  -- ---- states

  -- the state once these were got
  data Reaches : List (List ℕ) → SessionState → Type 0 where
    none_yet : (fs : List (List ℕ)) → fs ≡ [] → Reaches fs OpenSent
    one_more : (before : List (List ℕ)) (state : SessionState) (f : List ℕ) (fs : List (List ℕ)) (next : SessionState)
        → Reaches before state → state ≢ Closed → fs ≡ before ++ f ∷ [] → next ≡ next_of before state f → Reaches fs next

  move_to : (fs gs : List (List ℕ)) (state : SessionState) → fs ≡ gs → Reaches fs state → Reaches gs state
  move_to fs gs state e r = subst (λ z. Reaches z state) e r

  reaches : (lines : List Line) (state : SessionState) → Allowed p lines state → AllByRecursion IsNoTick lines → Reaches (gots lines) state
  reaches _ _ (opened lines h e) n = none_yet (gots lines) (ap gots e)
  reaches _ _ (got before state bytes answer next lines l o w r e) n =
      one_more (gots before) state bytes (gots lines) next (reaches before state l (timeless_cut before (Got bytes ∷ answer) lines e n).0) o
      (ap gots e ∙ gots_append before (Got bytes ∷ answer)
      ∙ ap (λ z. gots before ++ bytes ∷ z) (answers_got_nothing answer (got_answers p before state bytes answer next r)))
      (second (reply_to (message_of (expected_next p before state) bytes)) answer next r
      ∙ ap (λ x. (reply_to (message_of x bytes)).1) (expected_gots before state))
  reaches _ _ (updated before u lines l w c e) n =
      move_to (gots before) (gots lines) Established
      (sym (ap gots e ∙ gots_append before (Put (UpdateMsg u) ∷ []) ∙ append-nil (gots before)))
      (reaches before Established l (timeless_cut before (Put (UpdateMsg u) ∷ []) lines e n).0)
  reaches _ _ (passed before state round answer next lines l up h a r e) n = absurd (timeless_cut before (Tick round ∷ answer) lines e n).1.0

  -- the state after some of them, which isn't Closed
  abbrev OpenAfter : List (List ℕ) → Type 0
  OpenAfter xs = (t : SessionState) × Reaches xs t × (t ≢ Closed)

  -- before each that was got the story wasn't closed
  open_then : (fs : List (List ℕ)) (state : SessionState) → Reaches fs state
      → (xs : List (List ℕ)) (g : List ℕ) (ys : List (List ℕ)) → fs ≡ xs ++ g ∷ ys → OpenAfter xs
  open_then fs _ (none_yet gs e) xs g ys d = absurd (some_left xs g ys (sym e ∙ d))
  open_then fs _ (one_more before state f gs next r o e n) xs g ys d = by_cut (cut_of xs (g ∷ ys) before (f ∷ []) (sym d ∙ e)) (open_then before state r)
    where
      by_cut : Cut xs (g ∷ ys) before (f ∷ [])
          → ((xs' : List (List ℕ)) (g' : List ℕ) (ys' : List (List ℕ)) → before ≡ xs' ++ g' ∷ ys' → OpenAfter xs') → OpenAfter xs
      by_cut (behind [] a b) ih = (state, move_to before xs state (sym (a ∙ append-nil before)) r, o)
      by_cut (behind (m ∷ mid) a b) ih = absurd (some_left mid g ys cc)
      by_cut (ahead [] a b) ih = (state, move_to before xs state (a ∙ append-nil xs) r, o)
      by_cut (ahead (m ∷ mid) a b) ih = ih xs m mid a

  -- one state
  one_state : (fs gs : List (List ℕ)) (s t : SessionState) → Reaches fs s → Reaches gs t → fs ≡ gs → t ≡ s
  one_state fs gs _ _ (none_yet _ e) (none_yet _ d) h = refl
  one_state fs gs _ _ (none_yet _ e) (one_more before state g _ next r o d n) h = absurd (some_left before g [] (sym e ∙ h ∙ d))
  one_state fs gs _ _ (one_more before state f _ next r o e n) (none_yet _ d) h = absurd (some_left before f [] (sym d ∙ sym h ∙ e))
  one_state fs gs _ _ (one_more b s f _ next r o e n) (one_more c t g _ other q k d m) h =
      let same = snoc_same b c f g (sym e ∙ h ∙ d) in
      let state = one_state b c s t r q same.0 in
      m ∙ ap (λ z. next_of z t g) (sym same.0) ∙ ap (λ z. next_of b z g) state ∙ ap (λ z. next_of b s z) (sym same.1) ∙ sym n

  -- ---- two readings

  hears_gots : (e : Expected) (routes : Routes) (lines : List Line)
      → fold (hear e) routes lines ≡ fold (λ rs b. apply_if rs (update_in (message_of e b))) routes (gots lines)
  hears_gots e routes [] = refl
  hears_gots e routes (Put m ∷ lines) = hears_gots e routes lines
  hears_gots e routes (Got b ∷ lines) = hears_gots e (apply_if routes (update_in (message_of e b))) lines
  hears_gots e routes (Tick r ∷ lines) = hears_gots e routes lines

  -- the table of what was got
  abbrev table_of : Expected → List (List ℕ) → Routes
  table_of e fs = fold (λ rs b. apply_if rs (update_in (message_of e b))) map.empty fs

  abbrev heard_by : List (List ℕ) → SessionState → Routes
  heard_by fs state = unless_closed state (table_of (expected_by fs Established) fs)

  heard_gots : (lines : List Line) (state : SessionState) → Allowed p lines state → heard p lines ≡ heard_by (gots lines) state
  heard_gots lines state l =
      ap (λ s. unless_closed s (fold (hear (expected_next p lines Established)) map.empty lines)) (state_is p lines state l)
      ∙ ap (unless_closed state)
      (hears_gots (expected_next p lines Established) map.empty lines ∙ ap (λ e. table_of e (gots lines)) (expected_gots lines Established))

  -- a reading has no message left where it ends
  ends : (said : List ℕ) (one : List Line) (s : SessionState) (x : StoryReads p said one s) (fs : List (List ℕ)) (t : SessionState) → Reaches fs t
      → (g : List ℕ) (more : List (List ℕ)) (rest : List ℕ) → fs ≡ gots one ++ g ∷ more → IsGot g → x.all.rest ≡ g ++ rest
      → (s ≡ Closed) ⊎ BeginsNothing x.all.rest → ⊥
  ends said one s x fs t r g more rest e w k (inr none) = none g rest k w
  ends said one s x fs t r g more rest e w k (inl closed) =
      let before = open_then fs t r (gots one) g more e in
      let reached = reaches one s (allowed_of p one s x.legal) x.timeless in
      before.2 (one_state (gots one) (gots one) s before.0 reached before.1 refl ∙ closed)

  module _ (said : List ℕ) (one other : List Line) (s t : SessionState) (x : StoryReads p said one s) (y : StoryReads p said other t) where
    allowed : Allowed p one s
    allowed = allowed_of p one s x.legal

    allowed_other : Allowed p other t
    allowed_other = allowed_of p other t y.legal

    by_cuts : Cuts (gots one) (gots other) x.all.rest y.all.rest → gots one ≡ gots other
    by_cuts (same e) = e
    by_cuts (first_ends g more e w k) =
        absurd (ends said one s x (gots other) t (reaches other t allowed_other y.timeless) g more (joined more ++ y.all.rest) e w k x.all.end)
    by_cuts (second_ends f more e w k) =
        absurd (ends said other t y (gots one) s (reaches one s allowed x.timeless) f more (joined more ++ x.all.rest) e w k y.all.end)

    same_gots : gots one ≡ gots other
    same_gots = by_cuts (cuts_of (gots one) (gots other) x.all.rest y.all.rest
        (all_got one (got_in_frames_is p one s allowed)) (all_got other (got_in_frames_is p other t allowed_other))
        (ap (λ z. z ++ x.all.rest) (sym (bytes_joined one)) ∙ sym x.all.is ∙ y.all.is ∙ ap (λ z. z ++ y.all.rest) (bytes_joined other)))

    same_states : t ≡ s
    same_states = one_state (gots one) (gots other) s t (reaches one s allowed x.timeless) (reaches other t allowed_other y.timeless) same_gots

pub alike : (p : Peering) (said : List ℕ) (one other : List Line) (s t : SessionState) → StoryReads p said one s → StoryReads p said other t
    → AreAlike p one other s t
alike p said one other s t x y =
    let gs = same_gots p said one other s t x y in
    let state = same_states p said one other s t x y in
    record {
      state = state;
      heard = heard_gots p other t (allowed_of p other t y.legal) ∙ ap (λ z. heard_by p (gots other) z) state
          ∙ ap (λ z. heard_by p z s) (sym gs) ∙ sym (heard_gots p one s (allowed_of p one s x.legal));
      opened = open_gots p other ∙ ap (open_of p) (sym gs) ∙ sym (open_gots p one);
    }
