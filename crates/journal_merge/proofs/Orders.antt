-- Sorted lists of entries: there is one with given journals, and it can be cut at a mark and at a clock.
use Rattle.std.proofs.Common.{◌≡◌, ◌≢◌, ◌≤◌, ◌<◌, ◌-◌, ℕ, zero, suc, Bool, true, false, List, [], ◌∷◌, ◌++◌, ◌==◌}
use Rattle.std.proofs.Common.{if◌then◌else◌, refl, ap, sym, subst, ◌∙◌, arith, ◌⊎◌, inl, inr, take}
use Rattle.std.specs.List.{AllByRecursion}
use Rattle.std.proofs.lemmas.Bool.Decides.{nat_tests}
use Rattle.std.proofs.lemmas.List.Elements.{filter-append}
use Rattle.ring_net.specs.declared.entry.JournalEntry.{JournalEntry}
use Rattle.journal_merge.specs.Merges.{IsBefore, AreSorted, entries_by, Interleaves, less_at, upto, IsCut}

pub equal_or_not : (p q : ℕ) → (p ≡ q) ⊎ (p ≢ q)
equal_or_not p q = grind arith

one_of : {A : Type 0} (Q : A → Type 0) (t : Bool) (x y : A) → Q x → Q y → Q (if t then x else y)
one_of Q true x y h k = h
one_of Q false x y h k = k

take_nil : {A : Type 0} (k : ℕ) → ◌≡◌ {A = List A} (take k []) []
take_nil zero = refl
take_nil (suc k) = refl

-- ---- one actor's entries

pub by_here : (k : ℕ) (e : JournalEntry) (es : List JournalEntry) → e.actor ≡ k → entries_by k (e ∷ es) ≡ e ∷ entries_by k es
by_here k e es h = grind (arith, nat_tests)

pub by_else : (k : ℕ) (e : JournalEntry) (es : List JournalEntry) → e.actor ≢ k → entries_by k (e ∷ es) ≡ entries_by k es
by_else k e es h = grind (arith, nat_tests)

pub each_by : (Q : JournalEntry → Type 0) (k : ℕ) (es : List JournalEntry) → AllByRecursion Q es → AllByRecursion Q (entries_by k es)
each_by Q k [] h = tt
each_by Q k (e ∷ es) h = elim (equal_or_not e.actor k) [
  | inl s ↦ rw (by_here k e es s) (h.0, each_by Q k es h.1)
  | inr ne ↦ rw (by_else k e es ne) (each_by Q k es h.1)
]

-- ---- there is one

same_tail : (m : JournalEntry) (ms ns : List JournalEntry) (k : ℕ) → entries_by k (m ∷ ms) ≡ entries_by k (m ∷ ns) → entries_by k ms ≡ entries_by k ns
same_tail m ms ns k h = elim (equal_or_not m.actor k) [
  | inl e ↦ (let g : m ∷ entries_by k ms ≡ m ∷ entries_by k ns = sym (by_here k m ms e) ∙ h ∙ by_here k m ns e in cc)
  | inr ne ↦ sym (by_else k m ms ne) ∙ h ∙ by_else k m ns ne
]

-- one of another actor at the head stands before it
head_before : (m n : JournalEntry) (ms ns : List JournalEntry) → AllByRecursion (IsBefore n) ns → n.actor ≢ m.actor
    → entries_by m.actor (m ∷ ms) ≡ entries_by m.actor (n ∷ ns) → IsBefore n m
head_before m n ms ns above ne h =
    let k : entries_by m.actor ns ≡ m ∷ entries_by m.actor ms = sym (by_else m.actor n ns ne) ∙ sym h ∙ by_here m.actor m ms refl in
    (subst (λ (xs : List JournalEntry). AllByRecursion (IsBefore n) xs) k (each_by (IsBefore n) m.actor ns above)).0

pub apart : (m n : JournalEntry) → IsBefore m n → IsBefore n m → ⊥
apart m n h k = grind arith

same_head : (m n : JournalEntry) (ms ns : List JournalEntry) → AllByRecursion (IsBefore m) ms → AllByRecursion (IsBefore n) ns
    → ((k : ℕ) → entries_by k (m ∷ ms) ≡ entries_by k (n ∷ ns)) → m ≡ n
same_head m n ms ns above above' h = elim (equal_or_not n.actor m.actor) [
  | inl e ↦ (let k : m ∷ entries_by m.actor ms ≡ n ∷ entries_by m.actor ns = sym (by_here m.actor m ms refl) ∙ h m.actor ∙ by_here m.actor n ns e in cc)
  | inr ne ↦ absurd (apart m n (head_before n m ns ms above (λ e. ne (sym e)) (sym (h n.actor))) (head_before m n ms ns above' ne (h m.actor)))
]

pub sorted_once : (ms ns : List JournalEntry) → AreSorted ms → AreSorted ns → ((k : ℕ) → entries_by k ms ≡ entries_by k ns) → ms ≡ ns
sorted_once [] [] p q h = refl
sorted_once [] (n ∷ ns) p q h = absurd (let k : [] ≡ n ∷ entries_by n.actor ns = h n.actor ∙ by_here n.actor n ns refl in cc)
sorted_once (m ∷ ms) [] p q h = absurd (let k : m ∷ entries_by m.actor ms ≡ [] = sym (by_here m.actor m ms refl) ∙ h m.actor in cc)
sorted_once (m ∷ ms) (n ∷ ns) p q h =
    let e : m ≡ n = same_head m n ms ns p.0 q.0 h in
    let h' : (k : ℕ) → entries_by k (m ∷ ms) ≡ entries_by k (m ∷ ns) =
    subst (λ (x : JournalEntry). (k : ℕ) → entries_by k (m ∷ ms) ≡ entries_by k (x ∷ ns)) (sym e) h in
    let rest : ms ≡ ns = sorted_once ms ns p.1 q.1 (λ k. same_tail m ms ns k (h' k)) in
    cc (e, rest)

-- ---- what stands before a mark

less-here : (f : ℕ → ℕ) (k : ℕ) → less_at f k k ≡ f k - 1
less-here f k = grind (arith, nat_tests)

less-else : (f : ℕ → ℕ) (k n : ℕ) → n ≢ k → less_at f k n ≡ f n
less-else f k n h = grind (arith, nat_tests)

each_upto : (Q : JournalEntry → Type 0) (m : ℕ → ℕ) (es : List JournalEntry) → AllByRecursion Q es → AllByRecursion Q (upto m es)
each_upto Q m [] h = tt
each_upto Q m (e ∷ es) h = one_of (λ xs. AllByRecursion Q xs) (m e.actor == 0) (upto m es)
    (e ∷ upto (less_at m e.actor) es) (each_upto Q m es h.1) (h.0, each_upto Q (less_at m e.actor) es h.1)

sorted_upto : (m : ℕ → ℕ) (es : List JournalEntry) → AreSorted es → AreSorted (upto m es)
sorted_upto m [] h = tt
sorted_upto m (e ∷ es) h = one_of (λ xs. AreSorted xs) (m e.actor == 0) (upto m es) (e ∷ upto (less_at m e.actor) es)
    (sorted_upto m es h.1) (each_upto (IsBefore e) (less_at m e.actor) es h.0, sorted_upto (less_at m e.actor) es h.1)

take_step : {X : Type 0} (k : ℕ) (n : X) (xs : List X) → k ≢ 0 → take k (n ∷ xs) ≡ n ∷ take (k - 1) xs
take_step zero n xs h = absurd (h refl)
take_step (suc k) n xs h = ap (λ j. n ∷ take j xs) (omega arith)

take_none : {X : Type 0} (k : ℕ) (xs : List X) → k ≡ 0 → take k xs ≡ []
take_none k xs e = rw e refl

skipped : (m : ℕ → ℕ) (e : JournalEntry) (es : List JournalEntry) → m e.actor ≡ 0 → upto m (e ∷ es) ≡ upto m es
skipped m e es h = grind (arith, nat_tests)

kept : (m : ℕ → ℕ) (e : JournalEntry) (es : List JournalEntry) → m e.actor ≢ 0 → upto m (e ∷ es) ≡ e ∷ upto (less_at m e.actor) es
kept m e es h = grind (arith, nat_tests)

upto_step : (m : ℕ → ℕ) (e : JournalEntry) (es : List JournalEntry) (k : ℕ) → (m e.actor ≡ 0) ⊎ (m e.actor ≢ 0) → (e.actor ≡ k) ⊎ (e.actor ≢ k)
    → entries_by k (upto m es) ≡ take (m k) (entries_by k es) → entries_by k (upto (less_at m e.actor) es) ≡ take (less_at m e.actor k) (entries_by k es)
    → entries_by k (upto m (e ∷ es)) ≡ take (m k) (entries_by k (e ∷ es))
upto_step m e es k (inl z) (inl s) h g =
    rw (skipped m e es z) (h ∙ take_none (m k) (entries_by k es) (ap m (sym s) ∙ z) ∙ sym (take_none (m k) (entries_by k (e ∷ es)) (ap m (sym s) ∙ z)))
upto_step m e es k (inl z) (inr ne) h g = rw (skipped m e es z) (rw (by_else k e es ne) h)
upto_step m e es k (inr nz) (inl s) h g = rw (kept m e es nz) (by_here k e (upto (less_at m e.actor) es) s
    ∙ ap (λ xs. e ∷ xs) (g ∙ ap (λ j. take j (entries_by k es)) (ap (λ x. less_at m e.actor x) (sym s) ∙ less-here m e.actor ∙ ap (λ x. m x - 1) s))
    ∙ sym (take_step (m k) e (entries_by k es) (λ z. nz (ap m s ∙ z))) ∙ ap (λ xs. take (m k) xs) (sym (by_here k e es s)))
upto_step m e es k (inr nz) (inr ne) h g = rw (kept m e es nz) (by_else k e (upto (less_at m e.actor) es) ne
    ∙ g ∙ ap (λ j. take j (entries_by k es)) (less-else m e.actor k (λ s. ne (sym s))) ∙ ap (λ xs. take (m k) xs) (sym (by_else k e es ne)))

by_upto : (m : ℕ → ℕ) (es : List JournalEntry) (k : ℕ) → entries_by k (upto m es) ≡ take (m k) (entries_by k es)
by_upto m [] k = sym (take_nil (m k))
by_upto m (e ∷ es) k = upto_step m e es k (equal_or_not (m e.actor) 0) (equal_or_not e.actor k) (by_upto m es k) (by_upto (less_at m e.actor) es k)

pub merged_upto : (journals : ℕ → List JournalEntry) (merged : List JournalEntry) (m : ℕ → ℕ) → Interleaves journals merged
    → Interleaves (λ k. take (m k) (journals k)) (upto m merged)
merged_upto journals merged m h = record { each = λ k. by_upto m merged k ∙ ap (λ xs. take (m k) xs) (h.each k); sorted = sorted_upto m merged h.sorted }

-- ---- what stands before a clock

abbrev pub IsLow : ℕ → JournalEntry → Type 0
IsLow c e = e.clock ≤ c

abbrev pub IsHigh : ℕ → JournalEntry → Type 0
IsHigh c e = c < e.clock

record Halves (c : ℕ) (es : List JournalEntry) : Type 0 where
  low : List JournalEntry
  high : List JournalEntry
  whole : es ≡ low ++ high
  lows : AllByRecursion (IsLow c) low
  highs : AllByRecursion (IsHigh c) high
  low_sorted : AreSorted low
  high_sorted : AreSorted high

high_step : (c : ℕ) (e : JournalEntry) (es : List JournalEntry) → IsHigh c e → AllByRecursion (IsBefore e) es → AllByRecursion (IsHigh c) es
high_step c e [] h k = tt
high_step c e (f ∷ es) h k = (above c e f h k.0, high_step c e es h k.1)
  where
    above : (c : ℕ) (e f : JournalEntry) → IsHigh c e → IsBefore e f → IsHigh c f
    above c e f h k = grind arith

front : (Q : JournalEntry → Type 0) (xs ys : List JournalEntry) → AllByRecursion Q (xs ++ ys) → AllByRecursion Q xs
front Q [] ys h = tt
front Q (x ∷ xs) ys h = (h.0, front Q xs ys h.1)

low_or_high : (k c : ℕ) → (k ≤ c) ⊎ (c < k)
low_or_high k c = grind arith

halves_step : (c : ℕ) (e : JournalEntry) (es : List JournalEntry) → AreSorted (e ∷ es) → IsLow c e ⊎ IsHigh c e → Halves c es → Halves c (e ∷ es)
halves_step c e es h (inl l) o = record {
  low = e ∷ o.low;
  high = o.high;
  whole = ap (λ xs. e ∷ xs) o.whole;
  lows = (l, o.lows);
  highs = o.highs;
  low_sorted = (front (IsBefore e) o.low o.high (subst (λ xs. AllByRecursion (IsBefore e) xs) o.whole h.0), o.low_sorted);
  high_sorted = o.high_sorted;
}
halves_step c e es h (inr k) o =
    record { low = []; high = e ∷ es; whole = refl; lows = tt; highs = (k, high_step c e es k h.0); low_sorted = tt; high_sorted = h }

halves : (c : ℕ) (es : List JournalEntry) → AreSorted es → Halves c es
halves c [] h = record { low = []; high = []; whole = refl; lows = tt; highs = tt; low_sorted = tt; high_sorted = tt }
halves c (e ∷ es) h = halves_step c e es h (low_or_high e.clock c) (halves c es h.1)

-- a list is cut at a clock in one way
one_cut : (c : ℕ) (us bs xs ys : List JournalEntry) → AllByRecursion (IsLow c) us → AllByRecursion (IsHigh c) bs → AllByRecursion (IsLow c) xs
    → AllByRecursion (IsHigh c) ys → us ++ bs ≡ xs ++ ys → (us ≡ xs) × (bs ≡ ys)
one_cut c [] bs [] ys la hb lx hy e = (refl, e)
one_cut c [] [] (x ∷ xs) ys la hb lx hy e = absurd cc
one_cut c [] (b ∷ bs) (x ∷ xs) ys la hb lx hy e = absurd (let s : b ≡ x = cc in omega (arith, hb.0, lx.0, ap (λ (n : JournalEntry). n.clock) s))
one_cut c (a ∷ us) bs [] [] la hb lx hy e = absurd cc
one_cut c (a ∷ us) bs [] (y ∷ ys) la hb lx hy e = absurd (let s : a ≡ y = cc in omega (arith, la.0, hy.0, ap (λ (n : JournalEntry). n.clock) s))
one_cut c (a ∷ us) bs (x ∷ xs) ys la hb lx hy e =
    let s : a ≡ x = cc in
    let t : us ++ bs ≡ xs ++ ys = cc in
    let r : (us ≡ xs) × (bs ≡ ys) = one_cut c us bs xs ys la.1 hb lx.1 hy t in
    (cc (s, r.0), r.1)

pub merged_cut : (c : ℕ) (j x y : ℕ → List JournalEntry) (merged : List JournalEntry) → Interleaves j merged → ((k : ℕ) → j k ≡ x k ++ y k)
    → ((k : ℕ) → AllByRecursion (IsLow c) (x k)) → ((k : ℕ) → AllByRecursion (IsHigh c) (y k)) → IsCut x y merged
merged_cut c j x y merged h split lows highs =
    let o : Halves c merged = halves c merged h.sorted in
    let parts : (k : ℕ) → (entries_by k o.low ≡ x k) × (entries_by k o.high ≡ y k) = λ k. one_cut c (entries_by k o.low)
    (entries_by k o.high) (x k) (y k) (each_by (IsLow c) k o.low o.lows) (each_by (IsHigh c) k o.high o.highs) (lows k) (highs k)
    (sym (filter-append (λ (e : JournalEntry). e.actor == k) o.low o.high) ∙ ap (λ xs. entries_by k xs) (sym o.whole) ∙ h.each k ∙ split k) in
    record {
      front = o.low;
      back = o.high;
      whole = o.whole;
      first = record { each = λ k. (parts k).0; sorted = o.low_sorted };
      second = record { each = λ k. (parts k).1; sorted = o.high_sorted };
    }
