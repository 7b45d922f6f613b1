-- The merge of two sorted lists, and of many, two at a time.
use Rattle.std.proofs.Common.{◌≡◌, ◌≤◌, ◌<◌, ◌+◌, ◌-◌, ℕ, zero, suc, Bool, true, false, if◌then◌else◌, List, [], ◌∷◌, ◌++◌, length, get_or}
use Rattle.std.proofs.Common.{take, drop, length-drop, refl, ap, sym, subst, ◌∙◌, arith, append_assoc, ◌⊎◌, inl, inr}
use Rattle.std.specs.Prelude.{IsPermutation}
use Rattle.std.specs.List.{AllByRecursion, remove}
use Rattle.std.proofs.lemmas.Bool.Decides.{nat_tests}
use Rattle.std.proofs.lemmas.List.{append-nil, take_all}
use Rattle.std.proofs.lemmas.List.Sorted.{IsPermutation-refl, IsPermutation-trans, IsPermutation-cons, IsPermutation-append_left}
use Rattle.std.proofs.lemmas.List.Sorted.{IsPermutation-append_right, IsPermutation-append_comm, IsPermutation-middle}
use Rattle.ring_net.specs.declared.entry.JournalEntry.{JournalEntry}
use Rattle.ring_net.specs.Journals.{ClocksRise, AreJournals}
use Rattle.journal_merge.specs.Merges.{by_clock, NoneBefore, AllOrdered}
use Rattle.journal_merge.proofs.Joined.{joined}

-- x and what follows it, merged with a list; `on` merges what follows it
abbrev step : JournalEntry → List JournalEntry → (List JournalEntry → List JournalEntry) → List JournalEntry → List JournalEntry
step x xs on [] = x ∷ xs
step x xs on (y ∷ ys) = if by_clock y x then y ∷ step x xs on ys else x ∷ on (y ∷ ys)

-- two lists, of which the lower head is taken each time
abbrev pub merged : List JournalEntry → List JournalEntry → List JournalEntry
merged [] ys = ys
merged (x ∷ xs) ys = step x xs (merged xs) ys

pub merged_nil : (xs : List JournalEntry) → merged xs [] ≡ xs
merged_nil [] = refl
merged_nil (x ∷ xs) = refl

one_of : {A : Type 0} (Q : A → Type 0) (t : Bool) (u v : A) → (t ≡ true → Q u) → (t ≡ false → Q v) → Q (if t then u else v)
one_of Q true u v h k = h refl
one_of Q false u v h k = k refl

-- ---- all entries

all_step : (x : JournalEntry) (xs : List JournalEntry) (on : List JournalEntry → List JournalEntry)
    → ((ys : List JournalEntry) → IsPermutation (xs ++ ys) (on ys)) → (ys : List JournalEntry) → IsPermutation ((x ∷ xs) ++ ys) (step x xs on ys)
all_step x xs on f [] = subst (λ zs. IsPermutation zs (x ∷ xs)) (sym (append-nil (x ∷ xs))) (IsPermutation-refl (x ∷ xs))
all_step x xs on f (y ∷ ys) =
    let rest = all_step x xs on f ys in
    one_of (λ zs. IsPermutation ((x ∷ xs) ++ y ∷ ys) zs) (by_clock y x) (y ∷ step x xs on ys) (x ∷ on (y ∷ ys))
    (λ h. IsPermutation-trans ((x ∷ xs) ++ y ∷ ys) (y ∷ ((x ∷ xs) ++ ys)) (y ∷ step x xs on ys)
    (IsPermutation-middle (x ∷ xs) y ys) (IsPermutation-cons y ((x ∷ xs) ++ ys) (step x xs on ys) rest))
    (λ h. IsPermutation-cons x (xs ++ y ∷ ys) (on (y ∷ ys)) (f (y ∷ ys)))

pub merged_all : (xs ys : List JournalEntry) → IsPermutation (xs ++ ys) (merged xs ys)
merged_all [] ys = IsPermutation-refl ys
merged_all (x ∷ xs) ys = all_step x xs (merged xs) (λ zs. merged_all xs zs) ys

-- ---- order

each_step : (Q : JournalEntry → Type 0) (x : JournalEntry) (xs : List JournalEntry) (on : List JournalEntry → List JournalEntry) → Q x
    → AllByRecursion Q xs → ((ys : List JournalEntry) → AllByRecursion Q ys → AllByRecursion Q (on ys))
    → (ys : List JournalEntry) → AllByRecursion Q ys → AllByRecursion Q (step x xs on ys)
each_step Q x xs on h hs f [] k = (h, hs)
each_step Q x xs on h hs f (y ∷ ys) k =
    let rest = each_step Q x xs on h hs f ys k.1 in
    one_of (λ zs. AllByRecursion Q zs) (by_clock y x) (y ∷ step x xs on ys) (x ∷ on (y ∷ ys)) (λ e. (k.0, rest)) (λ e. (h, f (y ∷ ys) k))

each_merged : (Q : JournalEntry → Type 0) (xs ys : List JournalEntry) → AllByRecursion Q xs → AllByRecursion Q ys → AllByRecursion Q (merged xs ys)
each_merged Q [] ys h k = k
each_merged Q (x ∷ xs) ys h k = each_step Q x xs (merged xs) h.0 h.1 (λ zs. each_merged Q xs zs h.1) ys k

-- what is before another is not after it
lower : (x y : JournalEntry) → by_clock y x ≡ true → by_clock x y ≡ false
lower x y h = grind (arith, nat_tests)

-- of three in order
between : (x y f : JournalEntry) → by_clock y x ≡ true → by_clock f x ≡ false → by_clock f y ≡ false
between x y f h k = grind (arith, nat_tests)

above : (x y f : JournalEntry) → by_clock y x ≡ false → by_clock f y ≡ false → by_clock f x ≡ false
above x y f h k = grind (arith, nat_tests)

all_between : (x y : JournalEntry) (fs : List JournalEntry) → by_clock y x ≡ true → AllByRecursion (λ f. by_clock f x ≡ false) fs
    → AllByRecursion (λ f. by_clock f y ≡ false) fs
all_between x y [] h k = tt
all_between x y (f ∷ fs) h k = (between x y f h k.0, all_between x y fs h k.1)

all_above : (x y : JournalEntry) (fs : List JournalEntry) → by_clock y x ≡ false → AllByRecursion (λ f. by_clock f y ≡ false) fs
    → AllByRecursion (λ f. by_clock f x ≡ false) fs
all_above x y [] h k = tt
all_above x y (f ∷ fs) h k = (above x y f h k.0, all_above x y fs h k.1)

order_step : (x : JournalEntry) (xs : List JournalEntry) (on : List JournalEntry → List JournalEntry) → NoneBefore (x ∷ xs)
    → ((Q : JournalEntry → Type 0) (ys : List JournalEntry) → AllByRecursion Q xs → AllByRecursion Q ys → AllByRecursion Q (on ys))
    → ((ys : List JournalEntry) → NoneBefore ys → NoneBefore (on ys)) → (ys : List JournalEntry) → NoneBefore ys → NoneBefore (step x xs on ys)
order_step x xs on h each f [] k = h
order_step x xs on h each f (y ∷ ys) k =
    let rest = order_step x xs on h each f ys k.1 in
    one_of (λ zs. NoneBefore zs) (by_clock y x) (y ∷ step x xs on ys) (x ∷ on (y ∷ ys))
    (λ e. (
      each_step (λ f. by_clock f y ≡ false) x xs on (lower x y e) (all_between x y xs e h.0)
          (λ zs. each (λ f. by_clock f y ≡ false) zs (all_between x y xs e h.0)) ys k.0,
      rest,
    ))
    (λ e. (each (λ f. by_clock f x ≡ false) (y ∷ ys) h.0 (e, all_above x y ys e k.0), f (y ∷ ys) k))

pub merged_order : (xs ys : List JournalEntry) → NoneBefore xs → NoneBefore ys → NoneBefore (merged xs ys)
merged_order [] ys h k = k
merged_order (x ∷ xs) ys h k = order_step x xs (merged xs) h (λ Q zs. each_merged Q xs zs) (λ zs. merged_order xs zs h.1) ys k

-- ---- the loop over two lists

-- the entries so far, and the rest merged, are the whole
abbrev pub Merging : (first second : List JournalEntry) (i j : ℕ) → List JournalEntry → Type 0
Merging first second i j so_far = so_far ++ merged (drop i first) (drop j second) ≡ merged first second

over : {X : Type 0} (i : ℕ) (xs : List X) → length xs ≤ i → drop i xs ≡ []
over zero [] h = refl
over zero (x ∷ xs) h = absurd (omega arith)
over (suc i) [] h = refl
over (suc i) (x ∷ xs) h = over i xs (omega arith)

pub all_left : {X : Type 0} (i : ℕ) (xs : List X) → take (length xs - i) (drop i xs) ≡ drop i xs
all_left i xs = take_all (length xs - i) (drop i xs) (omega (arith, length-drop i xs))

-- one of the lists has ended
pub merging_done : (first second : List JournalEntry) (i j : ℕ) (so_far : List JournalEntry) → (length first ≤ i) ⊎ (length second ≤ j)
    → Merging first second i j so_far → (so_far ++ drop i first) ++ drop j second ≡ merged first second
merging_done first second i j so_far (inl l) h = ap (λ zs. (so_far ++ zs) ++ drop j second) (over i first l)
    ∙ ap (λ zs. zs ++ drop j second) (append-nil so_far) ∙ ap (λ us. so_far ++ merged us (drop j second)) (sym (over i first l)) ∙ h
merging_done first second i j so_far (inr l) h = ap (λ zs. (so_far ++ drop i first) ++ zs) (over j second l) ∙ append-nil (so_far ++ drop i first)
    ∙ ap (λ zs. so_far ++ zs) (sym (merged_nil (drop i first))) ∙ ap (λ vs. so_far ++ merged (drop i first) vs) (sym (over j second l)) ∙ h

-- ---- the loop over many

-- two lists of the queue are one at its end
-- a list that is merged of two of many stands behind the others
pub joined_more : (xs : List JournalEntry) (x y m : List JournalEntry) (two one rest : List (List JournalEntry))
    → IsPermutation (joined two) (x ++ joined one) → IsPermutation (joined one) (y ++ joined rest)
    → IsPermutation (x ++ y) m → IsPermutation xs (joined two) → IsPermutation xs (joined (rest ++ m ∷ []))
joined_more xs x y m two one rest first second both all = rw (joined-append rest m)
    (IsPermutation-trans xs (joined two) (joined rest ++ m) all
    (IsPermutation-trans (joined two) (x ++ joined one) (joined rest ++ m) first
    (IsPermutation-trans (x ++ joined one) (x ++ (y ++ joined rest)) (joined rest ++ m) (IsPermutation-append_right x (joined one) (y ++ joined rest) second)
    (rw (sym (append_assoc x y (joined rest)))
    (IsPermutation-trans ((x ++ y) ++ joined rest) (m ++ joined rest) (joined rest ++ m)
    (IsPermutation-append_left (joined rest) (x ++ y) m both) (IsPermutation-append_comm m (joined rest)))))))
  where
    joined-append : (js : List (List JournalEntry)) (m : List JournalEntry) → joined (js ++ m ∷ []) ≡ joined js ++ m
    joined-append [] m = append-nil m
    joined-append (j ∷ js) m = ap (λ xs. j ++ xs) (joined-append js m) ∙ sym (append_assoc j (joined js) m)

-- one of many lists is taken out
pub pulled : (runs : List (List JournalEntry)) (i : ℕ) (x : List JournalEntry) → i < length runs → x ≡ get_or runs i x
    → IsPermutation (joined runs) (x ++ joined (remove runs i))
pulled [] i x h is = absurd (omega (arith, h))
pulled (r ∷ runs) zero x h is =
    subst (λ (y : List JournalEntry). IsPermutation (r ++ joined runs) (y ++ joined runs)) (sym is) (IsPermutation-refl (r ++ joined runs))
pulled (r ∷ runs) (suc i) x h is =
    let rest = joined (remove runs i) in
    IsPermutation-trans (r ++ joined runs) (r ++ (x ++ rest)) (x ++ (r ++ rest))
    (IsPermutation-append_right r (joined runs) (x ++ rest) (pulled runs i x (omega (arith, h)) is))
    (subst (λ (ys : List JournalEntry). IsPermutation ys (x ++ (r ++ rest))) (append_assoc r x rest)
    (subst (λ (ys : List JournalEntry). IsPermutation ((r ++ x) ++ rest) ys) (append_assoc x r rest)
    (IsPermutation-append_left rest (r ++ x) (x ++ r) (IsPermutation-append_comm r x))))

pub ordered_more : (runs : List (List JournalEntry)) (m : List JournalEntry) → AllOrdered runs → NoneBefore m → AllOrdered (runs ++ m ∷ [])
ordered_more [] m h k = (k, tt)
ordered_more (r ∷ runs) m h k = (h.0, ordered_more runs m h.1 k)

-- ---- journals are in order

later_after : (e : JournalEntry) (es : List JournalEntry) → AllByRecursion (λ (f : JournalEntry). e.clock < f.clock) es
    → AllByRecursion (λ f. by_clock f e ≡ false) es
later_after e [] h = tt
later_after e (f ∷ es) h = (one e f h.0, later_after e es h.1)
  where
    one : (e f : JournalEntry) → e.clock < f.clock → by_clock f e ≡ false
    one e f h = grind (arith, nat_tests)

rise_ordered : (es : List JournalEntry) → ClocksRise es → NoneBefore es
rise_ordered [] h = tt
rise_ordered (e ∷ es) h = (later_after e es h.0, rise_ordered es h.1)

pub journals_ordered : (journals : List (List JournalEntry)) → AreJournals journals → AllOrdered journals
journals_ordered journals h = go journals (λ k. (h k).rising)
  where
    go : (js : List (List JournalEntry)) → ((k : ℕ) → ClocksRise (get_or js k [])) → AllByRecursion NoneBefore js
    go [] f = tt
    go (j ∷ js) f = (rise_ordered j (f 0), go js (λ k. f (suc k)))
