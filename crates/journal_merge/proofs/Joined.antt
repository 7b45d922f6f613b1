-- A sorted list with the entries of journals is their merge.
use Rattle.std.proofs.Common.{◌≡◌, ◌≢◌, ◌≤◌, ◌<◌, ◌+◌, ℕ, zero, suc, Bool, true, false, List, [], ◌∷◌, ◌++◌, ◌==◌, ◌&&◌}
use Rattle.std.proofs.Common.{if◌then◌else◌, get_or, flat_map, refl, ap, sym, subst, ◌∙◌, arith, ◌⊎◌, inl, inr}
use Rattle.std.proofs.Math.ListN.{set}
use Rattle.std.specs.Prelude.{IsPermutation, sum_by}
use Rattle.std.specs.List.{AllByRecursion}
use Rattle.std.proofs.lemmas.Bool.Decides.{nat_tests}
use Rattle.std.proofs.lemmas.List.Elements.{All-from_recursion, recursion_from_All}
use Rattle.std.proofs.lemmas.List.Recursion.{is_sum_by}
use Rattle.std.proofs.lemmas.List.Sorted.{All-permutation, IsPermutation-refl, IsPermutation-sym, IsPermutation-trans}
use Rattle.std.proofs.lemmas.List.Sorted.{IsPermutation-cons, IsPermutation-append_right, IsPermutation-middle, sum_by-IsPermutation}
use Rattle.ring_net.specs.declared.entry.JournalEntry.{JournalEntry}
use Rattle.ring_net.specs.Journals.{ClocksRise, IsJournal, AreJournals}
use Rattle.journal_merge.specs.Merges.{IsBefore, by_clock, NoneBefore, AreSorted, IsMerged, entries_by, Interleaves}
use Rattle.journal_merge.proofs.Orders.{equal_or_not, by_here, by_else, each_by, apart}

abbrev pub joined : List (List JournalEntry) → List JournalEntry
joined journals = flat_map (λ entries. entries) journals

-- ---- elements

abbrev In : {X : Type 0} → X → List X → Type 0
In e [] = ⊥
In e (x ∷ xs) = (e ≡ x) ⊎ In e xs

in_all : {X : Type 0} (P : X → Type 0) (xs : List X) (e : X) → AllByRecursion P xs → In e xs → P e
in_all P [] e h k = absurd k
in_all P (x ∷ xs) e h (inl s) = subst P (sym s) h.0
in_all P (x ∷ xs) e h (inr k) = in_all P xs e h.1 k

all_in : {X : Type 0} (xs zs : List X) → ((e : X) → In e xs → In e zs) → AllByRecursion (λ e. In e zs) xs
all_in [] zs f = tt
all_in (x ∷ xs) zs f = (f x (inl refl), all_in xs zs (λ e h. f e (inr h)))

in_permutation : {X : Type 0} (xs ys : List X) (e : X) → IsPermutation xs ys → In e ys → In e xs
in_permutation xs ys e h k = in_all (λ x. In x xs) ys e
    (recursion_from_All (λ x. In x xs) ys (All-permutation (λ x. In x xs) xs ys h (All-from_recursion (λ x. In x xs) xs (all_in xs xs (λ x i. i))))) k

in_left : {X : Type 0} (xs ys : List X) (e : X) → In e xs → In e (xs ++ ys)
in_left [] ys e h = absurd h
in_left (x ∷ xs) ys e (inl s) = inl s
in_left (x ∷ xs) ys e (inr h) = inr (in_left xs ys e h)

in_right : {X : Type 0} (xs ys : List X) (e : X) → In e ys → In e (xs ++ ys)
in_right [] ys e h = h
in_right (x ∷ xs) ys e h = inr (in_right xs ys e h)

in_parts : {X : Type 0} (xs ys : List X) (e : X) → In e (xs ++ ys) → In e xs ⊎ In e ys
in_parts [] ys e h = inr h
in_parts (x ∷ xs) ys e (inl s) = inl (inl s)
in_parts (x ∷ xs) ys e (inr h) = elim (in_parts xs ys e h) [ inl k ↦ inl (inr k) | inr k ↦ inr k ]

-- ---- sorted lists with the same entries

same_members : (xs ys : List JournalEntry) → AreSorted xs → AreSorted ys → ((e : JournalEntry) → In e xs → In e ys)
    → ((e : JournalEntry) → In e ys → In e xs) → xs ≡ ys
same_members [] [] p q h k = refl
same_members [] (y ∷ ys) p q h k = absurd (k y (inl refl))
same_members (x ∷ xs) [] p q h k = absurd (h x (inl refl))
same_members (x ∷ xs) (y ∷ ys) p q h k =
    let e : x ≡ y = heads (h x (inl refl)) (k y (inl refl)) in
    let rest : xs ≡ ys = same_members xs ys p.1 q.1 (λ z i. there z i (h z (inr i))) (λ z i. back z i (k z (inr i))) in
    cc (e, rest)
  where
    heads : (x ≡ y) ⊎ In x ys → (y ≡ x) ⊎ In y xs → x ≡ y
    heads (inl s) t = s
    heads (inr i) (inl s) = sym s
    heads (inr i) (inr j) = absurd (apart x y (in_all (IsBefore x) xs y p.0 j) (in_all (IsBefore y) ys x q.0 i))

    there : (z : JournalEntry) → In z xs → (z ≡ y) ⊎ In z ys → In z ys
    there z i (inr j) = j
    there z i (inl s) = absurd (let l : IsBefore x y = subst (λ m. IsBefore x m) s (in_all (IsBefore x) xs z p.0 i) in
        let e : x ≡ y = heads (h x (inl refl)) (k y (inl refl)) in let m : IsBefore x x = subst (λ m. IsBefore x m) (sym e) l in apart x x m m)

    back : (z : JournalEntry) → In z ys → (z ≡ x) ⊎ In z xs → In z xs
    back z i (inr j) = j
    back z i (inl s) = absurd (let l : IsBefore y x = subst (λ m. IsBefore y m) s (in_all (IsBefore y) ys z q.0 i) in
        let e : x ≡ y = heads (h x (inl refl)) (k y (inl refl)) in let m : IsBefore y y = subst (λ m. IsBefore y m) e l in apart y y m m)

pub merged_once : (journals : List (List JournalEntry)) (xs ys : List JournalEntry) → IsMerged journals xs → IsMerged journals ys → xs ≡ ys
merged_once journals xs ys h k = same_members xs ys h.sorted k.sorted
    (λ e i. in_permutation ys (joined journals) e (IsPermutation-sym (joined journals) ys k.all) (in_permutation (joined journals) xs e h.all i))
    (λ e i. in_permutation xs (joined journals) e (IsPermutation-sym (joined journals) xs h.all) (in_permutation (joined journals) ys e k.all i))

-- ---- the entries of one actor

sorted_by : (k : ℕ) (es : List JournalEntry) → AreSorted es → AreSorted (entries_by k es)
sorted_by k [] h = tt
sorted_by k (e ∷ es) h = elim (equal_or_not e.actor k) [
  | inl s ↦ rw (by_here k e es s) (each_by (IsBefore e) k es h.0, sorted_by k es h.1)
  | inr ne ↦ rw (by_else k e es ne) (sorted_by k es h.1)
]

in_by : (k : ℕ) (es : List JournalEntry) (e : JournalEntry) → In e (entries_by k es) → In e es × (e.actor ≡ k)
in_by k [] e h = absurd h
in_by k (x ∷ xs) e h = elim (equal_or_not x.actor k) [
  | inl s ↦ here s (λ i. in_by k xs e i) (rw (by_here k x xs s) at h)
  | inr ne ↦ (let r : In e xs × (e.actor ≡ k) = in_by k xs e (rw (by_else k x xs ne) at h) in (inr r.0, r.1))
]
  where
    here : x.actor ≡ k → (In e (entries_by k xs) → In e xs × (e.actor ≡ k)) → (e ≡ x) ⊎ In e (entries_by k xs) → In e (x ∷ xs) × (e.actor ≡ k)
    here s f (inl t) = (inl t, ap (λ (z : JournalEntry). z.actor) t ∙ s)
    here s f (inr i) = (inr (f i).0, (f i).1)

by_in : (k : ℕ) (es : List JournalEntry) (e : JournalEntry) → e.actor ≡ k → In e es → In e (entries_by k es)
by_in k [] e own h = absurd h
by_in k (x ∷ xs) e own (inl s) = rw (by_here k x xs (sym (ap (λ (z : JournalEntry). z.actor) s) ∙ own)) (inl s)
by_in k (x ∷ xs) e own (inr h) = elim (equal_or_not x.actor k) [
  | inl s ↦ rw (by_here k x xs s) (inr (by_in k xs e own h))
  | inr ne ↦ rw (by_else k x xs ne) (by_in k xs e own h)
]

before_later : (e : JournalEntry) (es : List JournalEntry) → AllByRecursion (λ (f : JournalEntry). e.clock < f.clock) es → AllByRecursion (IsBefore e) es
before_later e [] h = tt
before_later e (f ∷ es) h = (inl h.0, before_later e es h.1)

journal_sorted : (es : List JournalEntry) → ClocksRise es → AreSorted es
journal_sorted [] h = tt
journal_sorted (e ∷ es) h = (before_later e es h.0, journal_sorted es h.1)

in_joined : (journals : List (List JournalEntry)) (e : JournalEntry) → In e (joined journals) → (k : ℕ) × In e (get_or journals k [])
in_joined [] e h = absurd h
in_joined (j ∷ journals) e h = elim (in_parts j (joined journals) e h) [ inl i ↦ (0, i) | inr i ↦ (let r = in_joined journals e i in (suc (r.0), r.1)) ]

joined_in : (journals : List (List JournalEntry)) (k : ℕ) (e : JournalEntry) → In e (get_or journals k []) → In e (joined journals)
joined_in [] k e h = absurd h
joined_in (j ∷ journals) zero e h = in_left j (joined journals) e h
joined_in (j ∷ journals) (suc k) e h = in_right j (joined journals) e (joined_in journals k e h)

pub merged_each : (journals : List (List JournalEntry)) (merged : List JournalEntry) → AreJournals journals → IsMerged journals merged
    → Interleaves (λ k. get_or journals k []) merged
merged_each journals merged own h = record {
  each = λ k. same_members (entries_by k merged) (get_or journals k []) (sorted_by k merged h.sorted)
      (journal_sorted (get_or journals k []) (own k).rising) (λ e i. there k e i) (λ e i. back k e i);
  sorted = h.sorted;
}
  where
    there : (k : ℕ) (e : JournalEntry) → In e (entries_by k merged) → In e (get_or journals k [])
    there k e i =
        let r : In e merged × (e.actor ≡ k) = in_by k merged e i in
        let s = in_joined journals e (in_permutation (joined journals) merged e h.all r.0) in
        let is : e.actor ≡ s.0 = in_all (λ (f : JournalEntry). f.actor ≡ s.0) (get_or journals (s.0) []) e (own (s.0)).own s.1 in
        subst (λ n. In e (get_or journals n [])) (sym is ∙ r.1) s.1

    back : (k : ℕ) (e : JournalEntry) → In e (get_or journals k []) → In e (entries_by k merged)
    back k e i = by_in k merged e (in_all (λ (f : JournalEntry). f.actor ≡ k) (get_or journals k []) e (own k).own i)
        (in_permutation merged (joined journals) e (IsPermutation-sym (joined journals) merged h.all) (joined_in journals k e i))

-- ---- and back: a list that has each journal has all their entries

-- one entry is taken off a journal
taken_off : (journals : List (List JournalEntry)) (k : ℕ) (e : JournalEntry) (rest : List JournalEntry) → get_or journals k [] ≡ e ∷ rest
    → IsPermutation (joined journals) (e ∷ joined (set journals k rest))
taken_off [] k e rest h = absurd cc
taken_off (j ∷ journals) zero e rest h =
    subst (λ xs. IsPermutation (xs ++ joined journals) (e ∷ (rest ++ joined journals))) (sym h) (IsPermutation-refl (e ∷ (rest ++ joined journals)))
taken_off (j ∷ journals) (suc k) e rest h =
    IsPermutation-trans (j ++ joined journals) (j ++ e ∷ joined (set journals k rest)) (e ∷ (j ++ joined (set journals k rest)))
    (IsPermutation-append_right j (joined journals) (e ∷ joined (set journals k rest)) (taken_off journals k e rest h))
    (IsPermutation-middle j e (joined (set journals k rest)))

set_here : (journals : List (List JournalEntry)) (k : ℕ) (e : JournalEntry) (rest : List JournalEntry) → get_or journals k [] ≡ e ∷ rest
    → get_or (set journals k rest) k [] ≡ rest
set_here [] k e rest h = absurd cc
set_here (j ∷ journals) zero e rest h = refl
set_here (j ∷ journals) (suc k) e rest h = set_here journals k e rest h

set_else : (journals : List (List JournalEntry)) (k n : ℕ) (rest : List JournalEntry) → n ≢ k → get_or (set journals k rest) n [] ≡ get_or journals n []
set_else [] k n rest h = refl
set_else (j ∷ journals) zero zero rest h = absurd (h refl)
set_else (j ∷ journals) zero (suc n) rest h = refl
set_else (j ∷ journals) (suc k) zero rest h = refl
set_else (j ∷ journals) (suc k) (suc n) rest h = set_else journals k n rest (λ e. h (ap (λ m. suc m) e))

nothing_joined : (journals : List (List JournalEntry)) → ((k : ℕ) → [] ≡ get_or journals k []) → joined journals ≡ []
nothing_joined [] h = refl
nothing_joined (j ∷ journals) h = ap (λ xs. xs ++ joined journals) (sym (h 0)) ∙ nothing_joined journals (λ k. h (suc k))

all_joined : (journals : List (List JournalEntry)) (merged : List JournalEntry) → ((k : ℕ) → entries_by k merged ≡ get_or journals k [])
    → IsPermutation (joined journals) merged
all_joined journals [] h = rw (nothing_joined journals h) (IsPermutation-refl [])
all_joined journals (e ∷ es) h =
    let head : get_or journals e.actor [] ≡ e ∷ entries_by e.actor es = sym (h e.actor) ∙ by_here e.actor e es refl in
    let rest : List JournalEntry = entries_by e.actor es in
    IsPermutation-trans (joined journals) (e ∷ joined (set journals e.actor rest)) (e ∷ es) (taken_off journals e.actor e rest head)
    (IsPermutation-cons e (joined (set journals e.actor rest)) es (all_joined (set journals e.actor rest) es (λ k. elim (equal_or_not k e.actor) [
      | inl s ↦ subst (λ n. entries_by n es ≡ get_or (set journals e.actor rest) n []) (sym s) (sym (set_here journals e.actor e rest head))
      | inr ne ↦ sym (by_else k e es (λ t. ne (sym t))) ∙ h k ∙ sym (set_else journals e.actor k rest ne)
    ])))

pub each_merged : (journals : List (List JournalEntry)) (merged : List JournalEntry) → Interleaves (λ k. get_or journals k []) merged → IsMerged journals merged
each_merged journals merged h = record { all = all_joined journals merged h.each; sorted = h.sorted }

-- ---- no two entries of journals have one clock and one actor

abbrev is_same : JournalEntry → JournalEntry → Bool
is_same x e = e.clock == x.clock && e.actor == x.actor

abbrev one_if : Bool → ℕ
one_if t = if t then 1 else 0

abbrev count : JournalEntry → List JournalEntry → ℕ
count x [] = 0
count x (e ∷ es) = one_if (is_same x e) + count x es

count_sum : (x : JournalEntry) (es : List JournalEntry) → count x es ≡ sum_by (λ e. one_if (is_same x e)) es
count_sum x es = is_sum_by (count x) (λ e. one_if (is_same x e)) refl (λ _ _. refl) es

count_permutation : (x : JournalEntry) (xs ys : List JournalEntry) → IsPermutation xs ys → count x ys ≡ count x xs
count_permutation x xs ys h = count_sum x ys ∙ sum_by-IsPermutation (λ e. one_if (is_same x e)) xs ys h ∙ sym (count_sum x xs)

count-append : (x : JournalEntry) (xs ys : List JournalEntry) → count x (xs ++ ys) ≡ count x xs + count x ys
count-append x [] ys = omega arith
count-append x (e ∷ es) ys = omega (arith, count-append x es ys)

one_off : (x e : JournalEntry) → (e.clock ≢ x.clock) ⊎ (e.actor ≢ x.actor) → one_if (is_same x e) ≡ 0
one_off x e h = grind (arith, nat_tests)

one_most : (x e : JournalEntry) → one_if (is_same x e) ≤ 1
one_most x e = go (is_same x e)
  where
    go : (t : Bool) → one_if t ≤ 1
    go true = omega arith
    go false = omega arith

one_self : (x : JournalEntry) → one_if (is_same x x) ≡ 1
one_self x = grind (arith, nat_tests)

count_other : (x : JournalEntry) (k : ℕ) (es : List JournalEntry) → AllByRecursion (λ (e : JournalEntry). e.actor ≡ k) es → k ≢ x.actor → count x es ≡ 0
count_other x k [] h ne = refl
count_other x k (e ∷ es) h ne = omega (arith, one_off x e (inr (λ s. ne (sym h.0 ∙ s))), count_other x k es h.1 ne)

count_later : (x : JournalEntry) (c : ℕ) (es : List JournalEntry) → x.clock ≤ c → AllByRecursion (λ (f : JournalEntry). c < f.clock) es → count x es ≡ 0
count_later x c [] l h = refl
count_later x c (e ∷ es) l h = omega (arith, one_off x e (inl (λ s. absurd (omega (arith, s, l, h.0)))), count_later x c es l h.1)

count_rising : (x : JournalEntry) (es : List JournalEntry) → ClocksRise es → count x es ≤ 1
count_rising x [] h = omega arith
count_rising x (e ∷ es) h = elim (equal_or_not e.clock x.clock) [
  | inl s ↦ (let z : count x es ≡ 0 = count_later x e.clock es (omega (arith, s)) h.0 in let m : one_if (is_same x e) ≤ 1 = one_most x e in omega (arith, z, m))
  | inr ne ↦ (let z : one_if (is_same x e) ≡ 0 = one_off x e (inl ne) in let m : count x es ≤ 1 = count_rising x es h.1 in omega (arith, z, m))
]

-- journals whose numbers begin with this one
abbrev JournalsFrom : ℕ → List (List JournalEntry) → Type 0
JournalsFrom i journals = (k : ℕ) → IsJournal (i + k) (get_or journals k [])

rest_from : (i : ℕ) (j : List JournalEntry) (journals : List (List JournalEntry)) → JournalsFrom i (j ∷ journals) → JournalsFrom (i + 1) journals
rest_from i j journals h k = subst (λ n. IsJournal n (get_or journals k [])) (omega arith) (h (suc k))

first_from : (i : ℕ) (j : List JournalEntry) (journals : List (List JournalEntry)) → JournalsFrom i (j ∷ journals) → IsJournal i j
first_from i j journals h = subst (λ n. IsJournal n j) (omega arith) (h 0)

count_past : (x : JournalEntry) (i : ℕ) (journals : List (List JournalEntry)) → x.actor < i → JournalsFrom i journals → count x (joined journals) ≡ 0
count_past x i [] l h = refl
count_past x i (j ∷ journals) l h = omega (
  arith,
  count-append x j (joined journals),
  count_other x i j (first_from i j journals h).own (λ s. absurd (omega (arith, s, l))),
  count_past x (i + 1) journals (omega arith) (rest_from i j journals h),
)

count_joined : (x : JournalEntry) (i : ℕ) (journals : List (List JournalEntry)) → JournalsFrom i journals → count x (joined journals) ≤ 1
count_joined x i [] h = omega arith
count_joined x i (j ∷ journals) h = elim (equal_or_not i x.actor) [
  | inl s ↦ (let z : count x (joined journals) ≡ 0 = count_past x (i + 1) journals (omega (arith, s)) (rest_from i j journals h) in
      let m : count x j ≤ 1 = count_rising x j (first_from i j journals h).rising in omega (arith, z, m, count-append x j (joined journals)))
  | inr ne ↦ (let z : count x j ≡ 0 = count_other x i j (first_from i j journals h).own ne in let m : count x (joined journals) ≤ 1 =
      count_joined x (i + 1) journals (rest_from i j journals h) in omega (arith, z, m, count-append x j (joined journals)))
]

-- ---- what is sorted

not_after : (e f : JournalEntry) → by_clock f e ≡ false → one_if (is_same e f) ≡ 0 → IsBefore e f
not_after e f h k = grind (arith, nat_tests)

strictly : (e : JournalEntry) (es : List JournalEntry) → AllByRecursion (λ f. by_clock f e ≡ false) es → count e es ≡ 0 → AllByRecursion (IsBefore e) es
strictly e [] h z = tt
strictly e (f ∷ es) h z = (not_after e f h.0 (omega arith), strictly e es h.1 (omega arith))

pub are_sorted : (es : List JournalEntry) → NoneBefore es → ((x : JournalEntry) → count x es ≤ 1) → AreSorted es
are_sorted [] h c = tt
are_sorted (e ∷ es) h c = (strictly e es h.0 (omega (arith, c e, one_self e)), are_sorted es h.1 (λ x. omega (arith, c x)))

pub is_merged : (journals : List (List JournalEntry)) (es : List JournalEntry) → AreJournals journals → IsPermutation (joined journals) es
    → NoneBefore es → IsMerged journals es
is_merged journals es own all h = record {
  all = all;
  sorted = are_sorted es h (λ x. rw (count_permutation x (joined journals) es all)
      (count_joined x 0 journals (λ k. subst (λ n. IsJournal n (get_or journals k [])) (omega arith) (own k))));
}
