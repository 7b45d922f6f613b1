-- A walk along a journal, and how far it has come with each actor.
use Rattle.std.proofs.Common.{◌≡◌, ℕ, zero, suc, ◌+◌, ◌<◌, ◌≤◌, List, [], ◌∷◌, ◌++◌, true, false, map, length, take, get_or, replicate, refl, ap, sym, ◌∙◌}
use Rattle.std.proofs.Common.{subst, inl, inr, slice_index, slice_index_or, arith}
use Rattle.std.specs.Prelude.{◌==◌, ◌≢◌, slice_set}
use Rattle.std.specs.List.{enumerate_from}
use Rattle.std.proofs.lemmas.Bool.{cases_eq, eq-eqb}
use Rattle.std.proofs.lemmas.Bool.Decides.{nat_tests}
use Rattle.std.proofs.lemmas.List.{get_or-set_same, get_or-set_other}
use Rattle.std.proofs.lemmas.List.Sums.{count_by_more_yes, count_by_more_no}
use Rattle.ring_net.specs.declared.entry.JournalEntry.{JournalEntry}
use Rattle.entry_rounds.specs.Rounds.{entries_of, round_of, round_at}
use Rattle.entry_rounds.proofs.Marks.{rounds_rise}

numbered : {X A : Type 0} (f : ℕ × X → A) (n : ℕ) (xs : List X) (i : ℕ) (x : X) → i < length xs → x ≡ slice_index_or xs i x
    → map f (enumerate_from n (take (suc i) xs)) ≡ map f (enumerate_from n (take i xs)) ++ f (n + i, x) ∷ []
numbered f n [] i x lt at = absurd (omega (arith, lt))
numbered f n (y ∷ xs) zero x lt at =
    let first : n ≡ n + 0 = omega arith in
    ap (λ z. f (n, z) ∷ []) (sym at) ∙ ap (λ k. f (k, x) ∷ []) first
numbered f n (y ∷ xs) (suc i) x lt at =
    let index : n + 1 + i ≡ n + suc i = omega arith in
    ap (λ l. f (n, y) ∷ l) (numbered f (n + 1) xs i x (omega (arith, lt)) at ∙ ap (λ k. map f (enumerate_from (n + 1) (take i xs)) ++ f (k, x) ∷ []) index)

-- one element further, its own value stands behind the others'
pub map_numbered : {X A : Type 0} (f : ℕ × X → A) (xs : List X) (i : ℕ) (x : X) → i < length xs → x ≡ slice_index_or xs i x
    → map f (enumerate_from 0 (take (i + 1) xs)) ≡ map f (enumerate_from 0 (take i xs)) ++ f (i, x) ∷ []
map_numbered f xs i x lt at =
    let more : i + 1 ≡ suc i = omega arith in
    let index : 0 + i ≡ i = omega arith in
    ap (λ k. map f (enumerate_from 0 (take k xs))) more ∙ numbered f 0 xs i x lt at ∙ ap (λ k. map f (enumerate_from 0 (take i xs)) ++ f (k, x) ∷ []) index

-- an element of a list is there, whatever stands for one that isn't
pub element : {X : Type 0} (xs : List X) (i : ℕ) (d : X) → i < length xs → get_or xs i d ≡ slice_index_or xs i (get_or xs i d)
element [] i d lt = absurd (omega (arith, lt))
element (x ∷ xs) zero d lt = refl
element (x ∷ xs) (suc i) d lt = element xs i d (omega (arith, lt))

-- With an actor a walk has come to the end of these entries: how many it passed, and marks that come before the next one.
pub record HasPassed (marks : List (List ℕ)) (journal : List JournalEntry) (passed known : List ℕ) (actor : ℕ) : Type 0 where
  pub passed_is : slice_index passed actor ≡ entries_of actor journal
  pub before : slice_index known actor ≤ round_of marks actor (slice_index passed actor)

pub none_made : (count k : ℕ) → slice_index (replicate count 0) k ≡ 0
none_made zero k = refl
none_made (suc count) zero = refl
none_made (suc count) (suc k) = none_made count k

-- a walk that has passed no entry
pub sets_out : (marks : List (List ℕ)) (passed known : List ℕ) (actor : ℕ) → slice_index passed actor ≡ 0 → slice_index known actor ≡ 0
    → HasPassed marks [] passed known actor
sets_out marks passed known actor none no_marks = record { passed_is = none; before = omega (arith, no_marks) }

-- the round that a walk finds is that of the entry
pub round_found : (marks : List (List ℕ)) (journal : List JournalEntry) (i : ℕ) (entry : JournalEntry) (passed known : List ℕ) (round : ℕ)
    → round ≡ round_of marks entry.actor (slice_index passed entry.actor) → HasPassed marks (take i journal) passed known entry.actor
    → round ≡ round_at marks journal (i, entry)
round_found marks journal i entry passed known round found was = found ∙ ap (round_of marks entry.actor) was.passed_is

-- A walk that passes the entry at an index.
module _ (marks : List (List ℕ)) (journal : List JournalEntry) (i : ℕ) (entry : JournalEntry) (passed known passed' known' : List ℕ) (round : ℕ)
    (lt : i < length journal) (at : entry ≡ slice_index_or journal i entry) (place : entry.actor < length passed) (place' : entry.actor < length known)
    (found : round ≡ round_of marks entry.actor (slice_index passed entry.actor))
    (passed_set : passed' ≡ slice_set passed entry.actor (slice_index passed entry.actor + 1))
    (known_set : known' ≡ slice_set known entry.actor round) where
  -- with its actor
  own_more : HasPassed marks (take i journal) passed known entry.actor → HasPassed marks (take (i + 1) journal) passed' known' entry.actor
  own_more was =
      let now : slice_index passed' entry.actor ≡ slice_index passed entry.actor + 1 =
      ap (λ (l : List ℕ). slice_index l entry.actor) passed_set ∙ get_or-set_same passed entry.actor _ 0 place in
      let now_known : slice_index known' entry.actor ≡ round =
      ap (λ (l : List ℕ). slice_index l entry.actor) known_set ∙ get_or-set_same known entry.actor _ 0 place' in
      let same : (slice_index_or journal i entry).actor == entry.actor ≡ true =
      ap (λ (e : JournalEntry). e.actor == entry.actor) (sym at) ∙ eq-eqb entry.actor entry.actor refl in
      let rise : round ≤ round_of marks entry.actor (slice_index passed entry.actor + 1) =
      omega (arith, found, rounds_rise marks entry.actor (slice_index passed entry.actor)) in
      record {
        passed_is = now ∙ ap (λ (n : ℕ). n + 1) was.passed_is ∙ sym (count_by_more_yes (λ e. e.actor == entry.actor) journal i entry lt same);
        before = subst (λ (n : ℕ). slice_index known' entry.actor ≤ round_of marks entry.actor n) (sym now)
            (subst (λ (n : ℕ). n ≤ round_of marks entry.actor (slice_index passed entry.actor + 1)) (sym now_known) rise);
      }

  -- with another actor
  other_more : (actor : ℕ) → actor ≢ entry.actor → HasPassed marks (take i journal) passed known actor
      → HasPassed marks (take (i + 1) journal) passed' known' actor
  other_more actor other was =
      let stays : slice_index passed' actor ≡ slice_index passed actor =
      ap (λ (l : List ℕ). slice_index l actor) passed_set ∙ get_or-set_other passed entry.actor actor _ 0 other in
      let stays_known : slice_index known' actor ≡ slice_index known actor =
      ap (λ (l : List ℕ). slice_index l actor) known_set ∙ get_or-set_other known entry.actor actor _ 0 other in
      let differs : entry.actor == actor ≡ false = grind (arith, nat_tests, other) in
      let other_one : (slice_index_or journal i entry).actor == actor ≡ false = ap (λ (e : JournalEntry). e.actor == actor) (sym at) ∙ differs in
      record {
        passed_is = stays ∙ was.passed_is ∙ sym (count_by_more_no (λ e. e.actor == actor) journal i entry lt other_one);
        before = subst (λ (n : ℕ). slice_index known' actor ≤ round_of marks actor n) (sym stays)
            (subst (λ (n : ℕ). n ≤ round_of marks actor (slice_index passed actor)) (sym stays_known) was.before);
      }

  pub passed_more : (actor : ℕ) → HasPassed marks (take i journal) passed known actor → HasPassed marks (take (i + 1) journal) passed' known' actor
  passed_more actor was = elim (cases_eq actor entry.actor) [
    | inl same ↦ subst (λ (a : ℕ). HasPassed marks (take (i + 1) journal) passed' known' a) (sym same)
        (own_more (subst (λ (a : ℕ). HasPassed marks (take i journal) passed known a) same was))
    | inr other ↦ other_more actor other was
  ]
