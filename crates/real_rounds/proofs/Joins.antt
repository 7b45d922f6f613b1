-- The merge of what journals got before a moment, and then of what they got behind it.
use Rattle.std.proofs.Common.{◌≡◌, ◌≤◌, ◌<◌, ◌∙◌, ℕ, List, [], ◌∷◌, ◌++◌, ◌==◌, length, refl, ap, sym, subst, inl, inr, arith}
use Rattle.std.specs.Prelude.{◌⊎◌}
use Rattle.std.specs.List.{AllByRecursion}
use Rattle.std.proofs.Math.Path.{subst⁻¹}
use Rattle.std.proofs.lemmas.List.Elements.{filter-append}
use Rattle.ring_net.specs.declared.entry.JournalEntry.{JournalEntry}
use Rattle.ring_net.specs.Deeds.{Noted, Makes, deeds, entries_of}
use Rattle.ring_net.specs.Phases.{View, AllAt}
use Rattle.ring_net.proofs.Order.{rising_above, rising_below}
use Rattle.ring_net.proofs.Replays.{all-append, entries_deeds}
use Rattle.journal_merge.specs.Growth.{Grew}
use Rattle.journal_merge.specs.Merges.{IsBefore, AreSorted, Interleaves, entries_by}
use Rattle.journal_merge.proofs.Clocks.{over_rises}
use Rattle.journal_merge.proofs.Orders.{IsLow, IsHigh, equal_or_not, by_here, by_else}

-- what holds of each actor's entries holds of all
pub all_each : (P : JournalEntry → Type 0) (es : List JournalEntry) → ((k : ℕ) → AllByRecursion P (entries_by k es)) → AllByRecursion P es
all_each P [] each = tt
all_each P (e ∷ es) each = ((subst (λ (xs : List JournalEntry). AllByRecursion P xs) (by_here e.actor e es refl) (each e.actor)).0, all_each P es rest)
  where
    rest : (k : ℕ) → AllByRecursion P (entries_by k es)
    rest k = elim (equal_or_not e.actor k) [
      | inl s ↦ (subst (λ (xs : List JournalEntry). AllByRecursion P xs) (by_here k e es s) (each k)).1
      | inr ne ↦ subst (λ (xs : List JournalEntry). AllByRecursion P xs) (by_else k e es ne) (each k)
    ]

-- ---- one after another

-- Nothing was noted first; or there is a clock that is above none of what was noted first, and below all that was noted then.
pub data IsAhead (first second : ℕ → List JournalEntry) : Type 0 where
  nothing : ((k : ℕ) → first k ≡ []) → IsAhead first second
  parted : (c : ℕ) → ((k : ℕ) → AllByRecursion (IsLow c) (first k)) → ((k : ℕ) → AllByRecursion (IsHigh c) (second k)) → IsAhead first second

low_before : (c : ℕ) (e : JournalEntry) (es : List JournalEntry) → e.clock ≤ c → AllByRecursion (IsHigh c) es → AllByRecursion (IsBefore e) es
low_before c e [] low highs = tt
low_before c e (f ∷ es) low highs = (inl (omega (arith, low, highs.0)), low_before c e es low highs.1)

sorted_parted : (c : ℕ) (xs ys : List JournalEntry) → AreSorted xs → AreSorted ys → AllByRecursion (IsLow c) xs → AllByRecursion (IsHigh c) ys
    → AreSorted (xs ++ ys)
sorted_parted c [] ys first last lows highs = last
sorted_parted c (x ∷ xs) ys first last lows highs =
    (all-append (IsBefore x) xs ys first.0 (low_before c x ys lows.0 highs), sorted_parted c xs ys first.1 last lows.1 highs)

none_merged : (first : ℕ → List JournalEntry) (xs : List JournalEntry) → Interleaves first xs → ((k : ℕ) → first k ≡ []) → xs ≡ []
none_merged first [] merge none = refl
none_merged first (x ∷ xs) merge none =
    absurd (let h : x ∷ entries_by x.actor xs ≡ [] = sym (by_here x.actor x xs refl) ∙ merge.each x.actor ∙ none x.actor in cc)

pub merge_join : (first second : ℕ → List JournalEntry) (xs ys : List JournalEntry) → IsAhead first second → Interleaves first xs
    → Interleaves second ys → Interleaves (λ k. first k ++ second k) (xs ++ ys)
merge_join first second xs ys ahead x y =
    record { each = λ k. filter-append (λ (e : JournalEntry). e.actor == k) xs ys ∙ (λ i. x.each k i ++ y.each k i); sorted = sorted ahead }
  where
    sorted : IsAhead first second → AreSorted (xs ++ ys)
    sorted (nothing none) = subst⁻¹ (λ (es : List JournalEntry). AreSorted (es ++ ys)) (none_merged first xs x none) y.sorted
    sorted (parted c lows highs) = sorted_parted c xs ys x.sorted y.sorted
        (all_each (IsLow c) xs (λ k. subst⁻¹ (λ (es : List JournalEntry). AllByRecursion (IsLow c) es) (x.each k) (lows k)))
        (all_each (IsHigh c) ys (λ k. subst⁻¹ (λ (es : List JournalEntry). AllByRecursion (IsHigh c) es) (y.each k) (highs k)))

-- ---- what a net did up to a level, and from it on

pub below_or_past : (k n : ℕ) → (k < n) ⊎ (n ≤ k)
below_or_past k n = grind arith

-- At the end of a piece the net is what it was, and nothing was noted; or all clocks are level there.
pub data IsLevelled {A I : Type 0} (u v : View A I) (notes : ℕ → List (Noted I)) : Type 0 where
  still : v ≡ u → ((k : ℕ) → notes k ≡ []) → IsLevelled u v notes
  at_level : (c : ℕ) → AllAt v c → IsLevelled u v notes

pub level_then : {A I : Type 0} (u v t : View A I) (first second : ℕ → List (Noted I)) → IsLevelled u v first → IsLevelled v t second
    → IsLevelled u t (λ k. first k ++ second k)
level_then u v t first second (still same none) (still same' none') = still (same' ∙ same) (λ k. (λ i. none k i ++ none' k i))
level_then {A} {I} u v t first second (at_level c level) (still same none) = at_level c (subst⁻¹ (λ (x : View A I). AllAt x c) same level)
level_then u v t first second before (at_level c level) = at_level c level

module _ {A P I : Type 0} (part : A → P) (makes : Makes P I) where
  lows : (u v : View A I) (levels : List ℕ) (notes : ℕ → List (Noted I)) (c : ℕ) → Grew part makes u v levels notes → AllAt v c → (k : ℕ)
      → AllByRecursion (IsLow c) (entries_of (notes k))
  lows u v levels notes c grew level k = elim (below_or_past k (length u.actors)) [
    | inl k_in ↦ subst (λ (d : ℕ). AllByRecursion (IsLow d) (entries_of (notes k))) (level k (omega (arith, k_in, grew.size)))
        (subst (λ (es : List JournalEntry). AllByRecursion (IsLow (v.clock k)) es) (entries_deeds (notes k))
        (rising_below (u.clock k) (v.clock k) (deeds (notes k)) (over_rises (length u.actors) u.clock levels notes v.clock k k_in grew.clocks)))
    | inr past ↦ rw (grew.none k past) tt
  ]

  highs : (u v : View A I) (levels : List ℕ) (notes : ℕ → List (Noted I)) (c : ℕ) → Grew part makes u v levels notes → AllAt u c → (k : ℕ)
      → AllByRecursion (IsHigh c) (entries_of (notes k))
  highs u v levels notes c grew level k = elim (below_or_past k (length u.actors)) [
    | inl k_in ↦ subst (λ (es : List JournalEntry). AllByRecursion (IsHigh c) es) (entries_deeds (notes k))
        (rising_above c (u.clock k) (v.clock k) (deeds (notes k)) (omega (arith, level k k_in))
        (over_rises (length u.actors) u.clock levels notes v.clock k k_in grew.clocks))
    | inr past ↦ rw (grew.none k past) tt
  ]

  pub level_ahead : (u v t : View A I) (ls ms : List ℕ) (first second : ℕ → List (Noted I)) → Grew part makes u v ls first
      → Grew part makes v t ms second → IsLevelled u v first → IsAhead (λ k. entries_of (first k)) (λ k. entries_of (second k))
  level_ahead u v t ls ms first second x y (still same none) = nothing (λ k. ap (λ (ns : List (Noted I)). entries_of ns) (none k))
  level_ahead u v t ls ms first second x y (at_level c level) = parted c (lows u v ls first c x level) (highs v t ms second c y level)
