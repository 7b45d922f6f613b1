-- The peers to which a cell has ends of rings.
use Rattle.std.specs.Prelude.{ℕ, ◌≡◌, ◌≤◌, ◌<◌, ◌+◌, ◌⊎◌, false, List, [], ◌∷◌, length, Option, None, is_some, slice_index_or}
use Rattle.std.specs.List.{insert}
use mathlib.Core.HLevel.{Π_prop, ×_prop}
use mathlib.Core.Bool.{Bool-set}
use native.Mathlib.Bridge.{le_prop}

-- each number is below those after it
abbrev pub Ascends : List ℕ → Type 0
Ascends ps = (i j : ℕ) → i < j → j < length ps → slice_index_or ps i 0 < slice_index_or ps j 0

-- The peer is in the list behind all lower ones. It was there before, or was added there.
pub record AddsPeer (peer : ℕ) (old new : List ℕ) : Type 0 where
  pub index : ℕ
  pub below : (k : ℕ) → k < index → slice_index_or old k 0 < peer
  pub stands : ((index < length old) × ((slice_index_or old index 0 ≡ peer) × (new ≡ old)))
      ⊎ ((index ≤ length old) × ((index < length old → peer < slice_index_or old index 0) × (new ≡ insert old index peer)))

module _ {T : Type 0} where
  -- From this index on, there is nothing at an index that isn't in the list, and the list ascends.
  abbrev pub ListsFrom : List (Option T) → ℕ → List ℕ → Type 0
  ListsFrom slots n [] = (k : ℕ) → n ≤ k → is_some (slice_index_or slots k None) ≡ false
  ListsFrom slots n (p ∷ ps) =
      (n ≤ p) × ((p < length slots) × (((k : ℕ) → n ≤ k → k < p → is_some (slice_index_or slots k None) ≡ false) × ListsFrom slots (p + 1) ps))

  -- the indices at which there is something are in the list, in ascending order
  abbrev pub ListsIndices : List (Option T) → List ℕ → Type 0
  ListsIndices slots indices = ListsFrom slots 0 indices

  pub ListsFrom-prop : (slots : List (Option T)) (n : ℕ) (indices : List ℕ) → IsProp (ListsFrom slots n indices)
  ListsFrom-prop slots n [] = Π_prop (λ k. Π_prop (λ h. Bool-set _ _))
  ListsFrom-prop slots n (p ∷ ps) =
      ×_prop le_prop (×_prop le_prop (×_prop (Π_prop (λ k. Π_prop (λ h. Π_prop (λ l. Bool-set _ _)))) (ListsFrom-prop slots (p + 1) ps)))
