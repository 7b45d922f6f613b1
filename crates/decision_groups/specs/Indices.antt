-- The index of a key among entries in the order of their keys.
use Rattle.std.specs.Prelude.{◌≡◌, ℕ, zero, suc, List, [], ◌∷◌}
use Rattle.std.specs.List.{AllByRecursion}
use Rattle.std.specs.Map.{keys_of}
use Rattle.std.specs.declared.cmp.Ordering.{Ordering}
use Rattle.std.specs.declared.cmp.Ordering.TheVariants.{Less, Equal, Greater}

-- the key is below those of all entries
abbrev pub IsBelowAll : {K X : Type 0} → (K → K → Ordering) → K → List (K × X) → Type 0
IsBelowAll R k es = AllByRecursion (λ q. R k q ≡ Less) (keys_of es)

-- the key is that of the entry at this index, and above those of the entries before it
abbrev pub IsIndexOfKey : {K X : Type 0} → (K → K → Ordering) → K → List (K × X) → ℕ → Type 0
IsIndexOfKey R k [] at = ⊥
IsIndexOfKey R k (e ∷ es) zero = R k e.0 ≡ Equal
IsIndexOfKey R k (e ∷ es) (suc at) = (R k e.0 ≡ Greater) × IsIndexOfKey R k es at

-- the key is above those of the entries before this index, and below those of the others
abbrev pub IsGapForKey : {K X : Type 0} → (K → K → Ordering) → K → List (K × X) → ℕ → Type 0
IsGapForKey R k es zero = IsBelowAll R k es
IsGapForKey R k [] (suc at) = ⊥
IsGapForKey R k (e ∷ es) (suc at) = (R k e.0 ≡ Greater) × IsGapForKey R k es at
