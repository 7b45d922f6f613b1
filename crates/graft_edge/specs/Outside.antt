-- What a source gives and a sink takes, where they report it, and how faults are counted.
use Rattle.std.specs.Prelude.{◌≡◌, ◌⊎◌, ℕ, ◌-◌, ◌^◌, ◌<◌, ◌≤◌, List, [], ◌++◌, length, take, Option, IfSome, option_map}

-- The count of faults rose, or had reached 2^64 - 1.
abbrev pub FaultRose : ℕ → ℕ → Type 0
FaultRose before after = (before < after) ⊎ (2 ^ 64 - 1 ≤ after)

-- What was left is these bytes, followed by what is left now. A source that doesn't report what is left never does.
abbrev pub Took : Option (List ℕ) → Option (List ℕ) → List ℕ → Type 0
Took before after bytes = before ≡ option_map (λ rest. bytes ++ rest) after

-- Nothing is left, where the source reports it.
abbrev pub IsAtEnd : Option (List ℕ) → Type 0
IsAtEnd left = IfSome left (λ rest. rest ≡ [])

-- What is written now is what was written before, followed by these bytes.
abbrev pub Appended : Option (List ℕ) → Option (List ℕ) → List ℕ → Type 0
Appended before after bytes = after ≡ option_map (λ written. written ++ bytes) before

-- The first of the bytes were appended, but not all of them.
abbrev pub AppendedFront : Option (List ℕ) → Option (List ℕ) → List ℕ → Type 0
AppendedFront before after bytes = (n : ℕ) × (n < length bytes) × Appended before after (take n bytes)

-- Some bytes were taken, and their number satisfies the condition.
abbrev pub TookSome : Option (List ℕ) → Option (List ℕ) → (ℕ → Type 0) → Type 0
TookSome before after Count = (bytes : List ℕ) × Count (length bytes) × Took before after bytes
