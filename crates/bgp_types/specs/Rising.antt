-- Lists in ascending order of a number that each member has.
use Rattle.std.specs.Prelude.{ℕ, ◌<◌, List, [], ◌∷◌, nat_lt, if◌then◌else◌}
use Rattle.std.specs.List.{AllByRecursion}

-- x is put before the first member that isn't lower
abbrev pub insert_by : {A : Type 0} → (A → ℕ) → A → List A → List A
insert_by key x [] = x ∷ []
insert_by key x (y ∷ ys) = if nat_lt (key y) (key x) then y ∷ insert_by key x ys else x ∷ y ∷ ys

-- the members in ascending order; equal ones keep their order
abbrev pub in_rising : {A : Type 0} → (A → ℕ) → List A → List A
in_rising key [] = []
in_rising key (x ∷ xs) = insert_by key x (in_rising key xs)

-- Each member is lower than all after it.
abbrev pub IsRising : {A : Type 0} → (A → ℕ) → List A → Type 0
IsRising key [] = Unit {0}
IsRising key (x ∷ xs) = AllByRecursion (λ y. key x < key y) xs × IsRising key xs
