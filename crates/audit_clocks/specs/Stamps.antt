-- Stamps by sender and receiver, and what an event makes of them.
use Rattle.std.specs.Prelude.{ℕ, ◌==◌, ◌&&◌, Bool, false, if◌then◌else◌, Option, Some, None, List, [], ◌∷◌, ◌++◌, drop, slice_index_or}

-- whether the actor of this number is named
abbrev pub is_named : Option ℕ → ℕ → Bool
is_named None n = false
is_named (Some m) n = n == m

-- the stamp of what an actor takes next from a sender: 0 without a sender, or if nothing is on its way
abbrev pub next_stamp : (ℕ → ℕ → List ℕ) → (from : Option ℕ) → (to : ℕ) → ℕ
next_stamp stamps None to = 0
next_stamp stamps (Some from) to = slice_index_or (stamps from to) 0 0

-- the stamps without that one
abbrev pub without_next : (ℕ → ℕ → List ℕ) → (from : Option ℕ) → (to : ℕ) → ℕ → ℕ → List ℕ
without_next stamps from to a b = if is_named from a && b == to then drop 1 (stamps a b) else stamps a b

-- the stamps with one more behind those that lead from an actor to a receiver, if there is one
abbrev pub with_stamp : (ℕ → ℕ → List ℕ) → (from : ℕ) → (to : Option ℕ) → (stamp : ℕ) → ℕ → ℕ → List ℕ
with_stamp stamps from to stamp a b = if a == from && is_named to b then stamps a b ++ stamp ∷ [] else stamps a b
