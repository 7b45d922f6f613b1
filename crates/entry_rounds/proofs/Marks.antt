-- The first mark at which an entry was made.
use Rattle.std.proofs.Common.{◌≡◌, ℕ, ◌+◌, ◌<◌, ◌≤◌, List, [], ◌∷◌, Bool, true, false, length, get_or, arith}
use Rattle.std.specs.Prelude.{nat_le}
use Rattle.std.specs.List.{prefix_len}
use Rattle.std.proofs.lemmas.List.Sums.{prefix_len_passes, prefix_len_stops, prefix_len-le-length}
use Rattle.std.proofs.lemmas.Bool.Decides.{nat_tests}
use Rattle.entry_rounds.specs.Rounds.{made_at, round_of}

-- what passes at the first index that is in doubt makes the part that passes longer
pub passes_more : {X : Type 0} (p : X → Bool) (xs : List X) (k : ℕ) (d : X) → k ≤ prefix_len p xs → k < length xs → p (get_or xs k d) ≡ true
    → k + 1 ≤ prefix_len p xs
passes_more p xs k d h lt passes = grind (arith, prefix_len_stops p xs d, prefix_len-le-length p xs, h, lt, passes)

-- what doesn't ends it there
pub ends_there : {X : Type 0} (p : X → Bool) (xs : List X) (k : ℕ) (d : X) → k ≤ prefix_len p xs → p (get_or xs k d) ≡ false → k ≡ prefix_len p xs
ends_there p xs k d h stops = grind (arith, prefix_len_passes p xs k d, h, stops)

passes_longer : {X : Type 0} (p q : X → Bool) → ((x : X) → p x ≡ true → q x ≡ true) → (xs : List X) → prefix_len p xs ≤ prefix_len q xs
passes_longer p q more [] = omega arith
passes_longer p q more (x ∷ xs) = grind (arith, more x, passes_longer p q more xs)

-- a later entry of an actor has no earlier round
pub rounds_rise : (marks : List (List ℕ)) (actor n : ℕ) → round_of marks actor n ≤ round_of marks actor (n + 1)
rounds_rise marks actor n =
    passes_longer (λ mark. nat_le (made_at actor mark) n) (λ mark. nat_le (made_at actor mark) (n + 1)) (λ mark h. grind (arith, nat_tests, h)) marks

-- no round is above the number of marks
pub rounds_end : (marks : List (List ℕ)) (actor earlier : ℕ) → round_of marks actor earlier ≤ length marks
rounds_end marks actor earlier = prefix_len-le-length (λ mark. nat_le (made_at actor mark) earlier) marks

-- the round of an entry that no mark of a list counts
pub after_all : (marks : List (List ℕ)) (actor earlier round : ℕ) → round ≤ round_of marks actor earlier → (round < length marks → ⊥)
    → length marks ≡ round_of marks actor earlier
after_all marks actor earlier round h past = let end = rounds_end marks actor earlier in omega arith
