-- How cells change places before a phase, and change back behind it.
use Rattle.std.specs.Prelude.{ℕ, ◌<◌, List}
use Rattle.std.specs.List.{All, fold, swap}
use Rattle.ring_net.specs.declared.deal.Deal.{Deal}

-- both indices of each pair are below n
abbrev pub SwapsBelow : ℕ → List (ℕ × ℕ) → Type 0
SwapsBelow n swaps = All (λ s. (s.0 < n) × (s.1 < n)) swaps

-- the list after the two elements at each pair, in order, changed places
abbrev pub swapped : {X : Type 0} → List X → List (ℕ × ℕ) → List X
swapped xs swaps = fold (λ ys s. swap ys s.0 s.1) xs swaps

-- there is a worker, and the swaps are of the first n cells
abbrev pub IsDeal : ℕ → Deal → Type 0
IsDeal n deal = (0 < deal.workers) × SwapsBelow n deal.swaps.items
