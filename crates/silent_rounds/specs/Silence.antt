-- Rounds in which nothing happens.
use Rattle.std.specs.Prelude.{ℕ, ◌≡◌, ◌≤◌, ◌<◌, ◌+◌, List, []}
use Rattle.std.specs.List.{AllByRecursion}
use Rattle.link_bag.specs.declared.plan.Fault.{Fault}
use Rattle.graft_model.specs.Steps.{Event}

-- there is no event in n rounds, from round `first` on
abbrev pub AreSilent : (ℕ → List Event) → (first n : ℕ) → Type 0
AreSilent events first n = (k : ℕ) → first ≤ k → k < first + n → events k ≡ []

-- no fault holds a segment back for more than six turns
abbrev pub AreShort : List Fault → Type 0
AreShort faults = AllByRecursion (λ fault. fault.after ≤ 6) faults
