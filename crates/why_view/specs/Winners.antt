-- The best of candidates.
use Rattle.std.specs.Prelude.{ℕ, ◌==◌, Bool, false, List, map, Option, Some, None, option_and_then, slice_get}
use Rattle.bgp_types.specs.declared.rank.Rank.{Rank}
use Rattle.decision_core.specs.Choice.{choice, ranks_by_index}
use Rattle.route_policy.specs.Candidates.{Candidate}

-- the ranks of candidates, and the index of the best one, if there is any
abbrev pub ranks_of : List Candidate → List Rank
ranks_of found = map (λ c. c.1) found

abbrev pub best_index : List Candidate → Option ℕ
best_index found = choice (ranks_by_index (ranks_of found))

abbrev pub is_index : Option ℕ → ℕ → Bool
is_index None i = false
is_index (Some best) i = best == i

-- the best one
abbrev pub winner : List Candidate → Option Candidate
winner found = option_and_then (λ i. slice_get found i) (best_index found)
