-- Candidates that are named by more than their sources, such as whole routes.
use Rattle.std.specs.Prelude.{List, map, find, Option, option_map}
use Rattle.std.specs.BTreeMap.{is_at}
use Rattle.bgp_types.specs.declared.rank.From.{From}
use Rattle.bgp_types.specs.declared.rank.Rank.{Rank}
use Rattle.decision_groups.specs.Order.{RankedSource, from_order}

-- the ranks of candidates, each together with the source of its candidate
abbrev pub ranked_sources : {K : Type 0} → (K → From) → List (K × Rank) → List RankedSource
ranked_sources source candidates = map (λ c. (source c.0, c.1)) candidates

-- the first candidate from this source, given by its name
abbrev pub candidate_from : {K : Type 0} → (K → From) → List (K × Rank) → From → Option K
candidate_from source candidates from = option_map (λ c. c.0) (find (λ c. is_at (from_order from) (source c.0)) candidates)
