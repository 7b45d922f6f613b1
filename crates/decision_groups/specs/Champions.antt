-- The choice by the champions of the neighbour ASes.
use Rattle.std.specs.Prelude.{ℕ, ◌==◌, Bool, false, List, [], ◌∷◌, filter, fold, Option, option_map}
use Rattle.std.specs.Option.{option_map_or}
use Rattle.std.specs.BTreeMap.{is_at}
use Rattle.bgp_types.specs.declared.rank.Rank.{Rank}
use Rattle.decision_core.specs.Choice.{Rule, is_own, has_higher_preference, has_shorter_path, has_lower_origin, is_external}
use Rattle.decision_core.specs.Choice.{has_lower_cost, has_lower_identifier, has_lower_address, keep, first, choice}
use Rattle.decision_groups.specs.Order.{RankedSource, from_order}

-- the candidates from one neighbour AS
abbrev pub neighbour_group : {K : Type 0} → ℕ → List (K × Rank) → List (K × Rank)
neighbour_group neighbour candidates = filter (λ c. c.1.neighbour == neighbour) candidates

-- A champion is the choice among the candidates of its own neighbour AS.
abbrev pub is_champion : List RankedSource → RankedSource → Bool
is_champion candidates c = option_map_or (λ from. is_at (from_order from) c.0) (choice (neighbour_group c.1.neighbour candidates)) false

-- the champions, in the order of the list
abbrev pub champions : List RankedSource → List RankedSource
champions candidates = filter (is_champion candidates) candidates

-- the nine rules except the one about MED, in the order in which they are applied
abbrev pub rules_without_med : List Rule
rules_without_med = is_own ∷ has_higher_preference ∷ has_shorter_path ∷ has_lower_origin
    ∷ is_external ∷ has_lower_cost ∷ has_lower_identifier ∷ has_lower_address ∷ []

-- the first candidate that these rules leave, given by its name
unfoldable pub choice_without_med : {K : Type 0} → List (K × Rank) → Option K
choice_without_med candidates = option_map (λ c. c.0) (first (fold (λ rest better. keep (λ c d. better c.1 d.1) rest) candidates rules_without_med))
