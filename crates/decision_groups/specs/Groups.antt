-- What is kept for each neighbour AS, and how the choice is found from it.
use Rattle.std.specs.Prelude.{◌≡◌, ℕ, nat_lt, Bool, true, List, [], ◌∷◌, Option, Some, None, unwrap_or}
use Rattle.std.specs.Ordering.{nat_cmp, is_lt}
use Rattle.std.specs.List.Sorted.{IsStrictlySortedBy}
use Rattle.std.specs.Map.{lookup, keys_of}
use Rattle.std.specs.BTreeMap.{is_at}
use Rattle.bgp_types.specs.declared.rank.Rank.{Rank}
use Rattle.decision_core.specs.Choice.{Rule}
use Rattle.decision_core.specs.Search.{in_turn, leads, is_nearer, pick, best_by}
use Rattle.decision_groups.specs.Order.{RankedSource, from_order, IsInOrder}
use Rattle.decision_groups.specs.Champions.{neighbour_group}

-- better by the nine rules, between two ranks of one neighbour AS: there the rules are one order
abbrev pub beats_in_group : Rule
beats_in_group = in_turn leads (in_turn (λ a b. nat_lt a.med b.med) is_nearer)

-- better by the rules except MED
abbrev pub beats_without_med : Rule
beats_without_med = in_turn leads is_nearer

-- better by the rules except MED, or equal by them and earlier in the order of candidates
abbrev pub comes_first : RankedSource → RankedSource → Bool
comes_first = in_turn (λ c d. beats_without_med c.1 d.1) (λ c d. is_lt (from_order c.0 d.0))

-- the first of the members that no other one beats
abbrev pub champion_of : List RankedSource → Option RankedSource
champion_of members = best_by (λ c d. beats_in_group c.1 d.1) members

-- better than the champion so far, if there is one
abbrev pub beats_champion : Option RankedSource → Rank → Bool
beats_champion None rank = true
beats_champion (Some champion) rank = beats_in_group rank champion.1

-- the better one of the best so far and one more champion
abbrev pub better_of : Option RankedSource → Option RankedSource → Option RankedSource
better_of best None = best
better_of best (Some champion) = pick comes_first best champion

-- a group exists only if it has members
abbrev pub some_members : List RankedSource → Option (List RankedSource)
some_members [] = None
some_members (c ∷ cs) = Some (c ∷ cs)

-- the members of a group, together with the number of its neighbour AS
abbrev pub NumberedGroup : Type 0
NumberedGroup = ℕ × List RankedSource

-- in ascending order of the neighbour AS' number, and none twice
abbrev pub AreNumbered : List NumberedGroup → Type 0
AreNumbered groups = IsStrictlySortedBy nat_cmp (keys_of groups)

-- a neighbour AS' group
abbrev pub group_at : List NumberedGroup → ℕ → Option (List RankedSource)
group_at groups neighbour = lookup (is_at (nat_cmp neighbour)) groups

-- the members of a neighbour AS' group
abbrev pub members_of : List NumberedGroup → ℕ → List RankedSource
members_of groups neighbour = unwrap_or (group_at groups neighbour) []

-- each group has exactly the candidates of its neighbour AS, and none is empty
pub record AreGroupsOf (candidates : List RankedSource) (groups : List NumberedGroup) : Type 0 where
  pub in_order : IsInOrder candidates
  pub each : (neighbour : ℕ) → group_at groups neighbour ≡ some_members (neighbour_group neighbour candidates)
