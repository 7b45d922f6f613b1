-- At which of the nine rules a route goes (RFC 4271, sections 9.1.2 and 9.1.2.2).
use Rattle.std.specs.Prelude.{ℕ, List, [], ◌∷◌, ◌++◌, Option, Some, None, codes, decimal, if◌then◌else◌}
use Rattle.std.specs.List.{list_any}
use Rattle.bgp_types.specs.declared.rank.Rank.{Rank}
use Rattle.decision_core.specs.Choice.{Rule, keep, is_own, has_higher_preference, has_shorter_path, has_lower_origin, has_lower_med}
use Rattle.decision_core.specs.Choice.{is_external, has_lower_cost, has_lower_identifier, has_lower_address}
use Rattle.why_view.specs.declared.rules.DecisionRule.{DecisionRule}
use Rattle.why_view.specs.declared.rules.DecisionRule.TheVariants.{OwnNetwork, Preference, PathLength, LowestOrigin, Med}
use Rattle.why_view.specs.declared.rules.DecisionRule.TheVariants.{External, InteriorCost, Identifier, PeerAddress}

-- by what a rule says that a rank is better than another
abbrev pub better_by : DecisionRule → Rule
better_by OwnNetwork = is_own
better_by Preference = has_higher_preference
better_by PathLength = has_shorter_path
better_by LowestOrigin = has_lower_origin
better_by Med = has_lower_med
better_by External = is_external
better_by InteriorCost = has_lower_cost
better_by Identifier = has_lower_identifier
better_by PeerAddress = has_lower_address

-- the rules in the order in which they are applied
abbrev pub in_order : List DecisionRule
in_order = OwnNetwork ∷ Preference ∷ PathLength ∷ LowestOrigin ∷ Med ∷ External ∷ InteriorCost ∷ Identifier ∷ PeerAddress ∷ []

-- The rule at which a rank goes: the first one by which another rank is better that the rules before it leave.
abbrev pub goes_at : List DecisionRule → List Rank → Rank → Option DecisionRule
goes_at [] left rank = None
goes_at (rule ∷ rules) left rank =
    if list_any (λ other. better_by rule other rank) left then Some rule
    else goes_at rules (keep (better_by rule) left) rank

-- ---- as words

-- its number in that order, from 1
abbrev pub rule_number : DecisionRule → ℕ
rule_number OwnNetwork = 1
rule_number Preference = 2
rule_number PathLength = 3
rule_number LowestOrigin = 4
rule_number Med = 5
rule_number External = 6
rule_number InteriorCost = 7
rule_number Identifier = 8
rule_number PeerAddress = 9

abbrev pub rule_name : DecisionRule → List ℕ
rule_name OwnNetwork = codes "own network"
rule_name Preference = codes "preference"
rule_name PathLength = codes "path length"
rule_name LowestOrigin = codes "origin"
rule_name Med = codes "med"
rule_name External = codes "external"
rule_name InteriorCost = codes "cost"
rule_name Identifier = codes "identifier"
rule_name PeerAddress = codes "address"

-- why a route that isn't the best went: a rule, or none of the nine where it is equal to the best by all of them and stands behind it
abbrev pub lost_words : Option DecisionRule → List ℕ
lost_words (Some rule) = codes "rule " ++ decimal (rule_number rule) ++ codes " " ++ rule_name rule
lost_words None = codes "equal"
