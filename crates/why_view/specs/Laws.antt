-- What holds of the candidates that are shown.
use Rattle.std.specs.Prelude.{◌≡◌, ◌↔◌, List, [], ◌∷◌, ◌++◌, Option, Some, None, Contains, map, option_map}
use Rattle.bgp_types.specs.declared.rank.Rank.{Rank}
use Rattle.decision_core.specs.Choice.{choice, keep, nine_rules, ranks_left}
use Rattle.route_policy.specs.Candidates.{Candidate}
use Rattle.route_policy.specs.declared.best.Best.{Best}
use Rattle.why_view.specs.Rules.{better_by, in_order, goes_at}
use Rattle.why_view.specs.Winners.{winner}
use Rattle.why_view.specs.declared.rules.DecisionRule.{DecisionRule}

-- the rules are the nine of the decision process, in their order
abbrev pub RulesAreTheNine : Type 0
RulesAreTheNine = map better_by in_order ≡ nine_rules

-- Where a table's best route is the choice between these candidates, it is the candidate that is shown as the best.
abbrev pub TheWinnerIsTheBest : Type 0
TheWinnerIsTheBest = (found : List Candidate) (best : Option Best) → best ≡ choice found → option_map (λ c. c.0) (winner found) ≡ best

-- The ranks that go at no rule are those that the nine rules leave.
abbrev pub WhatGoesNowhereIsLeft : Type 0
WhatGoesNowhereIsLeft = (ranks : List Rank) (rank : Rank) → Contains ranks rank → (goes_at in_order ranks rank ≡ None) ↔ Contains (ranks_left ranks) rank

-- the ranks that rules, one after another, leave
abbrev pub left_after : List DecisionRule → List Rank → List Rank
left_after [] ranks = ranks
left_after (rule ∷ rules) ranks = left_after rules (keep (better_by rule) ranks)

-- A rank that the first rules leave, and the next one doesn't, goes at this one.
abbrev pub WhatARuleLeavesOutGoesThere : Type 0
WhatARuleLeavesOutGoesThere = (before behind : List DecisionRule) (rule : DecisionRule) (ranks : List Rank) (rank : Rank)
    → in_order ≡ before ++ rule ∷ behind → Contains (left_after before ranks) rank → ¬ Contains (keep (better_by rule) (left_after before ranks)) rank
    → goes_at in_order ranks rank ≡ Some rule
