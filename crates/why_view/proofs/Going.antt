-- At which rule a rank goes, one rule further.
use Rattle.std.proofs.Common.{◌≡◌, ℕ, ◌+◌, ◌<◌, Bool, true, false, cond, List, Some, length, drop, ap, ◌∙◌, slice_index_or}
use Rattle.std.specs.List.{list_any}
use Rattle.std.proofs.lemmas.List.{drop_more}
use Rattle.bgp_types.specs.declared.rank.Rank.{Rank}
use Rattle.decision_core.specs.Choice.{keep}
use Rattle.why_view.specs.Rules.{better_by, goes_at}
use Rattle.why_view.specs.declared.rules.DecisionRule.{DecisionRule}
use Rattle.why_view.specs.declared.rules.DecisionRule.TheVariants.{OwnNetwork}

-- the rule at this index
abbrev pub rule_at : List DecisionRule → ℕ → DecisionRule
rule_at rules i = slice_index_or rules i OwnNetwork

by_test : (rules : List DecisionRule) (i : ℕ) (left : List Rank) (rank : Rank) (b : Bool) → i < length rules
    → list_any (λ other. better_by (rule_at rules i) other rank) left ≡ b
    → goes_at (drop i rules) left rank ≡ cond b (Some (rule_at rules i)) (goes_at (drop (i + 1) rules) (keep (better_by (rule_at rules i)) left) rank)
by_test rules i left rank b lt beaten =
    ap (λ rs. goes_at rs left rank) (drop_more rules i OwnNetwork lt)
    ∙ ap (λ t. cond t (Some (rule_at rules i)) (goes_at (drop (i + 1) rules) (keep (better_by (rule_at rules i)) left) rank)) beaten

pub goes_here : (rules : List DecisionRule) (i : ℕ) (left : List Rank) (rank : Rank) → i < length rules
    → list_any (λ other. better_by (rule_at rules i) other rank) left ≡ true → goes_at (drop i rules) left rank ≡ Some (rule_at rules i)
goes_here rules i left rank lt beaten = by_test rules i left rank true lt beaten

pub goes_later : (rules : List DecisionRule) (i : ℕ) (left : List Rank) (rank : Rank) → i < length rules
    → list_any (λ other. better_by (rule_at rules i) other rank) left ≡ false
    → goes_at (drop i rules) left rank ≡ goes_at (drop (i + 1) rules) (keep (better_by (rule_at rules i)) left) rank
goes_later rules i left rank lt unbeaten = by_test rules i left rank false lt unbeaten
