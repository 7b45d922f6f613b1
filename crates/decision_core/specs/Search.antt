-- How the choice is found without storing what each rule leaves: the rules before MED are one order, and so are those after it.
use Rattle.std.specs.Prelude.{ℕ, Bool, true, not, ◌&&◌, ◌||◌, List, fold, Option, Some, None, cond}
use Rattle.std.specs.List.{list_any}
use Rattle.bgp_types.specs.declared.rank.Rank.{Rank}
use Rattle.decision_core.specs.Choice.{Rule, is_own, has_higher_preference, has_shorter_path, has_lower_origin, has_lower_med}
use Rattle.decision_core.specs.Choice.{is_external, has_lower_cost, has_lower_identifier, has_lower_address}

-- better by the first rule, or equal by it and better by the second
abbrev pub in_turn : {X : Type 0} → (X → X → Bool) → (X → X → Bool) → X → X → Bool
in_turn r s a b = r a b || (not (r b a) && s a b)

-- better by the rules before MED
abbrev pub leads : Rule
leads = in_turn is_own (in_turn has_higher_preference (in_turn has_shorter_path has_lower_origin))

-- better by the rules after MED
abbrev pub is_nearer : Rule
is_nearer = in_turn is_external (in_turn has_lower_cost (in_turn has_lower_identifier has_lower_address))

-- the better one of the best so far and one more; of equals the best so far
abbrev pub pick : {X : Type 0} → (X → X → Bool) → Option X → X → Option X
pick better None x = Some x
pick better (Some y) x = Some (cond (better x y) x y)

-- the first of those that no other one is better than, if the rule is an order
abbrev pub best_by : {X : Type 0} → (X → X → Bool) → List X → Option X
best_by better xs = fold (pick better) None xs

-- one rank eliminates another by MED, where no rank leads the leader
abbrev pub takes_out : Rank → Rank → Rank → Bool
takes_out leader rank other = has_lower_med rank other && not (leads leader rank)

-- some rank eliminates it by MED
abbrev pub is_taken_out : Rank → List Rank → Rank → Bool
is_taken_out leader ranks rank = list_any (λ other. takes_out leader other rank) ranks

-- better by the rules after MED than the best so far
abbrev pub improves : Option (ℕ × Rank) → Rank → Bool
improves None rank = true
improves (Some nearest) rank = is_nearer rank nearest.1

-- better than the best so far, and left by the rules up to MED
abbrev pub is_next : Rank → List Rank → Option (ℕ × Rank) → Rank → Bool
is_next leader ranks nearest rank = not (leads leader rank) && improves nearest rank && not (is_taken_out leader ranks rank)

-- left by the rules up to MED
abbrev pub is_left : Rank → List Rank → Rank → Bool
is_left leader ranks rank = not (leads leader rank) && not (is_taken_out leader ranks rank)
