-- What the rules leave of candidates, whatever their names.
use Rattle.std.proofs.Common.{◌≡◌, ℕ, zero, suc, ◌+◌, ◌<◌, Bool, true, false, not, ◌||◌, cond, List, [], ◌∷◌, ◌++◌, map, length, Option, Some, None}
use Rattle.std.proofs.Common.{refl, sym, ap, subst, ◌∙◌, slice_index_or, arith}
use Rattle.std.specs.Prelude.{◌↔◌, Contains, fold, filter, slice_get, option_map, option_and_then}
use Rattle.std.specs.List.{list_any, enumerate_from}
use Rattle.std.proofs.lemmas.Bool.{false≢true}
use Rattle.std.proofs.lemmas.Option.{same_Some}
use Rattle.std.proofs.lemmas.List.Elements.{filter_agree, filter_passes, All-contains}
use Rattle.bgp_types.specs.declared.rank.Rank.{Rank}
use Rattle.decision_core.specs.Choice.{Rule, nine_rules, keep, left_of, first, choice, ranks_by_index, ranks_left}
use Rattle.decision_core.proofs.AnyOrder.{Contains-keep}
use Rattle.route_policy.specs.Candidates.{Candidate}
use Rattle.route_policy.specs.declared.best.Best.{Best}
use Rattle.why_view.specs.Laws.{TheWinnerIsTheBest, WhatGoesNowhereIsLeft, WhatARuleLeavesOutGoesThere, left_after}
use Rattle.why_view.specs.Rules.{better_by, in_order, goes_at}
use Rattle.why_view.specs.Winners.{best_index, ranks_of}
use Rattle.why_view.specs.declared.rules.DecisionRule.{DecisionRule}

-- ---- a list that is mapped

any_mapped : {X Y : Type 0} (f : X → Y) (p : Y → Bool) (xs : List X) → list_any (λ x. p (f x)) xs ≡ list_any p (map f xs)
any_mapped f p [] = refl
any_mapped f p (x ∷ xs) = ap (λ b. p (f x) || b) (any_mapped f p xs)

kept_mapped : {X Y : Type 0} (f : X → Y) (p : Y → Bool) (xs : List X) → map f (filter (λ x. p (f x)) xs) ≡ filter p (map f xs)
kept_mapped f p [] = refl
kept_mapped f p (x ∷ xs) = by_test (p (f x)) (kept_mapped f p xs) where
  by_test : (b : Bool) → map f (filter (λ z. p (f z)) xs) ≡ filter p (map f xs)
      → map f (cond b (x ∷ filter (λ z. p (f z)) xs) (filter (λ z. p (f z)) xs)) ≡ cond b (f x ∷ filter p (map f xs)) (filter p (map f xs))
  by_test true rest = ap (λ l. f x ∷ l) rest
  by_test false rest = rest

keep_mapped : {X Y : Type 0} (f : X → Y) (rule : Y → Y → Bool) (xs : List X) → map f (keep (λ a b. rule (f a) (f b)) xs) ≡ keep rule (map f xs)
unfolding keep
keep_mapped f rule xs =
    ap (map f) (filter_agree (λ x. not (list_any (λ y. rule (f y) (f x)) xs)) (λ x. not (list_any (λ y. rule y (f x)) (map f xs)))
    (λ x. ap not (any_mapped f (λ y. rule y (f x)) xs)) xs)
    ∙ kept_mapped f (λ y. not (list_any (λ z. rule z y) (map f xs))) xs

-- ---- rules one after another

-- what they leave of anything that has a rank
abbrev left_by : {X : Type 0} → (X → Rank) → List Rule → List X → List X
left_by rank rules xs = fold (λ rest better. keep (λ c d. better (rank c) (rank d)) rest) xs rules

left_mapped : {X Y : Type 0} (f : X → Y) (rank : Y → Rank) (rules : List Rule) (xs : List X)
    → map f (left_by (λ x. rank (f x)) rules xs) ≡ left_by rank rules (map f xs)
left_mapped f rank [] xs = refl
left_mapped f rank (rule ∷ rules) xs =
    left_mapped f rank rules (keep (λ c d. rule (rank (f c)) (rank (f d))) xs)
    ∙ ap (left_by rank rules) (keep_mapped f (λ c d. rule (rank c) (rank d)) xs)

abbrev renamed : {K L : Type 0} → (K → L) → K × Rank → L × Rank
renamed h c = (h c.0, c.1)

-- the choice between candidates with other names
choice_renamed : {K L : Type 0} (h : K → L) (cs : List (K × Rank)) → choice (map (renamed h) cs) ≡ option_map h (choice cs)
unfolding choice left_of
choice_renamed {K} {L} h cs =
    ap (λ (l : List (L × Rank)). option_map (λ (c : L × Rank). c.0) (first l)) (sym (left_mapped (renamed h) (λ (c : L × Rank). c.1) nine_rules cs))
    ∙ by_list (left_by (λ (c : K × Rank). c.1) nine_rules cs) where
      by_list : (l : List (K × Rank))
          → option_map (λ (c : L × Rank). c.0) (first (map (renamed h) l)) ≡ option_map h (option_map (λ (c : K × Rank). c.0) (first l))
      by_list [] = refl
      by_list (c ∷ l) = refl

-- ---- the winner

-- the name of the candidate at an index
abbrev name_at : List Candidate → ℕ → Option Best
name_at found i = option_map (λ (c : Candidate). c.0) (slice_get found i)

-- candidates by their indices are the candidates
named_by_index : (h : ℕ → Option Best) (n : ℕ) (found : List Candidate) → ((k : ℕ) → h (n + k) ≡ name_at found k)
    → map (renamed h) (enumerate_from n (ranks_of found)) ≡ map (renamed Some) found
named_by_index h n [] each = refl
named_by_index h n (c ∷ found) each =
    let here : n + 0 ≡ n = omega arith in
    ap (λ (b : Option Best). (b, c.1) ∷ map (renamed h) (enumerate_from (n + 1) (ranks_of found))) (ap h (sym here) ∙ each 0)
    ∙ ap (λ (l : List (Option Best × Rank)). (Some c.0, c.1) ∷ l)
    (named_by_index h (n + 1) found (λ k. ap h (let index : n + 1 + k ≡ n + suc k = omega arith in index) ∙ each (suc k)))

some_by_index : (found : List Candidate) → option_map Some (choice found) ≡ option_map (name_at found) (best_index found)
some_by_index found =
    sym (choice_renamed Some found)
    ∙ sym (ap choice (named_by_index (name_at found) 0 found (λ k. ap (name_at found) (let index : 0 + k ≡ k = omega arith in index))))
    ∙ choice_renamed (name_at found) (ranks_by_index (ranks_of found))

pub winner_is_best : TheWinnerIsTheBest
winner_is_best found best chosen = by_index (best_index found) (choice found) (some_by_index found) ∙ sym chosen where
  by_index : (i : Option ℕ) (b : Option Best) → option_map Some b ≡ option_map (name_at found) i
      → option_map (λ (c : Candidate). c.0) (option_and_then (λ j. slice_get found j) i) ≡ b
  by_index None None e = refl
  by_index None (Some b) e = absurd cc
  by_index (Some i) None e = absurd cc
  by_index (Some i) (Some b) e = sym (same_Some (Some b) (name_at found i) e)

-- ---- what goes nowhere

still_there : {X : Type 0} (p : X → Bool) (xs : List X) (x : X) (k : ℕ) → k < length xs → slice_index_or xs k x ≡ x → p x ≡ true → Contains (filter p xs) x
still_there p [] x k lt at passes = absurd (omega (arith, lt))
still_there p (y ∷ xs) x zero lt at passes =
    subst (λ b. Contains (cond b (y ∷ filter p xs) (filter p xs)) x) (sym (ap p at ∙ passes)) (0, omega arith, at)
still_there {X} p (y ∷ xs) x (suc k) lt at passes = by_test (p y) (still_there p xs x k (omega (arith, lt)) at passes) where
  by_test : (b : Bool) → Contains (filter p xs) x → Contains (cond b (y ∷ filter p xs) (filter p xs)) x
  by_test true there = (suc there.0, omega (arith, there.1), there.2)
  by_test false there = there

-- a rule keeps what nothing is better than
kept_if : (rule : Rule) (left : List Rank) (rank : Rank) → Contains left rank → list_any (λ other. rule other rank) left ≡ false
    → Contains (keep rule left) rank
unfolding keep
kept_if rule left rank there unbeaten =
    still_there (λ x. not (list_any (λ y. rule y x) left)) left rank there.0 there.1 there.2 (ap not unbeaten)

unbeaten_if : (rule : Rule) (left : List Rank) (rank : Rank) → Contains (keep rule left) rank → not (list_any (λ other. rule other rank) left) ≡ true
unfolding keep
unbeaten_if rule left rank kept =
    All-contains (λ x. not (list_any (λ y. rule y x) left) ≡ true) (filter (λ x. not (list_any (λ y. rule y x) left)) left) rank
    (filter_passes (λ x. not (list_any (λ y. rule y x) left)) left) kept

was_there : (rules : List Rule) (left : List Rank) (rank : Rank) → Contains (left_by (λ r. r) rules left) rank → Contains left rank
was_there [] left rank there = there
was_there (rule ∷ rules) left rank there = Contains-keep rule left rank (was_there rules (keep rule left) rank there)

goes_nowhere : (rules : List DecisionRule) (left : List Rank) (rank : Rank) → Contains left rank
    → (goes_at rules left rank ≡ None) ↔ Contains (left_by (λ r. r) (map better_by rules) left) rank
goes_nowhere [] left rank there = (λ _. there, λ _. refl)
goes_nowhere (rule ∷ rules) left rank there =
    by_test (list_any (λ other. better_by rule other rank) left) refl (goes_nowhere rules (keep (better_by rule) left) rank) where
      by_test : (b : Bool) → b ≡ list_any (λ other. better_by rule other rank) left
          → (Contains (keep (better_by rule) left) rank
          → (goes_at rules (keep (better_by rule) left) rank ≡ None) ↔ Contains (left_by (λ r. r) (map better_by rules) (keep (better_by rule) left)) rank)
          → (cond b (Some rule) (goes_at rules (keep (better_by rule) left) rank) ≡ None)
          ↔ Contains (left_by (λ r. r) (map better_by rules) (keep (better_by rule) left)) rank
      by_test true beaten further = (
        (λ e. absurd cc),
        (λ kept. absurd (false≢true
            (ap not beaten ∙ unbeaten_if (better_by rule) left rank (was_there (map better_by rules) (keep (better_by rule) left) rank kept)))),
      )
      by_test false unbeaten further = further (kept_if (better_by rule) left rank there (sym unbeaten))

ranks_numbered : (n : ℕ) (ranks : List Rank) → map (λ c. c.1) (enumerate_from n ranks) ≡ ranks
ranks_numbered n [] = refl
ranks_numbered n (rank ∷ ranks) = ap (λ rest. rank ∷ rest) (ranks_numbered (n + 1) ranks)

left_is : (ranks : List Rank) → ranks_left ranks ≡ left_by (λ r. r) (map better_by in_order) ranks
unfolding left_of
left_is ranks =
    left_mapped (λ c. c.1) (λ r. r) nine_rules (ranks_by_index ranks) ∙ ap (left_by (λ r. r) nine_rules) (ranks_numbered 0 ranks)

pub nowhere_is_left : WhatGoesNowhereIsLeft
nowhere_is_left ranks rank there =
    subst (λ left. (goes_at in_order ranks rank ≡ None) ↔ Contains left rank) (sym (left_is ranks)) (goes_nowhere in_order ranks rank there)

-- ---- what goes at a rule

still_left : (rules : List DecisionRule) (ranks : List Rank) (rank : Rank) → Contains (left_after rules ranks) rank → Contains ranks rank
still_left [] ranks rank there = there
still_left (rule ∷ rules) ranks rank there = Contains-keep (better_by rule) ranks rank (still_left rules (keep (better_by rule) ranks) rank there)

goes_there : (before behind : List DecisionRule) (rule : DecisionRule) (ranks : List Rank) (rank : Rank)
    → Contains (left_after before ranks) rank → ¬ Contains (keep (better_by rule) (left_after before ranks)) rank
    → goes_at (before ++ rule ∷ behind) ranks rank ≡ Some rule
goes_there [] behind rule ranks rank there out = by_test (list_any (λ other. better_by rule other rank) ranks) refl where
  by_test : (b : Bool) → list_any (λ other. better_by rule other rank) ranks ≡ b
      → cond b (Some rule) (goes_at behind (keep (better_by rule) ranks) rank) ≡ Some rule
  by_test true beaten = refl
  by_test false unbeaten = absurd (out (kept_if (better_by rule) ranks rank there unbeaten))
goes_there (first ∷ before) behind rule ranks rank there out =
    by_test (list_any (λ other. better_by first other rank) ranks)
    (unbeaten_if (better_by first) ranks rank (still_left before (keep (better_by first) ranks) rank there))
    (goes_there before behind rule (keep (better_by first) ranks) rank there out) where
      by_test : (b : Bool) → not b ≡ true → goes_at (before ++ rule ∷ behind) (keep (better_by first) ranks) rank ≡ Some rule
          → cond b (Some first) (goes_at (before ++ rule ∷ behind) (keep (better_by first) ranks) rank) ≡ Some rule
      by_test true beaten further = absurd (false≢true beaten)
      by_test false unbeaten further = further

pub left_out_goes_there : WhatARuleLeavesOutGoesThere
left_out_goes_there before behind rule ranks rank order there out =
    ap (λ rules. goes_at rules ranks rank) order ∙ goes_there before behind rule ranks rank there out
