-- The nine rules as two orders with MED between them.
use Rattle.std.proofs.Common.{◌≡◌, ℕ, zero, suc, ◌+◌, ◌<◌, ◌≤◌, ◌==◌, nat_lt, Bool, true, false, not, ◌&&◌, ◌||◌, List, [], ◌∷◌}
use Rattle.std.proofs.Common.{◌++◌, cond, get_or, length, take, Option, Some, None, refl, sym, ap, ◌∙◌, arith}
use Rattle.std.specs.Prelude.{option_map, IsNone}
use Rattle.std.specs.List.{list_any, filter, enumerate_from}
use Rattle.std.specs.Cmp.{IsStrictWeakOrder}
use Rattle.std.proofs.lemmas.List.MinMax.{IsStrictWeakOrder-by_number, IsStrictWeakOrder-flip}
use Rattle.std.proofs.lemmas.List.Elements.{filter_agree, filter_more}
use Rattle.std.proofs.lemmas.List.FromFn.{length-enumerate_from, get_or-enumerate_from}
use Rattle.std.proofs.lemmas.Grind.{fold-append}
use Rattle.bgp_types.specs.declared.rank.Rank.{Rank}
use Rattle.decision_core.specs.Choice.{Rule, is_own, has_higher_preference, has_shorter_path, has_lower_origin, has_lower_med, is_external}
use Rattle.decision_core.specs.Choice.{has_lower_cost, has_lower_identifier, has_lower_address, keep, left_of, first, choice, ranks_by_index}
use Rattle.decision_core.specs.Search.{in_turn, leads, is_nearer, pick, best_by, takes_out, is_taken_out, is_left, improves, is_next}
use Rattle.decision_core.proofs.Filters.{IsStrictWeakOrder-in_turn, IsStrictWeakOrder-by_flag, IsStrictWeakOrder-on, Tops, list_any-filter}
use Rattle.decision_core.proofs.Filters.{filter-filter, beaten_by_top, first-keep, keep-keep, best_by-tops, best_by-none, keep-none}

pub own_order : IsStrictWeakOrder is_own
own_order = IsStrictWeakOrder-by_flag (λ rank. rank.own)

pub preference_order : IsStrictWeakOrder has_higher_preference
preference_order = IsStrictWeakOrder-flip (λ a b. has_higher_preference b a) (IsStrictWeakOrder-by_number (λ rank. rank.pref))

pub path_order : IsStrictWeakOrder has_shorter_path
path_order = IsStrictWeakOrder-by_number (λ rank. rank.path_len)

pub origin_order : IsStrictWeakOrder has_lower_origin
origin_order = IsStrictWeakOrder-by_number (λ rank. rank.origin)

pub external_order : IsStrictWeakOrder is_external
external_order = IsStrictWeakOrder-by_flag (λ rank. rank.external)

pub cost_order : IsStrictWeakOrder has_lower_cost
cost_order = IsStrictWeakOrder-by_number (λ rank. rank.cost)

pub identifier_order : IsStrictWeakOrder has_lower_identifier
identifier_order = IsStrictWeakOrder-by_number (λ rank. rank.identifier)

pub address_order : IsStrictWeakOrder has_lower_address
address_order = IsStrictWeakOrder-by_number (λ rank. rank.address)

pub leads_order : IsStrictWeakOrder leads
leads_order =
    let path = IsStrictWeakOrder-in_turn has_shorter_path has_lower_origin path_order origin_order in
    let preference = IsStrictWeakOrder-in_turn has_higher_preference (in_turn has_shorter_path has_lower_origin) preference_order path in
    IsStrictWeakOrder-in_turn is_own (in_turn has_higher_preference (in_turn has_shorter_path has_lower_origin)) own_order preference

pub is_nearer_order : IsStrictWeakOrder is_nearer
is_nearer_order =
    let identifier = IsStrictWeakOrder-in_turn has_lower_identifier has_lower_address identifier_order address_order in
    let cost = IsStrictWeakOrder-in_turn has_lower_cost (in_turn has_lower_identifier has_lower_address) cost_order identifier in
    IsStrictWeakOrder-in_turn is_external (in_turn has_lower_cost (in_turn has_lower_identifier has_lower_address)) external_order cost

-- a rule, of candidates
abbrev pub on : {K : Type 0} → Rule → K × Rank → K × Rank → Bool
on rule c d = rule c.1 d.1

pub on_order : {K : Type 0} (rule : Rule) → IsStrictWeakOrder rule → IsStrictWeakOrder (on {K = K} rule)
on_order {K} rule o = IsStrictWeakOrder-on (λ (c : K × Rank). c.1) rule o

pub keep_on : {K : Type 0} (r s : Rule) → IsStrictWeakOrder r → IsStrictWeakOrder s → (cs : List (K × Rank))
    → keep (on s) (keep (on r) cs) ≡ keep (on (in_turn r s)) cs
keep_on r s o p cs = keep-keep (on r) (on s) (on_order r o) (on_order s p) cs

-- four rules, one after the other
pub keep_four : {K : Type 0} (r s t u : Rule) → IsStrictWeakOrder r → IsStrictWeakOrder s → IsStrictWeakOrder t → IsStrictWeakOrder u
    → (cs : List (K × Rank)) → keep (on u) (keep (on t) (keep (on s) (keep (on r) cs))) ≡ keep (on (in_turn r (in_turn s (in_turn t u)))) cs
keep_four r s t u or os ot ou cs =
    let last = IsStrictWeakOrder-in_turn t u ot ou in
    keep_on t u ot ou (keep (on s) (keep (on r) cs))
    ∙ keep_on s (in_turn t u) os last (keep (on r) cs)
    ∙ keep_on r (in_turn s (in_turn t u)) or (IsStrictWeakOrder-in_turn s (in_turn t u) os last) cs

-- the nine rules are the order before MED, then MED, then the order after it
pub left_of-in_three : {K : Type 0} (cs : List (K × Rank)) → left_of cs ≡ keep (on is_nearer) (keep (on has_lower_med) (keep (on leads) cs))
unfolding left_of
left_of-in_three cs =
    ap (λ rest. keep (on has_lower_address) (keep (on has_lower_identifier) (keep (on has_lower_cost) (keep (on is_external) (keep (on has_lower_med) rest)))))
    (keep_four is_own has_higher_preference has_shorter_path has_lower_origin own_order preference_order path_order origin_order cs)
    ∙ keep_four is_external has_lower_cost has_lower_identifier has_lower_address external_order cost_order identifier_order address_order
    (keep (on has_lower_med) (keep (on leads) cs))

pub choice-in_three : {K : Type 0} (cs : List (K × Rank))
    → choice cs ≡ option_map (λ c. c.0) (best_by (on is_nearer) (keep (on has_lower_med) (keep (on leads) cs)))
unfolding choice
choice-in_three cs = ap (option_map (λ c. c.0))
    (ap first (left_of-in_three cs) ∙ first-keep (on is_nearer) (on_order is_nearer is_nearer_order) (keep (on has_lower_med) (keep (on leads) cs)))

-- ---- candidates that are named by their indices

list_any-enumerate : (p : Rank → Bool) (n : ℕ) (ranks : List Rank) → list_any (λ c. p c.1) (enumerate_from n ranks) ≡ list_any p ranks
list_any-enumerate p n [] = refl
list_any-enumerate p n (rank ∷ ranks) = ap (λ b. p rank || b) (list_any-enumerate p (n + 1) ranks)

keep-leads : (ranks : List Rank) (leader : Rank) → Tops leads leader ranks
    → keep (on leads) (ranks_by_index ranks) ≡ filter (λ c. not (leads leader c.1)) (ranks_by_index ranks)
unfolding keep
keep-leads ranks leader t = filter_agree (λ c. not (list_any (λ d. leads d.1 c.1) (ranks_by_index ranks))) (λ c. not (leads leader c.1))
    (λ c. ap not (list_any-enumerate (λ rank. leads rank c.1) 0 ranks ∙ beaten_by_top leads leads_order leader ranks t c.1))
    (ranks_by_index ranks)

swap_tests : (a b : Bool) → (a && b) ≡ (b && a)
swap_tests a b = grind arith

list_any-same : {X : Type 0} (p q : X → Bool) → ((x : X) → p x ≡ q x) → (xs : List X) → list_any p xs ≡ list_any q xs
list_any-same p q same [] = refl
list_any-same p q same (x ∷ xs) = rw (same x, list_any-same p q same xs) refl

keep-med : (ranks : List Rank) (leader : Rank) → Tops leads leader ranks
    → keep (on has_lower_med) (keep (on leads) (ranks_by_index ranks)) ≡ filter (λ c. is_left leader ranks c.1) (ranks_by_index ranks)
unfolding keep
keep-med ranks leader t =
    ap (keep (on has_lower_med)) (keep-leads ranks leader t)
    ∙ filter-filter (λ c. not (list_any (λ d. has_lower_med d.1 c.1) (filter (λ d. not (leads leader d.1)) (ranks_by_index ranks))))
    (λ c. not (leads leader c.1)) (ranks_by_index ranks)
    ∙ filter_agree (λ c. not (leads leader c.1)
    && not (list_any (λ d. has_lower_med d.1 c.1) (filter (λ d. not (leads leader d.1)) (ranks_by_index ranks)))) (λ c. is_left leader ranks c.1)
    (λ c. ap (λ b. not (leads leader c.1) && not b)
    (list_any-filter (λ d. has_lower_med d.1 c.1) (λ d. not (leads leader d.1)) (ranks_by_index ranks)
    ∙ list_any-enumerate (λ other. not (leads leader other) && has_lower_med other c.1) 0 ranks
    ∙ list_any-same (λ other. not (leads leader other) && has_lower_med other c.1) (λ other. takes_out leader other c.1)
    (λ other. swap_tests (not (leads leader other)) (has_lower_med other c.1)) ranks))
    (ranks_by_index ranks)

-- what the loop finds is the choice
pub choice-numbered : (ranks : List Rank) (leader : Rank) → best_by leads ranks ≡ Some leader
    → choice (ranks_by_index ranks) ≡ option_map (λ c. c.0) (best_by (on is_nearer) (filter (λ c. is_left leader ranks c.1) (ranks_by_index ranks)))
choice-numbered ranks leader is =
    choice-in_three (ranks_by_index ranks)
    ∙ ap (λ rest. option_map (λ c. c.0) (best_by (on is_nearer) rest)) (keep-med ranks leader (best_by-tops leads leads_order ranks leader is))

-- ---- the nine rules leave something

option_map-none : {X Y : Type 0} (f : X → Y) (o : Option X) → option_map f o ≡ None → o ≡ None
option_map-none f None h = refl
option_map-none f (Some x) h = cc

med_within : (same : Bool) (m n : ℕ) → nat_lt m n ≡ false → (same && nat_lt m n) ≡ false
med_within same m n h = grind arith

pub choice-none : {K : Type 0} (cs : List (K × Rank)) → choice cs ≡ None → cs ≡ []
choice-none {K} cs h =
    let after_med : List (K × Rank) = keep (on has_lower_med) (keep (on leads) cs) in
    let none = best_by-none (on is_nearer) (on_order is_nearer is_nearer_order) after_med
    (option_map-none (λ c. c.0) (best_by (on is_nearer) after_med) (sym (choice-in_three cs) ∙ h)) in
    let before_med = keep-none (on has_lower_med) (λ c d. nat_lt c.1.med d.1.med) (IsStrictWeakOrder-by_number (λ c. c.1.med))
    (λ c d. med_within (c.1.neighbour == d.1.neighbour) c.1.med d.1.med) (keep (on leads) cs) none in
    keep-none (on leads) (on leads) (on_order leads leads_order) (λ c d k. k) cs before_med

enumerate-none : (ranks : List Rank) → ranks_by_index ranks ≡ [] → ranks ≡ []
enumerate-none [] h = refl
enumerate-none (rank ∷ ranks) h = cc

pub choice-none_numbered : (ranks : List Rank) → choice (ranks_by_index ranks) ≡ None → ranks ≡ []
choice-none_numbered ranks h = enumerate-none ranks (choice-none (ranks_by_index ranks) h)

pub choice-empty : (ranks : List Rank) → ranks ≡ [] → choice (ranks_by_index ranks) ≡ None
unfolding choice left_of keep
choice-empty ranks h = rw h refl

pub empty_exactly : (ranks : List Rank) (answer : Option ℕ) → answer ≡ choice (ranks_by_index ranks)
    → (IsNone answer → ranks ≡ []) × (ranks ≡ [] → IsNone answer)
empty_exactly ranks None is = ((λ _. choice-none_numbered ranks (sym is)), (λ _. refl))
empty_exactly ranks (Some index) is = ((λ h. cc), (λ h. let no : Some index ≡ None = is ∙ choice-empty ranks h in cc))

pub choice-no_leader : (ranks : List Rank) (answer : Option ℕ) → answer ≡ None → best_by leads ranks ≡ None → answer ≡ choice (ranks_by_index ranks)
choice-no_leader ranks answer none h = none ∙ sym (choice-empty ranks (best_by-none leads leads_order ranks h))

-- ---- one more rank

best_push : {X : Type 0} (lt : X → X → Bool) (xs : List X) (x : X) (b : Bool)
    → best_by lt (xs ++ cond b (x ∷ []) []) ≡ cond b (pick lt (best_by lt xs) x) (best_by lt xs)
best_push lt xs x true = fold-append (pick lt) None xs (x ∷ [])
best_push lt xs x false = fold-append (pick lt) None xs []

nearest_cases : {X : Type 0} (b : Bool) (x y : X) → cond (b && true) (Some x) (Some y) ≡ Some (cond b x y)
nearest_cases true x y = refl
nearest_cases false x y = refl

kept_both : {X : Type 0} (b : Bool) (x y : X) → cond (b && false) x y ≡ y
kept_both true x y = refl
kept_both false x y = refl

best_more : {X : Type 0} (lt : X → X → Bool) (test : X → Bool) (xs : List X) (i : ℕ) (d x : X) → i < length xs → get_or xs i d ≡ x
    → best_by lt (filter test (take (i + 1) xs)) ≡ cond (test x) (pick lt (best_by lt (filter test (take i xs))) x) (best_by lt (filter test (take i xs)))
best_more lt test xs i d x within is =
    ap (best_by lt) (filter_more test xs i d within ∙ ap (λ z. filter test (take i xs) ++ cond (test z) (z ∷ []) []) is)
    ∙ best_push lt (filter test (take i xs)) x (test x)

index_shown : (i j : ℕ) (rank : Rank) → i ≡ j → (let pair : ℕ × Rank = (i, rank) in pair) ≡ (j, rank)
index_shown i j rank h = rw h refl

nearest_step : (apart out : Bool) (i : ℕ) (rank : Rank) (old : Option (ℕ × Rank))
    → cond (apart && improves old rank && not out) (Some (i, rank)) old ≡ cond (apart && not out) (pick (on is_nearer) old (i, rank)) old
nearest_step false out i rank old = refl
nearest_step true out i rank None = refl
nearest_step true true i rank (Some nearest) = kept_both (is_nearer rank nearest.1) (Some (i, rank)) (Some nearest)
nearest_step true false i rank (Some nearest) = nearest_cases (is_nearer rank nearest.1) (i, rank) nearest

-- what one step of the loop leaves is the nearest of one more
pub nearest_more : (leader : Rank) (ranks : List Rank) (i : ℕ) (d : Rank) (old new : Option (ℕ × Rank)) → i < length ranks
    → old ≡ best_by (on is_nearer) (filter (λ c. is_left leader ranks c.1) (take i (ranks_by_index ranks)))
    → new ≡ cond (is_next leader ranks old (get_or ranks i d)) (Some (i, get_or ranks i d)) old
    → new ≡ best_by (on is_nearer) (filter (λ c. is_left leader ranks c.1) (take (i + 1) (ranks_by_index ranks)))
nearest_more leader ranks i d old new within before after =
    let rank = get_or ranks i d in
    after ∙ nearest_step (not (leads leader rank)) (is_taken_out leader ranks rank) i rank old
    ∙ ap (λ o. cond (is_left leader ranks rank) (pick (on is_nearer) o (i, rank)) o) before
    ∙ sym (best_more (on is_nearer) (λ c. is_left leader ranks c.1) (ranks_by_index ranks) i (i, d) (i, rank)
    (rw length-enumerate_from within) (get_or-enumerate_from 0 ranks i (i, d) within ∙ index_shown (0 + i) i rank (omega arith)))

pub chosen : {X : Type 0} (b : Bool) (x y z : X) → b ≡ true → z ≡ x → z ≡ cond b x y
chosen true x y z h is = is
chosen false x y z h is = cc

pub passed_over : {X : Type 0} (b : Bool) (x y z : X) → b ≡ false → z ≡ y → z ≡ cond b x y
passed_over false x y z h is = is
passed_over true x y z h is = cc

take_whole : {X : Type 0} (n : ℕ) (xs : List X) → length xs ≤ n → take n xs ≡ xs
take_whole zero [] within = refl
take_whole (suc n) [] within = refl
take_whole zero (x ∷ xs) within = absurd (omega arith)
take_whole (suc n) (x ∷ xs) within = ap (λ ys. x ∷ ys) (take_whole n xs (omega (arith, within)))

-- any rank, where a list is read within its length
abbrev pub no_rank : Rank
no_rank = record { own = false; pref = 0; path_len = 0; origin = 0; neighbour = 0; med = 0; external = false; cost = 0; identifier = 0; address = 0 }

-- once all ranks were seen
pub choice-all : (ranks : List Rank) (leader : Rank) (n : ℕ) (nearest : Option (ℕ × Rank)) → best_by leads ranks ≡ Some leader → length ranks ≤ n
    → nearest ≡ best_by (on is_nearer) (filter (λ c. is_left leader ranks c.1) (take n (ranks_by_index ranks)))
    → option_map (λ c. c.0) nearest ≡ choice (ranks_by_index ranks)
choice-all ranks leader n nearest is all before =
    let whole : length (ranks_by_index ranks) ≤ n = rw length-enumerate_from all in
    ap (option_map (λ c. c.0))
    (before ∙ ap (λ cs. best_by (on is_nearer) (filter (λ c. is_left leader ranks c.1) cs)) (take_whole n (ranks_by_index ranks) whole))
    ∙ sym (choice-numbered ranks leader is)
