-- The order of a list doesn't matter to what the rules leave.
use Rattle.std.proofs.Common.{◌≡◌, ℕ, zero, suc, ◌+◌, ◌<◌, Bool, true, false, not, ◌||◌, ◌&&◌, cond, List, []}
use Rattle.std.proofs.Common.{◌∷◌, get_or, set, length, Some, refl, sym, ap, ◌∙◌, subst, arith}
use Rattle.std.specs.Prelude.{map, IsPermutation, Contains, All, slice_get, swap, ◌==◌, nat_lt, option_map, option_and_then}
use Rattle.std.specs.List.{list_any, filter, enumerate_from}
use Rattle.std.proofs.lemmas.List.{set-get_or}
use Rattle.std.proofs.lemmas.List.Elements.{filter_agree, filter_passes, All-filter, All-contains}
use Rattle.std.proofs.lemmas.List.Elements.{All-contains_itself, Contains-get_or, All-from_get_or, All-head}
use Rattle.std.proofs.lemmas.List.FromFn.{length-enumerate_from, get_or-enumerate_from}
use Rattle.std.proofs.lemmas.List.Folds.{list_any_at}
use Rattle.std.proofs.lemmas.List.Sorted.{IsPermutation-refl, IsPermutation-cons, IsPermutation-middle}
use Rattle.std.proofs.lemmas.List.Sorted.{IsPermutation-trans, IsPermutation-keeps, list_any-IsPermutation}
use Rattle.std.proofs.lemmas.Bool.Decides.{nat_tests}
use Rattle.bgp_types.specs.declared.rank.Rank.{Rank}
use Rattle.decision_core.specs.Choice.{is_own, has_higher_preference, has_shorter_path, has_lower_origin, has_lower_med}
use Rattle.decision_core.specs.Choice.{is_external, has_lower_cost, has_lower_identifier, has_lower_address, keep}
use Rattle.decision_core.specs.Choice.{left_of, first, choice, ranks_by_index, ranks_left, AreEqual}
use Rattle.decision_core.specs.Search.{leads, is_nearer}
use Rattle.decision_core.proofs.NineRules.{on, left_of-in_three, no_rank}

-- ---- a filter of a list in another order

filter_heads : {X : Type 0} (a b : Bool) (x z : X) (ys : List X)
    → IsPermutation (cond a (x ∷ cond b (z ∷ ys) ys) (cond b (z ∷ ys) ys)) (cond b (z ∷ cond a (x ∷ ys) ys) (cond a (x ∷ ys) ys))
filter_heads true true x z ys = IsPermutation-middle (x ∷ []) z ys
filter_heads true false x z ys = IsPermutation-refl (x ∷ ys)
filter_heads false true x z ys = IsPermutation-refl (z ∷ ys)
filter_heads false false x z ys = IsPermutation-refl ys

filter_cons : {X : Type 0} (a : Bool) (x : X) (ys zs : List X) → IsPermutation ys zs → IsPermutation (cond a (x ∷ ys) ys) (cond a (x ∷ zs) zs)
filter_cons true x ys zs h = IsPermutation-cons x ys zs h
filter_cons false x ys zs h = h

-- the first element in the place of a later one, and that one first
filter-exchange_first : {X : Type 0} (p : X → Bool) (x d : X) (xs : List X) (j : ℕ) → j < length xs
    → IsPermutation (filter p (x ∷ xs)) (filter p (get_or xs j d ∷ set xs j x))
filter-exchange_first p x d [] j within = absurd (omega arith)
filter-exchange_first p x d (z ∷ zs) zero within = filter_heads (p x) (p z) x z (filter p zs)
filter-exchange_first p x d (z ∷ zs) (suc j) within =
    let y = get_or zs j d in
    let start = filter_heads (p x) (p z) x z (filter p zs) in
    let middle = filter_cons (p z) z (filter p (x ∷ zs)) (filter p (y ∷ set zs j x)) (filter-exchange_first p x d zs j (omega (arith, within))) in
    let end = filter_heads (p z) (p y) z y (filter p (set zs j x)) in
    IsPermutation-trans (filter p (x ∷ (z ∷ zs))) (filter p (z ∷ (x ∷ zs))) (filter p (y ∷ (z ∷ set zs j x))) start
    (IsPermutation-trans (filter p (z ∷ (x ∷ zs))) (filter p (z ∷ (y ∷ set zs j x))) (filter p (y ∷ (z ∷ set zs j x))) middle end)

filter-exchange : {X : Type 0} (p : X → Bool) (d : X) (xs : List X) (i j : ℕ) → i < j → j < length xs
    → IsPermutation (filter p xs) (filter p (set (set xs i (get_or xs j d)) j (get_or xs i d)))
filter-exchange p d [] i j up within = absurd (omega arith)
filter-exchange p d (x ∷ xs) zero zero up within = absurd (omega arith)
filter-exchange p d (x ∷ xs) zero (suc j) up within = filter-exchange_first p x d xs j (omega (arith, within))
filter-exchange p d (x ∷ xs) (suc i) zero up within = absurd (omega arith)
filter-exchange p d (x ∷ xs) (suc i) (suc j) up within =
    filter_cons (p x) x (filter p xs) (filter p (set (set xs i (get_or xs j d)) j (get_or xs i d)))
    (filter-exchange p d xs i j (omega (arith, up)) (omega (arith, within)))

set-set_apart : {X : Type 0} (xs : List X) (i j : ℕ) (a b : X) → i < j → set (set xs i a) j b ≡ set (set xs j b) i a
set-set_apart [] i j a b up = refl
set-set_apart (x ∷ xs) zero zero a b up = absurd (omega arith)
set-set_apart (x ∷ xs) zero (suc j) a b up = refl
set-set_apart (x ∷ xs) (suc i) zero a b up = absurd (omega arith)
set-set_apart (x ∷ xs) (suc i) (suc j) a b up = ap (λ ys. x ∷ ys) (set-set_apart xs i j a b (omega (arith, up)))

at_list : {X : Type 0} (p : X → Bool) (xs ys zs : List X) → ys ≡ zs → IsPermutation (filter p xs) (filter p ys) → IsPermutation (filter p xs) (filter p zs)
at_list p xs ys zs same h = subst (λ ws. IsPermutation (filter p xs) (filter p ws)) same h

at_list_right : {X : Type 0} (xs ys zs : List X) → ys ≡ zs → IsPermutation xs ys → IsPermutation xs zs
at_list_right xs ys zs same h = subst (λ ws. IsPermutation xs ws) same h

at_one : {X : Type 0} (p : X → Bool) (d : X) (xs : List X) (i j : ℕ) → i ≡ j
    → IsPermutation (filter p xs) (filter p (set (set xs i (get_or xs j d)) j (get_or xs i d)))
at_one p d xs i j same =
    let unchanged : xs ≡ set (set xs i (get_or xs j d)) j (get_or xs i d) =
    rw same (sym (ap (λ ys. set ys j (get_or xs j d)) (set-get_or xs j d) ∙ set-get_or xs j d)) in
    at_list p xs xs (set (set xs i (get_or xs j d)) j (get_or xs i d)) unchanged (IsPermutation-refl (filter p xs))

first_of_three : {C : Type 0} (i j : ℕ) → (i < j → C) → (i ≡ j → C) → (j < i → C) → C
first_of_three zero zero less same more = same refl
first_of_three zero (suc j) less same more = less (omega arith)
first_of_three (suc i) zero less same more = more (omega arith)
first_of_three (suc i) (suc j) less same more = first_of_three i j (λ h. less (omega (arith, h))) (λ h. same (ap suc h)) (λ h. more (omega (arith, h)))

filter-swap : {X : Type 0} (p : X → Bool) (d : X) (xs : List X) (i j : ℕ) → i < length xs → j < length xs
    → IsPermutation (filter p xs) (filter p (set (set xs i (get_or xs j d)) j (get_or xs i d)))
filter-swap p d xs i j first second =
    first_of_three i j
    (λ up. filter-exchange p d xs i j up second)
    (λ same. at_one p d xs i j same)
    (λ down. at_list p xs (set (set xs j (get_or xs i d)) i (get_or xs j d)) (set (set xs i (get_or xs j d)) j (get_or xs i d))
    (set-set_apart xs j i (get_or xs i d) (get_or xs j d) down) (filter-exchange p d xs j i down first))

filter-swapped : {X : Type 0} (p : X → Bool) (xs : List X) (i j : ℕ) → i < length xs → j < length xs → IsPermutation (filter p xs) (filter p (swap xs i j))
filter-swapped p [] i j first second = IsPermutation-refl []
filter-swapped p (x ∷ xs) i j first second = filter-swap p x (x ∷ xs) i j first second

IsPermutation-filter : {X : Type 0} (p : X → Bool) (xs ys : List X) → IsPermutation xs ys → IsPermutation (filter p xs) (filter p ys)
IsPermutation-filter p xs ys h =
    IsPermutation-keeps xs (λ zs. IsPermutation (filter p xs) (filter p zs)) (IsPermutation-refl (filter p xs)) (λ zs i j first second so_far.
    IsPermutation-trans (filter p xs) (filter p zs) (filter p (swap zs i j)) so_far (filter-swapped p zs i j first second)) ys h

IsPermutation-keep : {X : Type 0} (rule : X → X → Bool) (xs ys : List X) → IsPermutation xs ys → IsPermutation (keep rule xs) (keep rule ys)
unfolding keep
IsPermutation-keep {X} rule xs ys h =
    let test = λ (zs : List X) (x : X). not (list_any (λ y. rule y x) zs) in
    let same = filter_agree (test xs) (test ys) (λ x. ap not (list_any-IsPermutation (λ y. rule y x) xs ys h)) ys in
    at_list_right (filter (test xs) xs) (filter (test xs) ys) (filter (test ys) ys) same (IsPermutation-filter (test xs) xs ys h)

-- ---- what is left of the ranks alone

map_of_cond : {X Y : Type 0} (f : X → Y) (b : Bool) (x : X) (xs : List X) (ys : List Y) → map f xs ≡ ys → map f (cond b (x ∷ xs) xs) ≡ cond b (f x ∷ ys) ys
map_of_cond f true x xs ys h = ap (λ zs. f x ∷ zs) h
map_of_cond f false x xs ys h = h

map-filter : {X Y : Type 0} (f : X → Y) (p : Y → Bool) (xs : List X) → map f (filter (λ x. p (f x)) xs) ≡ filter p (map f xs)
map-filter f p [] = refl
map-filter f p (x ∷ xs) = map_of_cond f (p (f x)) x (filter (λ z. p (f z)) xs) (filter p (map f xs)) (map-filter f p xs)

list_any-map : {X Y : Type 0} (f : X → Y) (p : Y → Bool) (xs : List X) → list_any (λ x. p (f x)) xs ≡ list_any p (map f xs)
list_any-map f p [] = refl
list_any-map f p (x ∷ xs) = ap (λ b. p (f x) || b) (list_any-map f p xs)

map-keep : {X Y : Type 0} (f : X → Y) (rule : Y → Y → Bool) (xs : List X) → map f (keep (λ a b. rule (f a) (f b)) xs) ≡ keep rule (map f xs)
unfolding keep
map-keep f rule xs =
    ap (map f) (filter_agree (λ x. not (list_any (λ y. rule (f y) (f x)) xs))
    (λ x. not (list_any (λ y. rule y (f x)) (map f xs))) (λ x. ap not (list_any-map f (λ y. rule y (f x)) xs)) xs)
    ∙ map-filter f (λ y. not (list_any (λ z. rule z y) (map f xs))) xs

map-numbered : (n : ℕ) (ranks : List Rank) → map (λ c. c.1) (enumerate_from n ranks) ≡ ranks
map-numbered n [] = refl
map-numbered n (rank ∷ ranks) = ap (λ rest. rank ∷ rest) (map-numbered (n + 1) ranks)

ranks_left-in_three : (ranks : List Rank) → ranks_left ranks ≡ keep is_nearer (keep has_lower_med (keep leads ranks))
ranks_left-in_three ranks =
    ap (map (λ c. c.1)) (left_of-in_three (ranks_by_index ranks))
    ∙ map-keep (λ c. c.1) is_nearer (keep (on has_lower_med) (keep (on leads) (ranks_by_index ranks)))
    ∙ ap (keep is_nearer) (map-keep (λ c. c.1) has_lower_med (keep (on leads) (ranks_by_index ranks))
    ∙ ap (keep has_lower_med) (map-keep (λ c. c.1) leads (ranks_by_index ranks) ∙ ap (keep leads) (map-numbered 0 ranks)))

pub ranks_left-IsPermutation : (ranks others : List Rank) → IsPermutation ranks others → IsPermutation (ranks_left ranks) (ranks_left others)
ranks_left-IsPermutation ranks others h =
    let led = IsPermutation-keep leads ranks others h in
    let least = IsPermutation-keep has_lower_med (keep leads ranks) (keep leads others) led in
    let near = IsPermutation-keep is_nearer (keep has_lower_med (keep leads ranks)) (keep has_lower_med (keep leads others)) least in
    rw (ranks_left-in_three ranks, ranks_left-in_three others) near

-- ---- two that are left are equal by all rules

pub Contains-filter : {X : Type 0} (p : X → Bool) (xs : List X) (x : X) → Contains (filter p xs) x → Contains xs x
Contains-filter p xs x there = All-contains (Contains xs) (filter p xs) x (All-filter p (Contains xs) xs (All-contains_itself xs)) there

pub Contains-keep : {X : Type 0} (rule : X → X → Bool) (xs : List X) (x : X) → Contains (keep rule xs) x → Contains xs x
unfolding keep
Contains-keep rule xs x there = Contains-filter (λ z. not (list_any (λ y. rule y z) xs)) xs x there

none_at : (b c : Bool) → not c ≡ true → (b ≡ true → c ≡ true) → b ≡ false
none_at true c none where_true = let h = where_true refl in cc
none_at false c none where_true = refl

pub keep-unbeaten : {X : Type 0} (rule : X → X → Bool) (xs : List X) (x y : X) → Contains (keep rule xs) x → Contains xs y → rule y x ≡ false
unfolding keep
keep-unbeaten {X} rule xs x y kept (k, within, is) =
    let test = λ (z : X). not (list_any (λ w. rule w z) xs) in
    let passes = All-contains (λ z. test z ≡ true) (filter test xs) x (filter_passes test xs) kept in
    none_at (rule y x) (list_any (λ w. rule w x) xs) passes (λ beaten. list_any_at (λ w. rule w x) xs k y within (ap (λ w. rule w x) is ∙ beaten))

pub in_turn-equal : (rab rba sab sba : Bool) → (rab || (not rba && sab)) ≡ false → (rba || (not rab && sba)) ≡ false
    → (rab ≡ false) × (rba ≡ false) × (sab ≡ false) × (sba ≡ false)
in_turn-equal true rba sab sba h k = cc
in_turn-equal false true sab sba h k = cc
in_turn-equal false false sab sba h k = (refl, refl, h, k)

same_flags : (p q : Bool) → (p && not q) ≡ false → (q && not p) ≡ false → p ≡ q
same_flags true true h k = refl
same_flags true false h k = cc
same_flags false true h k = cc
same_flags false false h k = refl

same_numbers : (m n : ℕ) → nat_lt m n ≡ false → nat_lt n m ≡ false → m ≡ n
same_numbers m n h k = grind (arith, nat_tests)

same_meds : (a b m n : ℕ) → a ≡ b → ((a == b) && nat_lt m n) ≡ false → ((b == a) && nat_lt n m) ≡ false → m ≡ n
same_meds a b m n same h k = grind (arith, nat_tests)

equal_ranks : (a b : Rank) → leads a b ≡ false → leads b a ≡ false → has_lower_med a b ≡ false → has_lower_med b a ≡ false → is_nearer a b ≡ false
    → is_nearer b a ≡ false → AreEqual a b
equal_ranks a b led leading low high near nearing =
    let own = in_turn-equal (is_own a b) (is_own b a) _ _ led leading in
    let preference = in_turn-equal (has_higher_preference a b) (has_higher_preference b a) _ _ own.2 own.3 in
    let path = in_turn-equal (has_shorter_path a b) (has_shorter_path b a) (has_lower_origin a b) (has_lower_origin b a) preference.2 preference.3 in
    let external = in_turn-equal (is_external a b) (is_external b a) _ _ near nearing in
    let cost = in_turn-equal (has_lower_cost a b) (has_lower_cost b a) _ _ external.2 external.3 in
    let identifier = in_turn-equal (has_lower_identifier a b) (has_lower_identifier b a) (has_lower_address a b) (has_lower_address b a) cost.2 cost.3 in
    record {
      own = same_flags a.own b.own own.0 own.1;
      preference = sym (same_numbers b.pref a.pref preference.0 preference.1);
      path = same_numbers a.path_len b.path_len path.0 path.1;
      origin = same_numbers a.origin b.origin path.2 path.3;
      med = λ h. same_meds a.neighbour b.neighbour a.med b.med h low high;
      external = same_flags a.external b.external external.0 external.1;
      cost = same_numbers a.cost b.cost cost.0 cost.1;
      identifier = same_numbers a.identifier b.identifier identifier.0 identifier.1;
      address = same_numbers a.address b.address identifier.2 identifier.3;
    }

left_equal : (ranks : List Rank) (i j : ℕ) (d : Rank) → i < j → j < length (keep is_nearer (keep has_lower_med (keep leads ranks)))
    → AreEqual (get_or (keep is_nearer (keep has_lower_med (keep leads ranks))) i d) (get_or (keep is_nearer (keep has_lower_med (keep leads ranks))) j d)
left_equal ranks i j d up within =
    let led = keep leads ranks in
    let least = keep has_lower_med led in
    let left = keep is_nearer least in
    let a = get_or left i d in
    let b = get_or left j d in
    let in_left_a : Contains left a = Contains-get_or left i d (omega arith) in
    let in_left_b : Contains left b = Contains-get_or left j d within in
    let in_least_a = Contains-keep is_nearer least a in_left_a in
    let in_least_b = Contains-keep is_nearer least b in_left_b in
    let in_led_a = Contains-keep has_lower_med led a in_least_a in
    let in_led_b = Contains-keep has_lower_med led b in_least_b in
    let in_ranks_a = Contains-keep leads ranks a in_led_a in
    let in_ranks_b = Contains-keep leads ranks b in_led_b in
    equal_ranks a b
    (keep-unbeaten leads ranks b a in_led_b in_ranks_a) (keep-unbeaten leads ranks a b in_led_a in_ranks_b)
    (keep-unbeaten has_lower_med led b a in_least_b in_led_a) (keep-unbeaten has_lower_med led a b in_least_a in_led_b)
    (keep-unbeaten is_nearer least b a in_left_b in_least_a) (keep-unbeaten is_nearer least a b in_left_a in_least_b)

pub ranks_left-equal : (ranks : List Rank) (i j : ℕ) (d : Rank) → i < j → j < length (ranks_left ranks)
    → AreEqual (get_or (ranks_left ranks) i d) (get_or (ranks_left ranks) j d)
ranks_left-equal ranks = rw ranks_left-in_three (left_equal ranks)

-- ---- the rank at the chosen index

-- a candidate stands at its index
abbrev IsAtIndex : List Rank → ℕ × Rank → Type 0
IsAtIndex ranks c = slice_get ranks c.0 ≡ Some c.1

slice_get_read : {X : Type 0} (xs : List X) (i : ℕ) (d : X) → i < length xs → slice_get xs i ≡ Some (get_or xs i d)
slice_get_read [] i d within = absurd (omega arith)
slice_get_read (x ∷ xs) zero d within = refl
slice_get_read (x ∷ xs) (suc i) d within = slice_get_read xs i d (omega (arith, within))

index_read : (ranks : List Rank) (i : ℕ) (d : Rank) → i < length ranks → (c : ℕ × Rank) → c ≡ (0 + i, get_or ranks i d) → IsAtIndex ranks c
index_read ranks i d within c is = rw is (let index : 0 + i ≡ i = omega arith in rw index (slice_get_read ranks i d within))

ranks_by_index-indices : (ranks : List Rank) → All (IsAtIndex ranks) (ranks_by_index ranks)
ranks_by_index-indices ranks = All-from_get_or (IsAtIndex ranks) (ranks_by_index ranks) (0, no_rank)
    (λ i within. let below : i < length ranks = (let e = length-enumerate_from 0 ranks in omega (arith, within)) in
    index_read ranks i no_rank below (get_or (ranks_by_index ranks) i (0, no_rank)) (get_or-enumerate_from 0 ranks i (0, no_rank) below))

All-keep : {X : Type 0} (rule : X → X → Bool) (P : X → Type 0) (xs : List X) → All P xs → All P (keep rule xs)
unfolding keep
All-keep rule P xs h = All-filter (λ x. not (list_any (λ y. rule y x) xs)) P xs h

first_index : (ranks : List Rank) (left : List (ℕ × Rank)) → All (IsAtIndex ranks) left
    → first (map (λ c. c.1) left) ≡ option_and_then (λ index. slice_get ranks index) (option_map (λ c. c.0) (first left))
first_index ranks [] h = refl
first_index ranks (c ∷ left) h = sym (All-head (IsAtIndex ranks) c left h)

pub ranks_left-first : (ranks : List Rank) → first (ranks_left ranks) ≡ option_and_then (λ index. slice_get ranks index) (choice (ranks_by_index ranks))
unfolding choice
ranks_left-first ranks =
    first_index ranks (left_of (ranks_by_index ranks))
    (rw left_of-in_three (All-keep (on is_nearer) (IsAtIndex ranks) (keep (on has_lower_med) (keep (on leads) (ranks_by_index ranks)))
    (All-keep (on has_lower_med) (IsAtIndex ranks) (keep (on leads) (ranks_by_index ranks))
    (All-keep (on leads) (IsAtIndex ranks) (ranks_by_index ranks) (ranks_by_index-indices ranks)))))
