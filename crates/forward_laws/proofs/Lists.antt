-- What holds of all items of lists, and of the choice between candidates.
use Rattle.std.proofs.Common.{◌≡◌, ℕ, ◌+◌, ◌<◌, Bool, true, false, cond, List, [], ◌∷◌, ◌++◌, map, Option, Some, None, refl, sym, ◌∙◌, subst, arith}
use Rattle.std.specs.Prelude.{All, Contains, IsSome, filter, not, option_map}
use Rattle.std.specs.List.{cons_option, filter_map, flat_map, list_any, range_with_len}
use Rattle.std.proofs.lemmas.List.Elements.{All-nil, All-cons, All-head, All-tail, All-append, All-filter}
use Rattle.std.proofs.lemmas.List.FromFn.{length-range_with_len, get_or-range_with_len}
use Rattle.bgp_types.specs.declared.rank.Rank.{Rank}
use Rattle.decision_core.specs.Choice.{keep, left_of, first, choice, has_lower_med}
use Rattle.decision_core.specs.Search.{leads, is_nearer}
use Rattle.decision_core.proofs.NineRules.{on, left_of-in_three, choice-none}

-- ---- options

-- what a value comes from that a function gives
pub record IsMapped {A B : Type 0} (f : A → B) (o : Option A) (y : B) : Type 0 where
  pub value : A
  pub was : o ≡ Some value
  pub is : f value ≡ y

pub mapped : {A B : Type 0} (f : A → B) (o : Option A) (y : B) → option_map f o ≡ Some y → IsMapped f o y
mapped f None y e = absurd cc
mapped f (Some a) y e = record { value = a; was = refl; is = cc }

-- ---- all of a list

pub all_front : {A : Type 0} (P : A → Type 0) (xs ys : List A) → All P (xs ++ ys) → All P xs
all_front P [] ys all = All-nil P
all_front P (x ∷ xs) ys all = All-cons P x xs (All-head P x (xs ++ ys) all) (all_front P xs ys (All-tail P x (xs ++ ys) all))

all_back : {A : Type 0} (P : A → Type 0) (xs ys : List A) → All P (xs ++ ys) → All P ys
all_back P [] ys all = all
all_back P (x ∷ xs) ys all = all_back P xs ys (All-tail P x (xs ++ ys) all)

-- of lists that are joined, and of each of them
pub all_joined : {A B : Type 0} (P : B → Type 0) (f : A → List B) (xs : List A) → All (λ x. All P (f x)) xs → All P (flat_map f xs)
all_joined P f [] all = All-nil P
all_joined P f (x ∷ xs) all =
    All-append P (f x) (flat_map f xs) (All-head (λ y. All P (f y)) x xs all) (all_joined P f xs (All-tail (λ y. All P (f y)) x xs all))

pub all_parts : {A B : Type 0} (P : B → Type 0) (f : A → List B) (xs : List A) → All P (flat_map f xs) → All (λ x. All P (f x)) xs
all_parts P f [] all = All-nil (λ y. All P (f y))
all_parts P f (x ∷ xs) all = All-cons (λ y. All P (f y)) x xs (all_front P (f x) (flat_map f xs) all) (all_parts P f xs (all_back P (f x) (flat_map f xs) all))

some_more : {B : Type 0} (P : B → Type 0) (o : Option B) (ys : List B) → ((y : B) → o ≡ Some y → P y) → All P ys → All P (cons_option o ys)
some_more P None ys here all = all
some_more P (Some y) ys here all = All-cons P y ys (here y refl) all

-- of what items give
pub all_given : {A B : Type 0} (P : B → Type 0) (f : A → Option B) (xs : List A) → All (λ x. (y : B) → f x ≡ Some y → P y) xs → All P (filter_map f xs)
all_given P f [] all = All-nil P
all_given {B = B} P f (x ∷ xs) all =
    some_more P (f x) (filter_map f xs) (All-head (λ a. (y : B) → f a ≡ Some y → P y) x xs all)
    (all_given P f xs (All-tail (λ a. (y : B) → f a ≡ Some y → P y) x xs all))

-- ---- numbers

pub numbers_below : (n : ℕ) → All (λ k. k < n) (range_with_len 0 n)
numbers_below n = λ k d lt.
    let below : k < n = subst (λ (m : ℕ). k < m) (length-range_with_len 0 n) lt in
    subst (λ (m : ℕ). m < n) (sym (get_or-range_with_len 0 n k d below)) (omega arith)

pub number_there : (n k : ℕ) → k < n → Contains (range_with_len 0 n) k
number_there n k lt =
    (k, subst (λ (m : ℕ). k < m) (sym (length-range_with_len 0 n)) lt, get_or-range_with_len 0 n k k lt ∙ (let e : 0 + k ≡ k = omega arith in e))

-- ---- lists with nothing in them

pub none_behind : {A : Type 0} (xs ys : List A) → xs ++ ys ≡ [] → ys ≡ []
none_behind [] ys e = e
none_behind (x ∷ xs) ys e = absurd cc

given_none : {B : Type 0} (o : Option B) (ys : List B) → cons_option o ys ≡ [] → o ≡ None
given_none None ys e = refl
given_none (Some y) ys e = absurd cc

rest_none : {B : Type 0} (o : Option B) (ys : List B) → cons_option o ys ≡ [] → ys ≡ []
rest_none None ys e = e
rest_none (Some y) ys e = absurd cc

module _ {A B C : Type 0} (g : B → Option C) (f : A → B) (test : A → Bool) where
  -- it gives nothing, if it passes the test
  abbrev pub GivesNone : A → Type 0
  GivesNone x = test x ≡ true → g (f x) ≡ None

  none_step : (x : A) (xs : List A) (b : Bool) → test x ≡ b → filter_map g (map f (cond b (x ∷ filter test xs) (filter test xs))) ≡ []
      → (filter_map g (map f (filter test xs)) ≡ [] → All GivesNone xs) → All GivesNone (x ∷ xs)
  none_step x xs true is e more =
      let rest : List C = filter_map g (map f (filter test xs)) in
      All-cons GivesNone x xs (λ passes. given_none (g (f x)) rest e) (more (rest_none (g (f x)) rest e))
  none_step x xs false is e more = All-cons GivesNone x xs (λ passes. (let no : false ≡ true = sym is ∙ passes in absurd cc)) (more e)

  pub all_give_none : (xs : List A) → filter_map g (map f (filter test xs)) ≡ [] → All GivesNone xs
  all_give_none [] e = All-nil GivesNone
  all_give_none (x ∷ xs) e = none_step x xs (test x) refl e (all_give_none xs)

-- ---- the choice

kept_all : {X : Type 0} (P : X → Type 0) (rule : X → X → Bool) (xs : List X) → All P xs → All P (keep rule xs)
unfolding keep
kept_all P rule xs all = All-filter (λ x. not (list_any (λ y. rule y x) xs)) P xs all

left_all : {K : Type 0} (P : K × Rank → Type 0) (cs : List (K × Rank)) → All P cs → All P (left_of cs)
left_all {K} P cs all =
    let led : List (K × Rank) = keep (on leads) cs in
    let least : List (K × Rank) = keep (on has_lower_med) led in
    subst (λ (xs : List (K × Rank)). All P xs) (sym (left_of-in_three cs))
    (kept_all P (on is_nearer) least (kept_all P (on has_lower_med) led (kept_all P (on leads) cs all)))

first_has : {K : Type 0} (P : K → Type 0) (cs : List (K × Rank)) (k : K) → All (λ c. P c.0) cs → option_map (λ c. c.0) (first cs) ≡ Some k → P k
first_has P [] k all e = absurd cc
first_has P (c ∷ cs) k all e = subst P (let same : c.0 ≡ k = cc in same) (All-head (λ d. P d.0) c cs all)

-- what holds of all candidates holds of the choice
pub choice_has : {K : Type 0} (P : K → Type 0) (cs : List (K × Rank)) (k : K) → All (λ c. P c.0) cs → choice cs ≡ Some k → P k
unfolding choice
choice_has P cs k all e = first_has P (left_of cs) k (left_all (λ c. P c.0) cs all) e

-- where there is a candidate there is a choice
pub choice_some : {K : Type 0} (cs : List (K × Rank)) → (cs ≡ [] → ⊥) → IsSome (choice cs)
choice_some {K} cs there = by_choice (choice cs) refl where
  by_choice : (o : Option K) → choice cs ≡ o → IsSome o
  by_choice None is = absurd (there (choice-none cs is))
  by_choice (Some k) is = refl
