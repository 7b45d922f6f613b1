-- One turn over the plans of a link, index by index.
use Rattle.std.proofs.Common.{◌≡◌, ℕ, zero, suc, ◌+◌, ◌<◌, ◌≤◌, List, [], ◌∷◌, ◌++◌, length, take, drop, map, filter, Some}
use Rattle.std.proofs.Common.{None, Bool, true, false, refl, sym, ap, ◌∙◌, arith, append_assoc, add-one}
use Rattle.std.specs.Prelude.{slice_get, slice_set, not, if◌then◌else◌}
use Rattle.graft_model.specs.FarRows.{without}
use Rattle.graft_model.specs.declared.event.FarEvent.{FarEvent}
use Rattle.far_side.specs.Links.{act_in, is_gone, older, left_in_link, next_index, pass_events}
use Rattle.far_side.specs.Passes.{plans_after}
use Rattle.far_side.specs.declared.link.InLink.{InLink}

-- after i of the plans had their turn: those that are left are in front, and the others behind them
pub record Passed (event : ℕ → InLink → List FarEvent) (first plans : List InLink) (index i : ℕ) (es : List FarEvent) : Type 0 where
  pub rest : drop index plans ≡ drop i first
  pub left : take index plans ++ left_in_link (drop index plans) ≡ left_in_link first
  pub events : es ++ pass_events event index (drop index plans) ≡ pass_events event 0 first

pub passed_none : (event : ℕ → InLink → List FarEvent) (first : List InLink) → Passed event first first 0 0 []
passed_none event first = record { rest = refl; left = refl; events = refl }

no_none : {A : Type 0} {B : Type 0} (x : A) → None ≡ Some x → B
no_none x is = absurd (let e : ⊥ = cc in e)

-- the plan at an index, and those behind it
drop_at : (index : ℕ) (plans : List InLink) (x : InLink) → slice_get plans index ≡ Some x → drop index plans ≡ x ∷ drop (suc index) plans
drop_at zero [] x is = no_none x is
drop_at zero (y ∷ ys) x is = let e : y ≡ x = cc in ap (λ (z : InLink). z ∷ ys) e
drop_at (suc index) [] x is = no_none x is
drop_at (suc index) (y ∷ ys) x is = drop_at index ys x is

-- without it
pub without_is : {A : Type 0} (index : ℕ) (xs : List A) → without index xs ≡ take index xs ++ drop (suc index) xs
without_is index xs = ap (λ (n : ℕ). take index xs ++ drop n xs) (add-one index)

cut_take : (index : ℕ) (plans : List InLink) (x : InLink) → slice_get plans index ≡ Some x
    → take index (take index plans ++ drop (suc index) plans) ≡ take index plans
cut_take zero plans x is = refl
cut_take (suc index) [] x is = no_none x is
cut_take (suc index) (y ∷ ys) x is = ap (λ (zs : List InLink). y ∷ zs) (cut_take index ys x is)

cut_drop : (index : ℕ) (plans : List InLink) (x : InLink) → slice_get plans index ≡ Some x
    → drop index (take index plans ++ drop (suc index) plans) ≡ drop (suc index) plans
cut_drop zero [] x is = refl
cut_drop zero (y ∷ ys) x is = refl
cut_drop (suc index) [] x is = no_none x is
cut_drop (suc index) (y ∷ ys) x is = cut_drop index ys x is

-- with another one in its place
set_take : (index : ℕ) (plans : List InLink) (x y : InLink) → slice_get plans index ≡ Some x
    → take (suc index) (slice_set plans index y) ≡ take index plans ++ y ∷ []
set_take zero [] x y is = no_none x is
set_take zero (z ∷ zs) x y is = refl
set_take (suc index) [] x y is = no_none x is
set_take (suc index) (z ∷ zs) x y is = ap (λ (us : List InLink). z ∷ us) (set_take index zs x y is)

set_drop : (index : ℕ) (plans : List InLink) (x y : InLink) → slice_get plans index ≡ Some x
    → drop (suc index) (slice_set plans index y) ≡ drop (suc index) plans
set_drop zero [] x y is = no_none x is
set_drop zero (z ∷ zs) x y is = refl
set_drop (suc index) [] x y is = no_none x is
set_drop (suc index) (z ∷ zs) x y is = set_drop index zs x y is

drop_more : (i : ℕ) (first : List InLink) (x : InLink) (xs : List InLink) → drop i first ≡ x ∷ xs → drop (suc i) first ≡ xs
drop_more zero [] x xs is = absurd (let e : ⊥ = cc in e)
drop_more zero (y ∷ ys) x xs is = let e : ys ≡ xs = cc in e
drop_more (suc i) [] x xs is = absurd (let e : ⊥ = cc in e)
drop_more (suc i) (y ∷ ys) x xs is = drop_more i ys x xs is

left_by : Bool → InLink → List InLink → List InLink
left_by gone x xs = map older (if not gone then x ∷ filter (λ y. not (is_gone (act_in y))) xs else filter (λ y. not (is_gone (act_in y))) xs)

module _ (event : ℕ → InLink → List FarEvent) (first plans plans' : List InLink) (index next i : ℕ) (es : List FarEvent)
    (x : InLink) (passed : Passed event first plans index i es) (is : slice_get plans index ≡ Some x) where
  behind : List InLink
  behind = drop (suc index) plans

  -- the same, with what comes after the plan at the index
  left_is : take index plans ++ left_by (is_gone (act_in x)) x (drop (suc index) plans) ≡ left_in_link first
  unfolding left_by
  left_is = ap (λ (ps : List InLink). take index plans ++ left_in_link ps) (sym (drop_at index plans x is)) ∙ passed.left

  events_are : es ++ (event index x ++ pass_events event (next_index index x) (drop (suc index) plans)) ≡ pass_events event 0 first
  events_are = ap (λ (ps : List InLink). es ++ pass_events event index ps) (sym (drop_at index plans x is)) ∙ passed.events

  moved : drop (i + 1) first ≡ drop (suc index) plans
  moved = ap (λ (n : ℕ). drop n first) (add-one i) ∙ drop_more i first x (drop (suc index) plans) (sym passed.rest ∙ drop_at index plans x is)

  -- what is left stands in front, from the next index on are the others
  ends : (front : List InLink) → take next plans' ≡ front → drop next plans' ≡ drop (suc index) plans → next ≡ next_index index x
      → front ++ left_in_link (drop (suc index) plans) ≡ take index plans ++ left_by (is_gone (act_in x)) x (drop (suc index) plans)
      → Passed event first plans' next (i + 1) (es ++ event index x)
  ends front taken dropped n same = record {
    rest = dropped ∙ sym moved;
    left = ap (λ (ps : List InLink). take next plans' ++ left_in_link ps) dropped
        ∙ ap (λ (ps : List InLink). ps ++ left_in_link (drop (suc index) plans)) taken ∙ same ∙ left_is;
    events = ap (λ (ps : List InLink). (es ++ event index x) ++ pass_events event next ps) dropped
        ∙ ap (λ (m : ℕ). (es ++ event index x) ++ pass_events event m (drop (suc index) plans)) n
        ∙ append_assoc es (event index x) (pass_events event (next_index index x) (drop (suc index) plans)) ∙ events_are;
  }

  by_gone : (gone : Bool) → is_gone (act_in x) ≡ gone → plans' ≡ (if gone then without index plans else slice_set plans index (older x))
      → next ≡ (if gone then index else index + 1) → next ≡ next_index index x
      → Passed event first plans' next (i + 1) (es ++ event index x)
  unfolding left_by
  by_gone true g e m n = ends (take index plans)
      (ap (λ (k : ℕ). take k plans') m ∙ ap (take index) (e ∙ without_is index plans) ∙ cut_take index plans x is)
      (ap (λ (k : ℕ). drop k plans') m ∙ ap (drop index) (e ∙ without_is index plans) ∙ cut_drop index plans x is)
      n (ap (λ (b : Bool). take index plans ++ left_by b x (drop (suc index) plans)) (sym g))
  by_gone false g e m n = ends (take index plans ++ older x ∷ [])
      (ap (λ (k : ℕ). take k plans') (m ∙ add-one index) ∙ ap (take (suc index)) e ∙ set_take index plans x (older x) is)
      (ap (λ (k : ℕ). drop k plans') (m ∙ add-one index) ∙ ap (drop (suc index)) e ∙ set_drop index plans x (older x) is)
      n (append_assoc (take index plans) (older x ∷ []) (left_in_link (drop (suc index) plans))
      ∙ ap (λ (b : Bool). take index plans ++ left_by b x (drop (suc index) plans)) (sym g))

  -- one more plan had its turn
  pub passed_more : plans' ≡ plans_after index x plans → next ≡ next_index index x → Passed event first plans' next (i + 1) (es ++ event index x)
  passed_more e n = by_gone (is_gone (act_in x)) refl e n n

drop_past : (i : ℕ) (xs : List InLink) → length xs ≤ i → drop i xs ≡ []
drop_past zero [] all = refl
drop_past zero (x ∷ xs) all = absurd (omega (arith, all))
drop_past (suc i) [] all = refl
drop_past (suc i) (x ∷ xs) all = drop_past i xs (omega (arith, all))

front_is : (ps : List InLink) (n : ℕ) → drop n ps ≡ [] → ps ≡ take n ps ++ []
front_is [] zero e = refl
front_is [] (suc n) e = refl
front_is (p ∷ ps) zero e = absurd (let f : ⊥ = cc in f)
front_is (p ∷ ps) (suc n) e = ap (λ (qs : List InLink). p ∷ qs) (front_is ps n e)

nothing_more : (fs : List FarEvent) → fs ≡ fs ++ []
nothing_more [] = refl
nothing_more (f ∷ fs) = ap (λ (gs : List FarEvent). f ∷ gs) (nothing_more fs)

-- all of them had
pub passed_all : (event : ℕ → InLink → List FarEvent) (first plans : List InLink) (index i : ℕ) (es : List FarEvent)
    → Passed event first plans index i es → length first ≤ i
    → (plans ≡ left_in_link first) × (es ≡ pass_events event 0 first)
passed_all event first plans index i es passed all =
    let none : drop index plans ≡ [] = passed.rest ∙ drop_past i first all in (
      front_is plans index none ∙ ap (λ (ps : List InLink). take index plans ++ left_in_link ps) (sym none) ∙ passed.left,
      nothing_more es ∙ ap (λ (ps : List InLink). es ++ pass_events event index ps) (sym none) ∙ passed.events,
    )

drop_some : (i : ℕ) (xs : List InLink) → i < length xs → 0 < length (drop i xs)
drop_some zero xs h = h
drop_some (suc i) [] h = absurd (omega (arith, h))
drop_some (suc i) (x ∷ xs) h = drop_some i xs (omega (arith, h))

within : (n : ℕ) (ps : List InLink) → 0 < length (drop n ps) → n < length ps
within zero ps h = h
within (suc n) [] h = absurd (omega (arith, h))
within (suc n) (p ∷ ps) h = let k : n < length ps = within n ps h in omega (arith, k)

-- an index is that of a plan while some had no turn
pub index_within : (event : ℕ → InLink → List FarEvent) (first plans : List InLink) (index i : ℕ) (es : List FarEvent)
    → Passed event first plans index i es → i < length first → index < length plans
index_within event first plans index i es passed more =
    within index plans (omega (arith, drop_some i first more, ap (λ (xs : List InLink). length xs) passed.rest))
