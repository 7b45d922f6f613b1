-- The grafts of a peering: each number is that of one graft, and the numbers rise.
use Rattle.std.proofs.Common.{◌≡◌, ◌==◌, cond, ℕ, zero, suc, ◌+◌, ◌<◌, Bool, true, false, List, [], ◌∷◌, ◌++◌, Option, Some, None, refl, ap, ◌∙◌, subst, arith}
use Rattle.std.proofs.lemmas.Bool.Decides.{nat_tests}
use Rattle.std.proofs.lemmas.List.Elements.{filter-append}
use Rattle.std.proofs.lemmas.Option.{same_Some}
use Rattle.std.specs.Prelude.{filter, slice_get}
use Rattle.std.specs.List.{AllByRecursion}
use Rattle.graft_model.specs.Setups.{Setup, ScriptGraft, grafts_in, graft_at}
use Rattle.graft_model.proofs.Numbers.{number_of_index, graft_by_index, index_of_graft, number_is, graft_is_known}
use Rattle.graft_laws.specs.Log.{grafts_of, is_peering, is_graft_on}
use Rattle.graft_laws.proofs.Lists.{all_both, filter_all, filter_tests}

-- ---- items of a list by their places

all_at : {A : Type 0} (P : A → Type 0) (xs : List A) → ((i : ℕ) (x : A) → slice_get xs i ≡ Some x → P x) → AllByRecursion P xs
all_at P [] each = tt
all_at P (x ∷ xs) each = (each zero x refl, all_at P xs (λ i y e. each (suc i) y e))

split_at : {A : Type 0} (xs : List A) (i : ℕ) (x : A) → slice_get xs i ≡ Some x → (us : List A) × (vs : List A) × (xs ≡ us ++ x ∷ vs)
split_at [] i x e = absurd cc
split_at (y ∷ xs) zero x e = ([], xs, ap (λ z. z ∷ xs) (same_Some y x e))
split_at (y ∷ xs) (suc i) x e = let s = split_at xs i x e in (y ∷ s.0, s.1, ap (λ (zs : List _). y ∷ zs) s.2)

pub found_in : (gs hs : List ScriptGraft) (g : ScriptGraft) (P : ScriptGraft → Type 0) → AllByRecursion P (gs ++ g ∷ hs) → P g
found_in [] hs g P all = all.0
found_in (x ∷ gs) hs g P all = found_in gs hs g P all.1

-- ---- numbers rise along the script

abbrev Rises : List ScriptGraft → Type 0
Rises [] = Unit {0}
Rises (g ∷ gs) = AllByRecursion (λ (x : ScriptGraft). g.graft < x.graft) gs × Rises gs

-- where each number is that of its index, counted from one above k
all_rise : (k : ℕ) (gs : List ScriptGraft) → ((i : ℕ) (g : ScriptGraft) → slice_get gs i ≡ Some g → g.graft ≡ k + i + 1) → Rises gs
all_rise k [] numbers = tt
all_rise k (g ∷ gs) numbers =
    let first = numbers zero g refl in (
      all_at (λ (x : ScriptGraft). g.graft < x.graft) gs (λ i x e. let n = numbers (suc i) x e in omega (arith, first, n)),
      all_rise (k + 1) gs (λ i x e. let n = numbers (suc i) x e in omega (arith, n)),
    )

rises_step : (b : Bool) (g : ScriptGraft) (gs : List ScriptGraft) → AllByRecursion (λ (x : ScriptGraft). g.graft < x.graft) gs → Rises gs
    → Rises (cond b (g ∷ gs) gs)
rises_step true g gs all rise = (all, rise)
rises_step false g gs all rise = rise

filter_rises : (test : ScriptGraft → Bool) (gs : List ScriptGraft) → Rises gs → Rises (filter test gs)
filter_rises test [] rise = tt
filter_rises test (g ∷ gs) rise =
    rises_step (test g) g (filter test gs) (filter_all (λ (x : ScriptGraft). g.graft < x.graft) test gs rise.0) (filter_rises test gs rise.1)

grafts_rise : (setup : Setup) (p : ℕ) → Rises (grafts_of setup p)
grafts_rise setup p = filter_rises (λ g. g.peering == p) (grafts_in setup)
    (all_rise 0 (grafts_in setup) (λ i g e. let n = number_of_index setup i g e in omega (arith, n)))

front_below : (gs hs : List ScriptGraft) (g : ScriptGraft) → Rises (gs ++ g ∷ hs) → AllByRecursion (λ (x : ScriptGraft). x.graft < g.graft) gs
front_below [] hs g rise = tt
front_below (y ∷ gs) hs g rise = (found_in gs hs g (λ (x : ScriptGraft). y.graft < x.graft) rise.0, front_below gs hs g rise.1)

back_above : (gs hs : List ScriptGraft) (g : ScriptGraft) → Rises (gs ++ g ∷ hs) → AllByRecursion (λ (x : ScriptGraft). g.graft < x.graft) hs
back_above [] hs g rise = rise.0
back_above (y ∷ gs) hs g rise = back_above gs hs g rise.1

-- of a peering's grafts those before one have lower numbers, and those behind it higher ones
pub before_below : (setup : Setup) (p : ℕ) (gs hs : List ScriptGraft) (g : ScriptGraft) → grafts_of setup p ≡ gs ++ g ∷ hs
    → AllByRecursion (λ (x : ScriptGraft). x.graft < g.graft) gs
before_below setup p gs hs g is = front_below gs hs g (subst Rises is (grafts_rise setup p))

pub behind_above : (setup : Setup) (p : ℕ) (gs hs : List ScriptGraft) (g : ScriptGraft) → grafts_of setup p ≡ gs ++ g ∷ hs
    → AllByRecursion (λ (x : ScriptGraft). g.graft < x.graft) hs
behind_above setup p gs hs g is = back_above gs hs g (subst Rises is (grafts_rise setup p))

-- ---- whose a graft is

-- the script's graft of its number is one of the peering
abbrev pub IsGraftOf : Setup → ℕ → ScriptGraft → Type 0
IsGraftOf setup p g = (graft_at setup g.graft ≡ Some g) × (g.peering ≡ p)

all_known : (setup : Setup) → AllByRecursion (λ (g : ScriptGraft). graft_at setup g.graft ≡ Some g) (grafts_in setup)
all_known setup = all_at (λ (g : ScriptGraft). graft_at setup g.graft ≡ Some g) (grafts_in setup) (λ i g e.
    let n = number_of_index setup i g e in
    let m : g.graft ≡ suc i = omega (arith, n) in
    ap (graft_at setup) m ∙ (graft_by_index setup i ∙ e))

pub all_of_peering : (setup : Setup) (p : ℕ) → AllByRecursion (IsGraftOf setup p) (grafts_of setup p)
all_of_peering setup p = all_both (λ (g : ScriptGraft). graft_at setup g.graft ≡ Some g)
    (λ (g : ScriptGraft). (g.peering == p) ≡ true) (IsGraftOf setup p) (grafts_of setup p)
    (λ g known own. (known, grind (arith, nat_tests)))
    (filter_all (λ (g : ScriptGraft). graft_at setup g.graft ≡ Some g) (λ g. g.peering == p) (grafts_in setup) (all_known setup))
    (filter_tests (λ g. g.peering == p) (grafts_in setup))

pub is_own : (setup : Setup) (p : ℕ) (g : ScriptGraft) → IsGraftOf setup p g → is_graft_on setup p g.graft ≡ true
is_own setup p g own = ap (is_peering p) own.0 ∙ (let is : g.peering ≡ p = own.1 in grind (arith, nat_tests))

-- the peering's graft of a number
pub own_graft : (setup : Setup) (p k : ℕ) → is_graft_on setup p k ≡ true → (g : ScriptGraft) × (g.graft ≡ k) × IsGraftOf setup p g
own_graft setup p k own = by_value (graft_at setup k) refl own where
  by_value : (o : Option ScriptGraft) → graft_at setup k ≡ o → is_peering p o ≡ true → (g : ScriptGraft) × (g.graft ≡ k) × IsGraftOf setup p g
  by_value None e is = absurd cc
  by_value (Some g) e is = (g, number_is setup k g e, (graft_is_known setup k g e, grind (arith, nat_tests)))

-- a number is of one peering alone
pub one_peering : (setup : Setup) (p q k : ℕ) → is_graft_on setup p k ≡ true → is_graft_on setup q k ≡ true → p ≡ q
one_peering setup p q k a b = by_value (graft_at setup k) a b where
  by_value : (o : Option ScriptGraft) → is_peering p o ≡ true → is_peering q o ≡ true → p ≡ q
  by_value None a b = absurd cc
  by_value (Some g) a b = grind (arith, nat_tests)

-- ---- where a graft stands among those of its peering

own_first : (p : ℕ) (g : ScriptGraft) (gs : List ScriptGraft) → g.peering ≡ p
    → filter (λ (x : ScriptGraft). x.peering == p) (g ∷ gs) ≡ g ∷ filter (λ (x : ScriptGraft). x.peering == p) gs
own_first p g gs is = grind (arith, nat_tests)

pub record StandsAmong (setup : Setup) (p : ℕ) (g : ScriptGraft) : Type 0 where
  pub front : List ScriptGraft
  pub back : List ScriptGraft
  pub is : grafts_of setup p ≡ front ++ g ∷ back

pub among : (setup : Setup) (p : ℕ) (g : ScriptGraft) → IsGraftOf setup p g → StandsAmong setup p g
among setup p g own =
    let test : ScriptGraft → Bool = λ x. x.peering == p in
    let index = index_of_graft setup g.graft g own.0 in
    let s = split_at (grafts_in setup) index.0 g index.2 in
    record {
      front = filter test s.0;
      back = filter test s.1;
      is = ap (filter test) s.2 ∙ (filter-append test s.0 (g ∷ s.1) ∙ ap (λ (x : List ScriptGraft). filter test s.0 ++ x) (own_first p g s.1 own.1));
    }

-- what holds of all grafts of a peering holds of each
pub of_all : (setup : Setup) (p : ℕ) (g : ScriptGraft) (P : ScriptGraft → Type 0) → IsGraftOf setup p g → AllByRecursion P (grafts_of setup p) → P g
of_all setup p g P own all =
    let a : StandsAmong setup p g = among setup p g own in
    found_in a.front a.back g P (subst (λ (x : List ScriptGraft). AllByRecursion P x) a.is all)

-- and of the one that has a number
pub at_number : (setup : Setup) (p k : ℕ) (P : ScriptGraft → Type 0) → AllByRecursion P (grafts_of setup p) → is_graft_on setup p k ≡ true
    → (g : ScriptGraft) × (g.graft ≡ k) × P g
at_number setup p k P all own = let f = own_graft setup p k own in (f.0, f.1, of_all setup p f.0 P f.2 all)
