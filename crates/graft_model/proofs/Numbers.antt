-- The grafts of the script stand in a list in the order of their numbers, step by step.
use Rattle.std.proofs.Common.{◌≡◌, ℕ, zero, suc, ◌+◌, ◌-◌, ◌<◌, ◌≤◌, eqb, cond, Bool, true, false, List, [], ◌∷◌, ◌++◌, length}
use Rattle.std.proofs.Common.{take, Option, Some, None, refl, sym, ap, ◌∙◌, subst, arith, inl, inr, length-append}
use Rattle.std.specs.Prelude.{filter, slice_get}
use Rattle.std.specs.List.{find, range_with_len}
use Rattle.std.proofs.lemmas.Bool.Decides.{nat_tests}
use Rattle.std.proofs.lemmas.List.FromFn.{length-range_with_len}
use Rattle.std.proofs.lemmas.Bool.{cases_lt}
use Rattle.std.proofs.lemmas.Option.{same_Some, slice_get_within}
use Rattle.tcp_seq.proofs.Lookups.{get-append_left, get-append_right}
use Rattle.graft_model.specs.Setups.{Setup, ScriptStep, SayStep, MoveStep, EvacuateStep, SettleStep, ScriptGraft, peerings_in, peering_numbers}
use Rattle.graft_model.specs.Setups.{is_settle, group_of, moved_by, grafts_numbered, grafts_after, grafts_in, grafts_before, graft_at}
use Rattle.graft_model.specs.OperatorRows.{number_by}

-- ---- a list whose numbers rise by one

-- the grafts of a list are numbered from one above the number k on
abbrev IsNumbered : ℕ → List ScriptGraft → Type 0
IsNumbered k [] = Unit {0}
IsNumbered k (g ∷ grafts) = (g.graft ≡ k + 1) × IsNumbered (k + 1) grafts

number_at : (k : ℕ) (grafts : List ScriptGraft) → IsNumbered k grafts → (i : ℕ) (g : ScriptGraft) → slice_get grafts i ≡ Some g → g.graft ≡ k + i + 1
number_at k [] is i g e = absurd cc
number_at k (x ∷ grafts) is zero g e = ap (λ (z : ScriptGraft). z.graft) (sym (same_Some x g e)) ∙ (is.0 ∙ (let n : k + 1 ≡ k + zero + 1 = omega arith in n))
number_at k (x ∷ grafts) is (suc i) g e = let n = number_at (k + 1) grafts is.1 i g e in omega (arith, n)

found_at : (k : ℕ) (grafts : List ScriptGraft) → IsNumbered k grafts → (n i : ℕ) → n ≡ k + i + 1 → find (λ g. eqb g.graft n) grafts ≡ slice_get grafts i
found_at k [] is n i e = refl
found_at k (x ∷ grafts) is n zero e =
    let x_is : x.graft ≡ k + 1 = is.0 in
    let t : eqb x.graft n ≡ true = grind (arith, nat_tests) in
    ap (λ (b : Bool). cond b (Some x) (find (λ g. eqb g.graft n) grafts)) t
found_at k (x ∷ grafts) is n (suc i) e =
    let x_is : x.graft ≡ k + 1 = is.0 in
    let t : eqb x.graft n ≡ false = grind (arith, nat_tests) in
    ap (λ (b : Bool). cond b (Some x) (find (λ g. eqb g.graft n) grafts)) t ∙ found_at (k + 1) grafts is.1 n i (omega (arith, e))

none_at : (k : ℕ) (grafts : List ScriptGraft) → IsNumbered k grafts → (n : ℕ) → n ≤ k → find (λ g. eqb g.graft n) grafts ≡ None
none_at k [] is n below = refl
none_at k (x ∷ grafts) is n below =
    let x_is : x.graft ≡ k + 1 = is.0 in
    let t : eqb x.graft n ≡ false = grind (arith, nat_tests) in
    ap (λ (b : Bool). cond b (Some x) (find (λ g. eqb g.graft n) grafts)) t ∙ none_at (k + 1) grafts is.1 n (omega (arith, below))

both_numbered : (k n : ℕ) (one other : List ScriptGraft) → n ≡ k + length one → IsNumbered k one → IsNumbered n other → IsNumbered k (one ++ other)
both_numbered k n [] other e is others = subst (λ (z : ℕ). IsNumbered z other) (let t : n ≡ k = omega (arith, e) in t) others
both_numbered k n (x ∷ one) other e is others = (is.0, both_numbered (k + 1) n one other (omega (arith, e)) is.1 others)

-- ---- the grafts of one step

length-numbered : (k n : ℕ) (peerings : List ℕ) → length (grafts_numbered k n peerings) ≡ length peerings
length-numbered k n [] = refl
length-numbered k n (p ∷ peerings) = ap suc (length-numbered (k + 1) n peerings)

numbered_is : (k n : ℕ) (peerings : List ℕ) → IsNumbered k (grafts_numbered k n peerings)
numbered_is k n [] = tt
numbered_is k n (p ∷ peerings) = (refl, numbered_is (k + 1) n peerings)

-- what stands at an index of the grafts of a step
numbered_at : (k n : ℕ) (peerings : List ℕ) (i : ℕ) (g : ScriptGraft) → slice_get (grafts_numbered k n peerings) i ≡ Some g
    → (slice_get peerings i ≡ Some g.peering) × (g.step ≡ n)
numbered_at k n [] i g e = absurd cc
numbered_at k n (p ∷ peerings) zero g e =
    let is = same_Some _ g e in
    (ap (λ (z : ScriptGraft). Some z.peering) is, sym (ap (λ (z : ScriptGraft). z.step) is))
numbered_at k n (p ∷ peerings) (suc i) g e = numbered_at (k + 1) n peerings i g e

has_number : (k n : ℕ) (peerings : List ℕ) (i p : ℕ) (graft : ℕ) → slice_get peerings i ≡ Some p → graft ≡ k + i + 1
    → slice_get (grafts_numbered k n peerings) i ≡ Some (record { graft = graft; peering = p; step = n })
has_number k n [] i p graft e is = absurd cc
has_number k n (q ∷ peerings) zero p graft e is =
    let same : q ≡ p = same_Some q p e in
    let one : k + 1 ≡ graft = omega (arith, is) in cc
has_number k n (q ∷ peerings) (suc i) p graft e is = has_number (k + 1) n peerings i p graft e (omega (arith, is))

-- ---- the grafts of steps

after_is : (setup : Setup) (k n : ℕ) (steps : List ScriptStep) → IsNumbered k (grafts_after setup k n steps)
after_is setup k n [] = tt
after_is setup k n (s ∷ steps) =
    let t : k + length (moved_by setup s) ≡ k + length (grafts_numbered k n (moved_by setup s)) =
    ap (λ (z : ℕ). k + z) (sym (length-numbered k n (moved_by setup s))) in
    both_numbered k _ (grafts_numbered k n (moved_by setup s)) _ t (numbered_is k n (moved_by setup s))
    (after_is setup (k + length (moved_by setup s)) (n + 1) steps)

-- how many grafts the first of some steps have
abbrev first_grafts : Setup → ℕ → ℕ → ℕ → List ScriptStep → ℕ
first_grafts setup k n m steps = length (grafts_after setup k n (take m steps))

first_more : (setup : Setup) (k n m : ℕ) (s : ScriptStep) (steps : List ScriptStep)
    → first_grafts setup k n (suc m) (s ∷ steps) ≡ length (moved_by setup s) + first_grafts setup (k + length (moved_by setup s)) (n + 1) m steps
first_more setup k n m s steps =
    length-append (grafts_numbered k n (moved_by setup s)) _
    ∙ ap (λ (z : ℕ). z + first_grafts setup (k + length (moved_by setup s)) (n + 1) m steps) (length-numbered k n (moved_by setup s))

-- Where a graft at an index of the grafts of steps comes from: from the step that stands behind so many steps, as the one at this index of its grafts.
record ComesFrom (setup : Setup) (k n : ℕ) (steps : List ScriptStep) (i : ℕ) (g : ScriptGraft) : Type 0 where
  behind : ℕ
  step : ScriptStep
  index : ℕ
  there : slice_get steps behind ≡ Some step
  moved : slice_get (moved_by setup step) index ≡ Some g.peering
  by : g.step ≡ n + behind
  is : i ≡ first_grafts setup k n behind steps + index

from_later : (setup : Setup) (k n : ℕ) (s : ScriptStep) (steps : List ScriptStep) (i j : ℕ) (g : ScriptGraft) → i ≡ length (moved_by setup s) + j
    → ComesFrom setup (k + length (moved_by setup s)) (n + 1) steps j g → ComesFrom setup k n (s ∷ steps) i g
from_later setup k n s steps i j g e from = record {
  behind = suc from.behind;
  step = from.step;
  index = from.index;
  there = from.there;
  moved = from.moved;
  by = omega (arith, from.by);
  is = let t = first_more setup k n from.behind s steps in omega (arith, t, e, from.is);
}

comes_from : (setup : Setup) (k n : ℕ) (steps : List ScriptStep) (i : ℕ) (g : ScriptGraft) → slice_get (grafts_after setup k n steps) i ≡ Some g
    → ComesFrom setup k n steps i g
comes_from setup k n [] i g e = absurd cc
comes_from setup k n (s ∷ steps) i g e = elim (cases_lt i (length (moved_by setup s))) [
  | inl below ↦
      let t = numbered_at k n (moved_by setup s) i g
      (sym (get-append_left (grafts_numbered k n (moved_by setup s)) _ i (omega (arith, length-numbered k n (moved_by setup s), below))) ∙ e) in
      record { behind = 0; step = s; index = i; there = refl; moved = t.0; by = omega (arith, t.1); is = omega arith }
  | inr above ↦
      let is : i ≡ length (moved_by setup s) + (i - length (moved_by setup s)) = omega (arith, above) in
      let at : slice_get (grafts_after setup (k + length (moved_by setup s)) (n + 1) steps) (i - length (moved_by setup s)) ≡ Some g =
      sym (get-append_right (grafts_numbered k n (moved_by setup s)) _ i _ (omega (arith, length-numbered k n (moved_by setup s), above))) ∙ e in
      from_later setup k n s steps i _ g is (comes_from setup (k + length (moved_by setup s)) (n + 1) steps _ g at)
]

-- A graft of a step stands at its index.
has_graft : (setup : Setup) (k n : ℕ) (steps : List ScriptStep) (m j p : ℕ) (s : ScriptStep) (i graft step : ℕ) → slice_get steps m ≡ Some s
    → slice_get (moved_by setup s) j ≡ Some p
    → i ≡ first_grafts setup k n m steps + j → graft ≡ k + i + 1 → step ≡ n + m
    → slice_get (grafts_after setup k n steps) i ≡ Some (record { graft = graft; peering = p; step = step })
has_graft setup k n [] m j p s i graft step there moved at number by = absurd cc
has_graft setup k n (x ∷ steps) zero j p s i graft step there moved at number by =
    let same : x ≡ s = same_Some x s there in
    let moves : slice_get (moved_by setup x) j ≡ Some p = ap (λ (z : ScriptStep). slice_get (moved_by setup z) j) same ∙ moved in
    let here : i ≡ j = omega (arith, at) in
    let moves_here : slice_get (moved_by setup x) i ≡ Some p = ap (slice_get (moved_by setup x)) here ∙ moves in
    let len = length-numbered k n (moved_by setup x) in
    let below = slice_get_within (moved_by setup x) i p moves_here in
    let is : n ≡ step = omega (arith, by) in
    get-append_left (grafts_numbered k n (moved_by setup x)) _ i (omega (arith, len, below))
    ∙ (has_number k n (moved_by setup x) i p graft moves_here number
    ∙ ap (λ (z : ℕ). let v : Option ScriptGraft = Some (record { graft = graft; peering = p; step = z }) in v) is)
has_graft setup k n (x ∷ steps) (suc m) j p s i graft step there moved at number by =
    let t = first_more setup k n m x steps in
    let len = length-numbered k n (moved_by setup x) in
    let rest : ℕ = first_grafts setup (k + length (moved_by setup x)) (n + 1) m steps + j in
    get-append_right (grafts_numbered k n (moved_by setup x)) _ i rest (omega (arith, t, at, len))
    ∙ has_graft setup (k + length (moved_by setup x)) (n + 1) steps m j p s rest graft step there moved refl (omega (arith, t, at, number)) (omega (arith, by))

-- The grafts of a step stand before those of a later one.
first_rises : (setup : Setup) (k n : ℕ) (steps : List ScriptStep) (one other : ℕ) (s : ScriptStep) → one < other → slice_get steps one ≡ Some s
    → first_grafts setup k n one steps + length (moved_by setup s) ≤ first_grafts setup k n other steps
first_rises setup k n [] one other s less there = absurd cc
first_rises setup k n (x ∷ steps) one zero s less there = absurd (omega (arith, less))
first_rises setup k n (x ∷ steps) zero (suc other) s less there =
    let same : length (moved_by setup x) ≡ length (moved_by setup s) = ap (λ (z : ScriptStep). length (moved_by setup z)) (same_Some x s there) in
    let t = first_more setup k n other x steps in omega (arith, same, t)
first_rises setup k n (x ∷ steps) (suc one) (suc other) s less there =
    let t = first_more setup k n one x steps in
    let u = first_more setup k n other x steps in
    let rest = first_rises setup (k + length (moved_by setup x)) (n + 1) steps one other s (omega (arith, less)) there in omega (arith, t, u, rest)

-- ---- the grafts of the script

-- the number of a graft is its index, counted from 1
pub number_of_index : (setup : Setup) (i : ℕ) (g : ScriptGraft) → slice_get (grafts_in setup) i ≡ Some g → g.graft ≡ i + 1
number_of_index setup i g at = let t = number_at 0 (grafts_in setup) (after_is setup 0 0 setup.steps) i g at in omega (arith, t)

pub graft_by_index : (setup : Setup) (i : ℕ) → graft_at setup (suc i) ≡ slice_get (grafts_in setup) i
graft_by_index setup i = found_at 0 (grafts_in setup) (after_is setup 0 0 setup.steps) (suc i) i (omega arith)

pub no_graft_zero : (setup : Setup) → graft_at setup 0 ≡ None
no_graft_zero setup = none_at 0 (grafts_in setup) (after_is setup 0 0 setup.steps) 0 (omega arith)

-- where the graft of a number stands
pub index_of_graft : (setup : Setup) (k : ℕ) (g : ScriptGraft) → graft_at setup k ≡ Some g → (i : ℕ) × (k ≡ i + 1) × (slice_get (grafts_in setup) i ≡ Some g)
index_of_graft setup zero g at = let none = no_graft_zero setup in absurd cc
index_of_graft setup (suc i) g at = (i, omega arith, sym (graft_by_index setup i) ∙ at)

pub number_is : (setup : Setup) (k : ℕ) (g : ScriptGraft) → graft_at setup k ≡ Some g → g.graft ≡ k
number_is setup k g at = let t = index_of_graft setup k g at in let n = number_of_index setup t.0 g t.2 in omega (arith, t.1, n)

pub graft_is_known : (setup : Setup) (k : ℕ) (g : ScriptGraft) → graft_at setup k ≡ Some g → graft_at setup g.graft ≡ Some g
graft_is_known setup k g at = ap (graft_at setup) (number_is setup k g at) ∙ at

-- Grafts of one number are one.
pub one_of_number : (setup : Setup) (g h : ScriptGraft) → graft_at setup g.graft ≡ Some g → graft_at setup h.graft ≡ Some h → g.graft ≡ h.graft → g ≡ h
one_of_number setup g h one other e = same_Some g h (sym one ∙ (ap (graft_at setup) e ∙ other))

-- ---- a graft and its step

-- A graft is of a step of the script, as the one at this index of the step's grafts.
pub record IsOfStep (setup : Setup) (g : ScriptGraft) : Type 0 where
  pub step : ScriptStep
  pub index : ℕ
  pub there : slice_get setup.steps g.step ≡ Some step
  pub moved : slice_get (moved_by setup step) index ≡ Some g.peering
  pub number : g.graft ≡ grafts_before setup g.step + index + 1

pub step_of_graft : (setup : Setup) (k : ℕ) (g : ScriptGraft) → graft_at setup k ≡ Some g → IsOfStep setup g
step_of_graft setup k g at =
    let t = index_of_graft setup k g at in
    let n = number_of_index setup t.0 g t.2 in
    let from = comes_from setup 0 0 setup.steps t.0 g t.2 in
    let by : from.behind ≡ g.step = omega (arith, from.by) in
    let before : first_grafts setup 0 0 from.behind setup.steps ≡ grafts_before setup g.step = ap (grafts_before setup) by in
    let is = from.is in record {
      step = from.step;
      index = from.index;
      there = sym (ap (slice_get setup.steps) by) ∙ from.there;
      moved = from.moved;
      number = omega (arith, n, before, is);
    }

pub graft_of_step : (setup : Setup) (n j p : ℕ) (s : ScriptStep) → slice_get setup.steps n ≡ Some s → slice_get (moved_by setup s) j ≡ Some p
    → graft_at setup (grafts_before setup n + j + 1) ≡ Some (record { graft = grafts_before setup n + j + 1; peering = p; step = n })
graft_of_step setup n j p s there moved =
    let e : grafts_before setup n + j + 1 ≡ suc (grafts_before setup n + j) = omega arith in
    ap (graft_at setup) e ∙ (graft_by_index setup _ ∙ has_graft setup 0 0 setup.steps n j p s _ _ n there moved refl (omega arith) (omega arith))

-- ---- numbers rise with the steps

pub numbers_rise : (setup : Setup) (g h : ScriptGraft) → graft_at setup g.graft ≡ Some g → graft_at setup h.graft ≡ Some h → g.step < h.step → g.graft < h.graft
numbers_rise setup g h one other less =
    let a = step_of_graft setup g.graft g one in
    let b = step_of_graft setup h.graft h other in
    let rise = first_rises setup 0 0 setup.steps g.step h.step a.step less a.there in
    let within = slice_get_within (moved_by setup a.step) a.index g.peering a.moved in
    omega (arith, a.number, b.number, rise, within)

pub steps_rise : (setup : Setup) (g h : ScriptGraft) → graft_at setup g.graft ≡ Some g → graft_at setup h.graft ≡ Some h → g.graft ≤ h.graft → g.step ≤ h.step
steps_rise setup g h one other le = elim (cases_lt h.step g.step) [
  | inl less ↦ let t = numbers_rise setup h g other one less in absurd (omega (arith, t, le))
  | inr at_most ↦ at_most
]

-- ---- groups rise with the steps

settles_more : (steps : List ScriptStep) (n m : ℕ) → n ≤ m → length (filter is_settle (take n steps)) ≤ length (filter is_settle (take m steps))
settles_more steps zero m le = omega arith
settles_more [] (suc n) m le = omega arith
settles_more (s ∷ steps) (suc n) zero le = absurd (omega (arith, le))
settles_more (s ∷ steps) (suc n) (suc m) le =
    let rest = settles_more steps n m (omega (arith, le)) in
    elim (is_settle s) as (λ b. length (cond b (s ∷ filter is_settle (take n steps)) (filter is_settle (take n steps)))
    ≤ length (cond b (s ∷ filter is_settle (take m steps)) (filter is_settle (take m steps)))) [
      | true ↦ omega (arith, rest)
      | false ↦ rest
    ]

pub groups_rise : (setup : Setup) (n m : ℕ) → n ≤ m → group_of setup n ≤ group_of setup m
groups_rise setup n m le = settles_more setup.steps n m le

-- ---- the grafts of an evacuate step

get_range : (a n i : ℕ) → i < n → slice_get (range_with_len a n) i ≡ Some (a + i)
get_range a zero i below = absurd (omega (arith, below))
get_range a (suc n) zero below = ap Some (let e : a ≡ a + zero = omega arith in e)
get_range a (suc n) (suc i) below = get_range (a + 1) n i (omega (arith, below)) ∙ ap Some (let e : a + 1 + i ≡ a + suc i = omega arith in e)

pub numbered_peering : (setup : Setup) (p : ℕ) → p < peerings_in setup → slice_get (peering_numbers setup) p ≡ Some p
numbered_peering setup p below = get_range 0 (peerings_in setup) p below ∙ ap Some (let e : 0 + p ≡ p = omega arith in e)

pub peering_of_index : (setup : Setup) (i p : ℕ) → slice_get (peering_numbers setup) i ≡ Some p → (p ≡ i) × (p < peerings_in setup)
peering_of_index setup i p at =
    let within = slice_get_within (peering_numbers setup) i p at in
    let len = length-range_with_len 0 (peerings_in setup) in
    let below : i < peerings_in setup = omega (arith, within, len) in
    let is : p ≡ i = same_Some p i (sym at ∙ numbered_peering setup i below) in
    (is, omega (arith, is, below))

-- ---- which order a number names

one_index : (setup : Setup) (s : ScriptStep) (i j p q before g h : ℕ) → slice_get (moved_by setup s) i ≡ Some p → slice_get (moved_by setup s) j ≡ Some q
    → g ≡ before + i + 1 → h ≡ before + j + 1 → number_by (Some s) g ≡ number_by (Some s) h → g ≡ h
one_index setup (SayStep peering bytes) i j p q before g h one other is_one is_other named = absurd cc
one_index setup (MoveStep peering target) i j p q before g h one other is_one is_other named =
    let first = slice_get_within (peering ∷ []) i p one in
    let second = slice_get_within (peering ∷ []) j q other in omega (arith, first, second, is_one, is_other)
one_index setup (EvacuateStep router) i j p q before g h one other is_one is_other named = named
one_index setup SettleStep i j p q before g h one other is_one is_other named = absurd cc

-- The grafts of one step that are ordered under one number are one.
pub one_order : (setup : Setup) (g h : ScriptGraft) → graft_at setup g.graft ≡ Some g → graft_at setup h.graft ≡ Some h → g.step ≡ h.step
    → number_by (slice_get setup.steps g.step) g.graft ≡ number_by (slice_get setup.steps h.step) h.graft → g ≡ h
one_order setup g h one other same named =
    let a = step_of_graft setup g.graft g one in
    let b = step_of_graft setup h.graft h other in
    let there : slice_get setup.steps h.step ≡ Some a.step = sym (ap (slice_get setup.steps) same) ∙ a.there in
    let step : b.step ≡ a.step = same_Some b.step a.step (sym b.there ∙ there) in
    let moved : slice_get (moved_by setup a.step) b.index ≡ Some h.peering =
    sym (ap (λ (z : ScriptStep). slice_get (moved_by setup z) b.index) step) ∙ b.moved in
    let number : h.graft ≡ grafts_before setup g.step + b.index + 1 = b.number ∙ ap (λ (z : ℕ). grafts_before setup z + b.index + 1) (sym same) in
    let under : number_by (Some a.step) g.graft ≡ number_by (Some a.step) h.graft =
    sym (ap (λ (z : Option ScriptStep). number_by z g.graft) a.there) ∙ (named ∙ ap (λ (z : Option ScriptStep). number_by z h.graft) there) in
    one_of_number setup g h one other
    (one_index setup a.step a.index b.index g.peering h.peering (grafts_before setup g.step) g.graft h.graft a.moved moved a.number number under)
