-- What an evacuate step gives to each graft as its group begins.
use Rattle.std.proofs.Common.{◌≡◌, ◌≢◌, ℕ, zero, suc, ◌+◌, ◌≤◌, eqb, cond, Bool, true, false, List, []}
use Rattle.std.proofs.Common.{◌∷◌, length, Option, Some, None, refl, sym, ap, ◌∙◌, arith}
use Rattle.std.specs.Prelude.{filter, find, fold, zip, slice_get}
use Rattle.std.specs.List.{range_with_len}
use Rattle.std.proofs.lemmas.Bool.{ne_eqb, eq-eqb}
use Rattle.std.proofs.lemmas.Option.{same_Some}
use Rattle.graft_edge.specs.declared.ids.RouterId.{RouterId}
use Rattle.evacuation.specs.Plans.{TargetList, Plan}
use Rattle.evacuation.proofs.PlanLaws.{length-plan, KeepsRooms-plan, number_given-plan, AreAtMost-plan}
use Rattle.evacuation.proofs.ThePlan.{plan_for-plan}
use Rattle.graft_model.specs.Setups.{Setup, ScriptStep, EvacuateStep, ScriptGraft, peering_numbers, group_of, graft_at}
use Rattle.graft_model.specs.Parts.{Gift, Unmade, To, Stays, OperatorPart, World}
use Rattle.graft_model.specs.Placements.{placement}
use Rattle.graft_model.specs.Evacuations.{peerings_at, loads_of, rooms_of, targets_from, AreGivenWell, gift_in}
use Rattle.graft_model.specs.Evacuations.{gift_of, gift_to, gift_by, gift_in_group, gift_or, with_gifts}
use Rattle.graft_model.specs.OperatorRows.{OperatorSent}
use Rattle.graft_model.specs.Steps.{ByOperator, Go, Step, operator_sends}

-- ---- as a group begins

or_unmade : (gift : Gift) → gift_or gift Unmade ≡ gift
or_unmade Unmade = refl
or_unmade (To target) = refl
or_unmade (Stays router) = refl

-- what the operator gives as a group begins
pub gives_as : (setup : Setup) (before after : World) → Step setup (ByOperator Go) before after
    → after.operator ≡ with_gifts setup (record before.operator { group = before.operator.group + 1 })
gives_as setup before after step =
    ap (λ (w : World). w.operator) step.is
    ∙ (ap (λ (sent : List OperatorSent). (fold operator_sends (record step.without { operator = step.part }) sent).operator) step.row.sends ∙ step.row.effect)

pub given_by_step : (setup : Setup) (part : OperatorPart) (g : ScriptGraft) (router : ℕ) → graft_at setup g.graft ≡ Some g → group_of setup g.step ≡ part.group
    → slice_get setup.steps g.step ≡ Some (EvacuateStep router) → part.given g.graft ≡ Unmade
    → (with_gifts setup part).given g.graft ≡ gift_to setup (placement setup part) router g.peering
given_by_step setup part g router known group step unmade =
    ap (λ (o : Option ScriptGraft). gift_or (gift_in_group setup part.group (placement setup part) o) (part.given g.graft)) known
    ∙ (ap (λ (b : Bool). gift_or (cond b (gift_by setup (placement setup part) (slice_get setup.steps g.step) g.peering) Unmade) (part.given g.graft))
    (eq-eqb _ _ group)
    ∙ (ap (λ (s : Option ScriptStep). gift_or (gift_by setup (placement setup part) s g.peering) (part.given g.graft)) step
    ∙ (ap (gift_or (gift_to setup (placement setup part) router g.peering)) unmade ∙ or_unmade _)))

pub given_stays : (setup : Setup) (part : OperatorPart) (g : ScriptGraft) → graft_at setup g.graft ≡ Some g → group_of setup g.step ≢ part.group
    → (with_gifts setup part).given g.graft ≡ part.given g.graft
given_stays setup part g known other =
    ap (λ (o : Option ScriptGraft). gift_or (gift_in_group setup part.group (placement setup part) o) (part.given g.graft)) known
    ∙ ap (λ (b : Bool). gift_or (cond b (gift_by setup (placement setup part) (slice_get setup.steps g.step) g.peering) Unmade) (part.given g.graft))
    (ne_eqb _ _ other)

-- ---- the peerings of a router

-- the numbers of a list rise, from a on
abbrev Rise : ℕ → List ℕ → Type 0
Rise a [] = Unit {0}
Rise a (p ∷ ps) = (a ≤ p) × Rise (p + 1) ps

rise_later : (a b : ℕ) (ps : List ℕ) → a ≤ b → Rise b ps → Rise a ps
rise_later a b [] le rise = tt
rise_later a b (p ∷ ps) le rise = (omega (arith, le, rise.0), rise.1)

filter_rises : (test : ℕ → Bool) (a n : ℕ) → Rise a (filter test (range_with_len a n))
filter_rises test a zero = tt
filter_rises test a (suc n) = elim (test a) as (λ b. Rise a (cond b (a ∷ filter test (range_with_len (a + 1) n)) (filter test (range_with_len (a + 1) n)))) [
  | true ↦ (omega arith, filter_rises test (a + 1) n)
  | false ↦ rise_later a (a + 1) _ (omega arith) (filter_rises test (a + 1) n)
]

rise_at : (a : ℕ) (ps : List ℕ) → Rise a ps → (i p : ℕ) → slice_get ps i ≡ Some p → a ≤ p
rise_at a [] rise i p at = absurd cc
rise_at a (q ∷ ps) rise zero p at = let e = same_Some q p at in omega (arith, e, rise.0)
rise_at a (q ∷ ps) rise (suc i) p at = let le = rise_at (q + 1) ps rise.1 i p at in omega (arith, le, rise.0)

-- what stands beside a peering
find_zip : (a : ℕ) (ps : List ℕ) (ts : TargetList) → Rise a ps → (i p : ℕ) (t : Option RouterId) → slice_get ps i ≡ Some p → slice_get ts i ≡ Some t
    → find (λ e. eqb e.0 p) (zip ps ts) ≡ Some (p, t)
find_zip a [] ts rise i p t at beside = absurd cc
find_zip a (q ∷ ps) [] rise i p t at beside = absurd cc
find_zip a (q ∷ ps) (u ∷ ts) rise zero p t at beside =
    let same : q ≡ p = same_Some q p at in
    let target : u ≡ t = same_Some u t beside in
    ap (λ (b : Bool). cond b (Some (q, u)) (find (λ e. eqb e.0 p) (zip ps ts))) (eq-eqb q p same)
    ∙ (ap (λ (z : ℕ). let v : Option (ℕ × Option RouterId) = Some (z, u) in v) same
    ∙ ap (λ (z : Option RouterId). let v : Option (ℕ × Option RouterId) = Some (p, z) in v) target)
find_zip a (q ∷ ps) (u ∷ ts) rise (suc i) p t at beside =
    let above = rise_at (q + 1) ps rise.1 i p at in
    let other : q ≢ p = omega (arith, above) in
    ap (λ (b : Bool). cond b (Some (q, u)) (find (λ e. eqb e.0 p) (zip ps ts))) (ne_eqb q p other) ∙ find_zip (q + 1) ps ts rise.1 i p t at beside

-- beside which nothing stands
zip_lacks : (test : ℕ → Bool) (ps : List ℕ) (p : ℕ) (ts : TargetList) → test p ≡ false → find (λ e. eqb e.0 p) (zip (filter test ps) ts) ≡ None
zip_lacks test [] p ts fails = refl
zip_lacks test (q ∷ ps) p ts fails = by_test (λ us. zip_lacks test ps p us fails) (test q) refl ts where
  by_test : ((us : TargetList) → find (λ e. eqb e.0 p) (zip (filter test ps) us) ≡ None)
      → (b : Bool) → test q ≡ b → (us : TargetList) → find (λ e. eqb e.0 p) (zip (cond b (q ∷ filter test ps) (filter test ps)) us) ≡ None
  by_test rest false is us = rest us
  by_test rest true is [] = refl
  by_test rest true is (u ∷ us) =
      let other : q ≢ p = λ same. (let e : test q ≡ test p = ap test same in let f : true ≡ false = sym is ∙ (e ∙ fails) in absurd cc) in
      ap (λ (b : Bool). cond b (Some (q, u)) (find (λ e. eqb e.0 p) (zip (filter test ps) us))) (ne_eqb q p other) ∙ rest us

pub gift_there : (setup : Setup) (placed : ℕ → ℕ) (router i p : ℕ) (target : Option RouterId) → slice_get (peerings_at setup placed router) i ≡ Some p
    → slice_get (targets_from setup placed router) i ≡ Some target → gift_to setup placed router p ≡ gift_in router target
gift_there setup placed router i p target at beside =
    ap (gift_of router) (find_zip 0 (peerings_at setup placed router) (targets_from setup placed router)
    (filter_rises (λ q. eqb (placed q) router) 0 (length setup.peerings)) i p target at beside)

pub gift_elsewhere : (setup : Setup) (placed : ℕ → ℕ) (router p : ℕ) → placed p ≢ router → gift_to setup placed router p ≡ Unmade
gift_elsewhere setup placed router p other =
    ap (gift_of router) (zip_lacks (λ q. eqb (placed q) router) (peering_numbers setup) p (targets_from setup placed router) (ne_eqb (placed p) router other))

-- ---- the plan

pub targets_plan : (setup : Setup) (placed : ℕ → ℕ) (router : ℕ)
    → Plan (rooms_of setup) router (loads_of setup placed) (length (peerings_at setup placed router)) (targets_from setup placed router)
targets_plan setup placed router = plan_for-plan (rooms_of setup) router (loads_of setup placed) (length (peerings_at setup placed router))

pub given_well : (setup : Setup) (placed : ℕ → ℕ) (router : ℕ) → AreGivenWell setup placed router
given_well setup placed router =
    let plan = targets_plan setup placed router in
    let rooms = rooms_of setup in
    let loads = loads_of setup placed in
    let count = length (peerings_at setup placed router) in
    let targets = targets_from setup placed router in record {
      each = length-plan rooms router loads count targets plan;
      room = KeepsRooms-plan rooms router loads count targets plan;
      as_many = number_given-plan rooms router loads count targets plan;
      least = AreAtMost-plan rooms router loads count targets plan;
    }
