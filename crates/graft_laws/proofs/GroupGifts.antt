-- What grafts are given as their groups begin, along a run.
use Rattle.std.proofs.Common.{◌≡◌, ℕ, ◌+◌, ◌<◌, List, Option, Some, None, refl, sym, ap, ◌∙◌, subst, arith, inl, inr}
use Rattle.std.proofs.lemmas.Bool.{cases_eq}
use Rattle.std.proofs.Math.Path.{fun_ext}
use Rattle.std.specs.Prelude.{◌≢◌, ◌⊎◌, slice_get}
use Rattle.graft_model.specs.Setups.{Setup, EvacuateStep, ScriptGraft, group_of, graft_at}
use Rattle.graft_model.specs.Parts.{Gift, Unmade, OperatorPart, World}
use Rattle.graft_model.specs.Placements.{target_by, target_in, placement}
use Rattle.graft_model.specs.Evacuations.{gift_to, GivesByPlan, with_gifts}
use Rattle.graft_model.specs.OperatorRows.{OperatorTaken, OperatorSent}
use Rattle.graft_model.specs.First.{first_operator}
use Rattle.graft_model.specs.Quiet.{Quiet}
use Rattle.graft_model.specs.declared.event.OperatorEvent.{OperatorEvent}
use Rattle.graft_model.specs.declared.event.OperatorEvent.TheVariants.{Order, Note, Go}
use Rattle.graft_model.specs.Steps.{Event, ByRouter, ByFar, ByOperator, Step, OperatorStep, operator_row, MayMake}
use Rattle.graft_model.proofs.Gifts.{gives_as, given_by_step, given_stays, given_well}
use Rattle.graft_laws.specs.Keeps.{Reached}
use Rattle.graft_laws.proofs.Moves.{router_moves, far_moves, operator_moves}
use Rattle.graft_laws.proofs.Placements.{placed_first}
use Rattle.graft_laws.proofs.Growth.{LogGrows, row_grows}
use Rattle.graft_laws.proofs.First.{ungiven}
use Rattle.graft_laws.proofs.Runs.{carried}

-- A property of the operator that each of its events keeps holds along every run.
pub always_operator : (setup : Setup) (P : OperatorPart → Type 0) → P (first_operator setup)
    → ((event : OperatorEvent) (before after : World) → Reached setup before → OperatorStep setup event before after → P before.operator → P after.operator)
    → (w : World) → Reached setup w → P w.operator
always_operator setup P first keeps = carried setup (λ w. P w.operator) first each where
  each : (event : Event) (before after : World) → Reached setup before → Step setup event before after → P before.operator → P after.operator
  each (ByRouter r event) before after reached x was = subst P (sym (router_moves setup r event before after x).operator) was
  each (ByFar p event) before after reached x was = subst P (sym (far_moves setup p event before after x).operator) was
  each (ByOperator event) before after reached x was = keeps event before after reached x was

-- ---- grafts of groups that haven't begun

abbrev LaterUngiven : Setup → OperatorPart → Type 0
LaterUngiven setup operator = (g : ScriptGraft) → graft_at setup g.graft ≡ Some g → operator.group < group_of setup g.step → operator.given g.graft ≡ Unmade

later_still : (setup : Setup) (event : OperatorEvent) (before after : OperatorPart) (taken : Option OperatorTaken) (sent : List OperatorSent)
    → operator_row setup event before taken sent after
    → LaterUngiven setup before → LaterUngiven setup after
later_still setup (Order n number) before after taken sent (inl row) was = subst (LaterUngiven setup) (sym row.effect) was
later_still setup (Order n number) before after taken sent (inr row) was = subst (LaterUngiven setup) (sym row.effect) was
later_still setup (Note r) before after taken sent row was = subst (LaterUngiven setup) (sym row.effect) was
later_still setup Go before after taken sent row was = subst (LaterUngiven setup) (sym row.effect) (λ g known later.
    given_stays setup (record before { group = before.group + 1 }) g known (λ (same : group_of setup g.step ≡ before.group + 1). omega arith)
    ∙ was g known (omega arith))

pub later_ungiven : (setup : Setup) (w : World) → Reached setup w → LaterUngiven setup w.operator
later_ungiven setup = always_operator setup (LaterUngiven setup)
    (λ g known later. given_stays setup ungiven g known (λ (same : group_of setup g.step ≡ 0). omega arith))
    (λ event before after reached x was. subst (LaterUngiven setup) (sym (operator_moves setup event before after x).operator)
    (later_still setup event before.operator x.part x.taken x.sent x.row was))

-- ---- as a group begins

pub go_gives : (setup : Setup) (before after : World) (step router : ℕ) → Reached setup before → Step setup (ByOperator Go) before after
    → slice_get setup.steps step ≡ Some (EvacuateStep router)
    → group_of setup step ≡ after.operator.group → GivesByPlan setup before.operator after.operator step router
go_gives setup before after step router reached x there group = record {
  given = λ g known by.
      let in_group : group_of setup g.step ≡ before.operator.group + 1 = ap (group_of setup) by ∙ (group ∙ ap (λ (o : OperatorPart). o.group) is) in
      ap (λ (o : OperatorPart). o.given g.graft) is
      ∙ given_by_step setup next g router known in_group (ap (slice_get setup.steps) by ∙ there) (later_ungiven setup before reached g known (omega arith));
  well = given_well setup (placement setup before.operator) router;
} where
  next : OperatorPart
  next = record before.operator { group = before.operator.group + 1 }

  is : after.operator ≡ with_gifts setup next
  is = gives_as setup before after x

pub first_gives : (setup : Setup) (step router : ℕ) → slice_get setup.steps step ≡ Some (EvacuateStep router) → group_of setup step ≡ 0
    → GivesByPlan setup (first_operator setup) (first_operator setup) step router
first_gives setup step router there group = record {
  given = λ g known by.
      given_by_step setup ungiven g router known (ap (group_of setup) by ∙ group) (ap (slice_get setup.steps) by ∙ there) refl
      ∙ ap (λ (placed : ℕ → ℕ). gift_to setup placed router g.peering)
      (fun_ext (λ p. placed_first setup ungiven p (λ k. refl) ∙ sym (placed_first setup (first_operator setup) p (λ k. refl))));
  well = given_well setup (placement setup (first_operator setup)) router;
}

-- ---- once a group is over

-- Each graft with a target has its outcome, where its group is over.
abbrev OverEnded : Setup → OperatorPart → Type 0
OverEnded setup operator = (g : ScriptGraft) → graft_at setup g.graft ≡ Some g → group_of setup g.step < operator.group
    → target_in setup operator g ≢ None → operator.outcome g.graft ≢ None

over_still : (setup : Setup) (event : OperatorEvent) (before after : World) (x : OperatorStep setup event before after)
    → OverEnded setup before.operator → OverEnded setup x.part
over_still setup event before after x was = by_row event x.may x.row where
  grows : (event : OperatorEvent) → operator_row setup event before.operator x.taken x.sent x.part → LogGrows before.operator x.part
  grows event row = row_grows setup event before.operator x.part x.taken x.sent row

  -- where the group and the gifts stay
  alike : LogGrows before.operator x.part → x.part.group ≡ before.operator.group → x.part.given ≡ before.operator.given → OverEnded setup x.part
  alike log group given g known over made =
      log.outcome g.graft
      (was g known (omega (arith, over, group)) (λ none. made (ap (λ (f : ℕ → Gift). target_by (slice_get setup.steps g.step) (f g.graft)) given ∙ none)))

  begins : Quiet setup before → OverEnded setup (with_gifts setup (record before.operator { group = before.operator.group + 1 }))
  begins quiet g known over made = by_group (cases_eq (group_of setup g.step) before.operator.group) where
    same : target_in setup before.operator g ≢ None
    same none = made (ap (λ (gift : Gift). target_by (slice_get setup.steps g.step) gift)
        (given_stays setup (record before.operator { group = before.operator.group + 1 }) g known
        (λ (e : group_of setup g.step ≡ before.operator.group + 1). omega arith))
        ∙ none)

    by_group : (group_of setup g.step ≡ before.operator.group) ⊎ (group_of setup g.step ≢ before.operator.group) → before.operator.outcome g.graft ≢ None
    by_group (inl at_work) = quiet.ended g known at_work same
    by_group (inr other) = was g known (omega arith) same

  by_row : (event : OperatorEvent) → MayMake setup event before → operator_row setup event before.operator x.taken x.sent x.part → OverEnded setup x.part
  by_row (Order n number) may (inl row) =
      alike (grows (Order n number) (inl row)) (ap (λ (o : OperatorPart). o.group) row.effect) (ap (λ (o : OperatorPart). o.given) row.effect)
  by_row (Order n number) may (inr row) =
      alike (grows (Order n number) (inr row)) (ap (λ (o : OperatorPart). o.group) row.effect) (ap (λ (o : OperatorPart). o.given) row.effect)
  by_row (Note r) may row = alike (grows (Note r) row) (ap (λ (o : OperatorPart). o.group) row.effect) (ap (λ (o : OperatorPart). o.given) row.effect)
  by_row Go may row = subst (OverEnded setup) (sym row.effect) (begins may)

pub over_ended : (setup : Setup) (w : World) → Reached setup w → OverEnded setup w.operator
over_ended setup = always_operator setup (OverEnded setup)
    (λ g known over made. absurd (omega arith))
    (λ event before after reached x was.
    subst (OverEnded setup) (sym (operator_moves setup event before after x).operator) (over_still setup event before after x was))
