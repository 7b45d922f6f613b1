-- Orders that the operator gives.
use Rattle.std.proofs.Common.{◌≡◌, ℕ, suc, ◌+◌, false, List, [], ◌∷◌, ◌++◌, length, take, drop, Option, Some, None, refl, sym, ap, ◌∙◌, subst, inl, inr}
use Rattle.std.specs.Prelude.{slice_get}
use Rattle.std.specs.List.{AllByRecursion, remove}
use Rattle.std.specs.Option.{option_map}
use Rattle.std.proofs.lemmas.Option.{same_Some}
use Rattle.graft_edge.specs.declared.ids.PeeringId.{PeeringId}
use Rattle.graft_edge.specs.declared.ids.RouterId.{RouterId}
use Rattle.graft_steps.specs.declared.item.Item.TheVariants as items
use Rattle.graft_model.specs.Setups.{ScriptStep as StepOf, SayStep}
use Rattle.graft_model.specs.OperatorRows.{OrderTo, SayTo, OrdersSay, OrdersGraft, number_by}
use Rattle.graft_model.specs.declared.event.OperatorEvent.TheVariants.{Order}
use Rattle.graft_actors.specs.Actors.{StepItem}
use Rattle.operator_state.specs.declared.grafts.Move.{Move}
use Rattle.operator_state.specs.declared.grafts.Seat.{Seat}
use Rattle.operator_state.specs.declared.grafts.Slot.{Slot}
use Rattle.operator_state.specs.declared.groups.Task.{Task}
use Rattle.operator_state.specs.Issues.{LetsGraft, LetsSay, graft_issued, waiting_are}
use Rattle.operator_state.specs.Keeps.{IsGraftTask}
use Rattle.operator_state.specs.Slots.{move_of, moved_by_entry, slot_at}
use Rattle.operator_state.specs.States.{part_of_state}
use Rattle.operator_state.proofs.Issues.{graft_keeps, graft_row, say_keeps, say_row}
use Rattle.operator_state.proofs.Lists.{all_append, all_append_left, all_append_right, all_before, one_member}
use Rattle.operator_state.proofs.SlotLaws.{slot_next}
use Rattle.operator_state.proofs.Steps.{as_many_routers}
use Rattle.audit_ruling.specs.declared.ruling.Ruling.TheVariants.{Sends}
use Rattle.audit_operator.specs.Decides.{DecidesOperator}
use Rattle.audit_operator.specs.Opens.{IsSteady, IssuesGraft}
use Rattle.audit_operator.specs.Parts.{OperatorStands, operator_part, operator_state}
use Rattle.audit_operator.specs.Tasks.{IsBehind, IsNamed, moves_in, says_in}
use Rattle.audit_operator.specs.declared.operator.AuditedOperator.{AuditedOperator}
use Rattle.audit_operator.proofs.Keeping.{NoneIssued, sends}
use Rattle.audit_operator.proofs.Waiting.{number_is, of_step, says_is, says_there, split}

module _ (o p : AuditedOperator) (k : OperatorStands o) (same : IsSteady o p) (step number index : ℕ) (task : Task)
    (is : IsNamed o step number index task) where
  abbrev kept : List Task
  kept = take index o.tasks.items

  abbrev rest : List Task
  rest = drop (suc index) o.tasks.items

  none_issued : NoneIssued (kept ++ rest)
  none_issued =
      let all : NoneIssued (kept ++ task ∷ rest) = subst NoneIssued (split o k index task is.there) k.unissued in
      all_append (λ (x : Task). x.issued ≡ false) kept rest (all_append_left (λ (x : Task). x.issued ≡ false) kept (task ∷ rest) all)
      (all_append_right (λ (x : Task). x.issued ≡ false) kept (task ∷ rest) all).1

  -- ---- a remote is to say something

  module _ (peering : PeeringId) (says : says_in o task ≡ Some peering) (free : ¬ IsBehind (says_in o) o index peering)
      (state_is : operator_state p ≡ waiting_are (operator_state o) (remove o.tasks.items index)) where
    said : (bytes : List ℕ) × (slice_get o.known.setup.steps task.step ≡ Some (SayStep peering.0 bytes))
    said = says_there o k task peering says

    none_before : AllByRecursion (LetsSay (operator_state o) peering.0) kept
    none_before = all_before (LetsSay (operator_state o) peering.0) o.tasks.items index (λ j other l at bytes e none.
        free (record { earlier = j; before = l; task = other; there = at; same = says_is o k other peering.0 bytes e }))

    alone : 0 ≡ number
    alone = sym (ap (λ (s : Option StepOf). number_by s task.graft) (ap (slice_get o.known.setup.steps) (sym is.step_is) ∙ said.1))
        ∙ sym (number_is o k step task) ∙ is.named

    say_row_is : OrdersSay o.known.setup step number (operator_part o) None (SayTo peering.0 step ∷ [])
        (part_of_state (waiting_are (operator_state o) (kept ++ rest)))
    say_row_is = subst (λ (n : ℕ). OrdersSay o.known.setup n number (operator_part o) None (SayTo peering.0 n ∷ [])
        (part_of_state (waiting_are (operator_state o) (kept ++ rest)))) is.step_is
        (subst (λ (m : ℕ). OrdersSay o.known.setup task.step m (operator_part o) None (SayTo peering.0 task.step ∷ [])
        (part_of_state (waiting_are (operator_state o) (kept ++ rest)))) alone
        (say_row (operator_state o) k.keeps kept rest task (split o k index task is.there) peering.0 said.0 said.1 none_before))

    pub say_ordered : (to : ℕ) → to ≡ length o.script.rooms + peering.0 → DecidesOperator (Order step number) o (Sends to (items.SayOrder task.step)) p
    say_ordered to to_is = sends o p k same (waiting_are (operator_state o) (kept ++ rest)) state_is none_issued
        (say_keeps (operator_state o) k.keeps kept rest task (split o k index task is.there) peering.0 said.0 said.1)
        (Order step number) to (items.SayOrder task.step) (SayTo peering.0 step) (inl say_row_is)
        (λ i. ((to_is ∙ ap (λ (n : ℕ). n + peering.0) (as_many_routers o.known.setup o.script k.script)) i, StepItem (is.step_is i)))
        (k.keeps.sound.says task.step peering.0 said.0 said.1) tt

  -- ---- a graft is ordered

  module _ (none : says_in o task ≡ None) (moves : Move) (made : move_of (slot_at o.slots.items task.graft) ≡ Some moves)
      (seat : Seat) (seated : slice_get o.seats.items moves.peering.0 ≡ Some seat) (still : seat.moving ≡ false)
      (free : ¬ IsBehind (moves_in o) o index moves.peering) (mid : AuditedOperator) (router : RouterId) (issued : IssuesGraft o task mid router)
      (state_is : operator_state p ≡ waiting_are (operator_state mid) (remove mid.tasks.items index)) where
    -- the entry is that of what the graft moves
    names : moved_by_entry issued.entry ≡ moves
    names = same_Some (moved_by_entry issued.entry) moves
        (sym (ap move_of (ap (slot_at o.slots.items) (sym issued.is_index) ∙ slot_next o.slots.items issued.index ∙ issued.there)) ∙ made)

    still_too : issued.seat.moving ≡ false
    still_too = ap (λ (x : Seat). x.moving) (one_member (slice_get o.seats.items moves.peering.0) issued.seat seat
        (ap (λ (m : Move). slice_get o.seats.items m.peering.0) (sym names) ∙ issued.seated) seated) ∙ still

    state_then : operator_state p ≡ waiting_are (graft_issued (operator_state o) issued.index issued.entry issued.seat) (kept ++ rest)
    state_then = state_is ∙ (λ i. waiting_are (issued.changes i) (remove (issued.tasks i) index))

    others_before : AllByRecursion (LetsGraft (operator_state o) issued.entry.peering.0) kept
    others_before = all_before (LetsGraft (operator_state o) issued.entry.peering.0) o.tasks.items index (λ j other l at one one_is same.
        free (record {
          earlier = j;
          before = l;
          task = other;
          there = at;
          same = ap (λ (slot : Option Slot). option_map (λ (m : Move). m.peering) (move_of slot)) one_is
              ∙ ap (λ (n : ℕ). let id : PeeringId = record { 0 = n } in Some id) same ∙ ap (λ (m : Move). Some m.peering) names;
        }))

    its_step : IsGraftTask o.known.setup task
    its_step = of_step o k index task is.there none

    entry_ordered : DecidesOperator (Order step number) o (Sends issued.seat.place.0 (items.GraftOrder task.graft issued.entry.peering issued.entry.target)) p
    entry_ordered = sends o p k same (waiting_are (graft_issued (operator_state o) issued.index issued.entry issued.seat) (kept ++ rest)) state_then none_issued
        (graft_keeps (operator_state o) k.keeps kept rest task (split o k index task is.there) its_step
        issued.index issued.is_index issued.entry issued.there issued.seat issued.seated still_too others_before)
        (Order step number) issued.seat.place.0 (items.GraftOrder task.graft issued.entry.peering issued.entry.target)
        (OrderTo issued.seat.place.0 (record { graft = task.graft; peering = issued.entry.peering.0; target = issued.entry.target.0 }))
        (inr (subst (λ (n : ℕ). OrdersGraft o.known.setup n number (operator_part o) None
        (OrderTo issued.seat.place.0 (record { graft = task.graft; peering = issued.entry.peering.0; target = issued.entry.target.0 }) ∷ [])
        (part_of_state (waiting_are (graft_issued (operator_state o) issued.index issued.entry issued.seat) (kept ++ rest)))) is.step_is
        (graft_row (operator_state o) k.keeps kept rest task (split o k index task is.there) its_step
        issued.index issued.is_index issued.entry issued.there issued.seat issued.seated still_too others_before number
        (sym is.named ∙ number_is o k step task ∙ ap (λ (n : ℕ). number_by (slice_get o.known.setup.steps n) task.graft) (sym is.step_is)))))
        refl (k.keeps.seats.each issued.entry.peering.0 issued.seat issued.seated).there tt

    pub graft_ordered : (to : ℕ) → to ≡ router.0
        → DecidesOperator (Order step number) o (Sends to (items.GraftOrder task.graft moves.peering moves.target)) p
    graft_ordered to to_is = subst (λ (n : ℕ). DecidesOperator (Order step number) o (Sends n (items.GraftOrder task.graft moves.peering moves.target)) p)
        (sym (to_is ∙ ap (λ (r : RouterId). r.0) issued.router_is))
        (subst (λ (m : Move). DecidesOperator (Order step number) o (Sends issued.seat.place.0 (items.GraftOrder task.graft m.peering m.target)) p)
        names entry_ordered)
