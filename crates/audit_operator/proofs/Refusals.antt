-- Orders that the operator may not give.
use Rattle.std.proofs.Common.{◌≡◌, ℕ, ◌<◌, true, false, List, Option, Some, None, refl, sym, ap, ◌∙◌, subst, inl, inr, arith}
use Rattle.std.specs.Prelude.{slice_get}
use Rattle.std.specs.Option.{option_map}
use Rattle.std.proofs.lemmas.Option.{none-some, same_Some}
use Rattle.graft_edge.specs.declared.ids.PeeringId.{PeeringId}
use Rattle.graft_steps.specs.declared.log.GraftEntry.{GraftEntry}
use Rattle.graft_model.specs.Setups.{ScriptStep as StepOf, SayStep, ScriptGraft}
use Rattle.graft_model.specs.Parts.{OperatorPart}
use Rattle.graft_model.specs.OperatorRows.{OperatorSent, OrdersSay, OrdersGraft, number_by}
use Rattle.graft_model.specs.Placements.{target_by}
use Rattle.graft_model.specs.declared.event.OperatorEvent.TheVariants.{Order}
use Rattle.graft_model.proofs.Numbers.{numbers_rise, one_order}
use Rattle.operator_state.specs.declared.grafts.Move.{Move}
use Rattle.operator_state.specs.declared.grafts.Seat.{Seat}
use Rattle.operator_state.specs.declared.grafts.Slot.{Slot}
use Rattle.operator_state.specs.declared.grafts.Slot.TheVariants.{Made}
use Rattle.operator_state.specs.declared.groups.Task.{Task}
use Rattle.operator_state.specs.Keeps.{IsWaitingTask, NoneIsOpen}
use Rattle.operator_state.specs.Slots.{move_of, slot_at}
use Rattle.operator_state.specs.Tasks.{has_task, is_task}
use Rattle.operator_state.proofs.Issues.{waits_unissued}
use Rattle.operator_state.proofs.Lists.{compare, passes_at}
use Rattle.operator_state.proofs.Rests.{graft_task, none_is_open, say_task}
use Rattle.operator_state.proofs.TaskOrder.{task_names}
use Rattle.audit_ruling.specs.declared.ruling.Ruling.TheVariants.{Refused}
use Rattle.audit_operator.specs.Decides.{DecidesOperator}
use Rattle.audit_operator.specs.Parts.{OperatorStands, operator_part, operator_state}
use Rattle.audit_operator.specs.Tasks.{IsBehind, IsNamed, moves_in, says_in}
use Rattle.audit_operator.specs.declared.operator.AuditedOperator.{AuditedOperator}
use Rattle.audit_operator.proofs.Keeping.{refused}
use Rattle.audit_operator.proofs.Waiting.{HasGraft, comes_before, has_graft, it_is_there, it_waits, moves_entry, number_is, says_is, says_there}

-- the entry of a graft of this peering
peering_entry : (slot : Option Slot) (p : PeeringId) → option_map (λ (m : Move). m.peering) (move_of slot) ≡ Some p
    → (entry : GraftEntry) × (slot ≡ Some (Made entry)) × (entry.peering ≡ p)
peering_entry slot p e = by_move (move_of slot) refl e
  where
    by_move : (o : Option Move) → move_of slot ≡ o → option_map (λ (m : Move). m.peering) o ≡ Some p
        → (entry : GraftEntry) × (slot ≡ Some (Made entry)) × (entry.peering ≡ p)
    by_move None is f = absurd cc
    by_move (Some moves) is f =
        let r = moves_entry slot moves is in
        (r.0, r.1, ap (λ (m : Move). m.peering) r.2 ∙ same_Some moves.peering p f)

module _ (o : AuditedOperator) (k : OperatorStands o) (step number : ℕ) where
  -- no task is of this step and number
  pub none_named : ((index : ℕ) (task : Task) → ¬ IsNamed o step number index task) → DecidesOperator (Order step number) o Refused o
  none_named none = refused o k (Order step number) (λ sent after row. elim row [
    | inl say ↦
        named_by 0 (say_task (operator_state o) k.keeps step number sent after say)
        (say.alone ∙ sym (ap (λ (s : Option StepOf). number_by s 0) say.is))
    | inr graft ↦ named_by graft.graft.graft (graft_task (operator_state o) k.keeps step number sent after graft) graft.named
  ])
    where
      named_by : (graft : ℕ) → has_task o.tasks.items step graft ≡ true → number ≡ number_by (slice_get o.known.setup.steps step) graft → ⊥
      named_by graft there named =
          let r = passes_at (is_task step graft) o.tasks.items there in
          let names = task_names step graft r.1 r.3 in
          none r.0 r.1 (record {
            there = r.2;
            step_is = names.0;
            named = number_is o k step r.1 ∙ ap (number_by (slice_get o.known.setup.steps step)) names.1 ∙ sym named;
          })

  module _ (index : ℕ) (task : Task) (is : IsNamed o step number index task) where
    -- ---- a task that has a remote say something

    module _ (peering : PeeringId) (says : says_in o task ≡ Some peering) where
      -- its step has no graft
      no_graft : (sent : List OperatorSent) (after : OperatorPart) → ¬ OrdersGraft o.known.setup step number (operator_part o) None sent after
      no_graft sent after row =
          let said = says_there o k task peering says in
          let its_step : slice_get o.known.setup.steps row.graft.step ≡ Some (SayStep peering.0 said.0) =
          ap (slice_get o.known.setup.steps) (row.by_step ∙ sym is.step_is) ∙ said.1 in
          let e : None ≡ Some row.target = sym (ap (λ (s : Option StepOf). target_by s ((operator_part o).given row.graft.graft)) its_step) ∙ row.is in
          absurd cc

      -- the remote is to say something before
      pub say_waits_behind : IsBehind (says_in o) o index peering → DecidesOperator (Order step number) o Refused o
      say_waits_behind behind = refused o k (Order step number) (λ sent after row. elim row [
        | inl say ↦ too_early sent after say
        | inr graft ↦ no_graft sent after graft
      ])
        where
          own : (bytes : List ℕ) × (slice_get o.known.setup.steps task.step ≡ Some (SayStep peering.0 bytes))
          own = says_there o k task peering says

          other : (bytes : List ℕ) × (slice_get o.known.setup.steps behind.task.step ≡ Some (SayStep peering.0 bytes))
          other = says_there o k behind.task peering behind.same

          waits : IsWaitingTask o.known.setup o.group o.next behind.task
          waits = it_waits o k behind.earlier behind.task behind.there

          no_graft_there : behind.task.graft ≡ 0
          no_graft_there = waits.says peering.0 other.0 other.1

          earlier : behind.task.step < step
          earlier =
              let before = comes_before o k index task is.there behind.earlier behind.task behind.before behind.there in
              let le = before.step in
              let at = is.step_is in
              let mine : task.graft ≡ 0 = (it_waits o k index task is.there).says peering.0 own.0 own.1 in
              elim (compare behind.task.step task.step) [
                | inl l ↦ omega (arith, l, at)
                | inr (inl same) ↦ let l = before.graft same in absurd (omega (arith, l, mine))
                | inr (inr more) ↦ absurd (omega (arith, le, more))
              ]

          too_early : (sent : List OperatorSent) (after : OperatorPart) → ¬ OrdersSay o.known.setup step number (operator_part o) None sent after
          too_early sent after row =
              let same_step : Some (SayStep peering.0 own.0) ≡ Some (SayStep row.peering row.bytes) =
              sym own.1 ∙ ap (slice_get o.known.setup.steps) is.step_is ∙ row.is in
              let same_peering : peering.0 ≡ row.peering = cc in
              let issued = row.earlier behind.task.step other.0 earlier waits.group_is
              (other.1 ∙ ap (λ (p : ℕ). Some (SayStep p other.0)) same_peering) in
              let unissued = waits_unissued (operator_state o) behind.task.step
              (ap (has_task o.tasks.items behind.task.step) (sym no_graft_there) ∙ it_is_there o k behind.earlier behind.task behind.there) in
              let e : true ≡ false = sym issued ∙ unissued in
              absurd cc

    -- ---- a task that moves a session

    module _ (none : says_in o task ≡ None) (moves : Move) (made : move_of (slot_at o.slots.items task.graft) ≡ Some moves) where
      -- its step has no remote say anything
      no_say : (sent : List OperatorSent) (after : OperatorPart) → ¬ OrdersSay o.known.setup step number (operator_part o) None sent after
      no_say sent after row =
          let says : says_in o task ≡ Some (record { 0 = row.peering }) = says_is o k task row.peering row.bytes (ap (slice_get o.known.setup.steps) is.step_is ∙ row.is) in
          none-some _ (sym none ∙ says)

      its_entry : (entry : GraftEntry) × (slot_at o.slots.items task.graft ≡ Some (Made entry))
          × (record { peering = entry.peering; target = entry.target } ≡ moves)
      its_entry = moves_entry (slot_at o.slots.items task.graft) moves made

      own : HasGraft o k index task is.there its_entry.0
      own = has_graft o k index task is.there its_entry.0 its_entry.1

      -- an order of this number is of its graft
      module _ (sent : List OperatorSent) (after : OperatorPart) (row : OrdersGraft o.known.setup step number (operator_part o) None sent after) where
        same_graft : row.graft ≡ own.graft
        same_graft = one_order o.known.setup row.graft own.graft row.known own.known (row.by_step ∙ sym is.step_is ∙ sym own.step)
            (ap (λ (n : ℕ). number_by (slice_get o.known.setup.steps n) row.graft.graft) row.by_step ∙ sym row.named ∙ sym is.named
            ∙ number_is o k step task ∙ ap (λ (n : ℕ). number_by (slice_get o.known.setup.steps n) task.graft) (sym is.step_is ∙ sym own.step)
            ∙ ap (number_by (slice_get o.known.setup.steps own.graft.step)) (sym own.numbered))

        same_peering : moves.peering.0 ≡ row.graft.peering
        same_peering = sym (ap (λ (m : Move). m.peering.0) its_entry.2) ∙ own.peering ∙ sym (ap (λ (g : ScriptGraft). g.peering) same_graft)

      -- the session is on the move
      pub graft_waits_for_end : (seat : Seat) → slice_get o.seats.items moves.peering.0 ≡ Some seat → seat.moving ≡ true
          → DecidesOperator (Order step number) o Refused o
      graft_waits_for_end seat seated moving = refused o k (Order step number) (λ sent after row. elim row [
        | inl say ↦ no_say sent after say
        | inr graft ↦
            let still = (k.keeps.seats.each moves.peering.0 seat seated).still.1
            (subst (NoneIsOpen o.slots.items) (sym (same_peering sent after graft))
            (none_is_open (operator_state o) k.keeps step number sent after graft)) in
            let e : true ≡ false = sym moving ∙ still in
            absurd cc
      ])

      -- a graft of the peering waits before it
      pub graft_waits_behind : IsBehind (moves_in o) o index moves.peering → DecidesOperator (Order step number) o Refused o
      graft_waits_behind behind = refused o k (Order step number) (λ sent after row. elim row [
        | inl say ↦ no_say sent after say
        | inr graft ↦ too_early sent after graft
      ])
        where
          entry : (entry : GraftEntry) × (slot_at o.slots.items behind.task.graft ≡ Some (Made entry)) × (entry.peering ≡ moves.peering)
          entry = peering_entry (slot_at o.slots.items behind.task.graft) moves.peering behind.same

          other : HasGraft o k behind.earlier behind.task behind.there entry.0
          other = has_graft o k behind.earlier behind.task behind.there entry.0 entry.1

          lower : other.graft.graft < own.graft.graft
          lower =
              let before = comes_before o k index task is.there behind.earlier behind.task behind.before behind.there in
              let le = before.step in
              let there = other.step in
              let here = own.step in
              elim (compare other.graft.step own.graft.step) [
                | inl l ↦ numbers_rise o.known.setup other.graft own.graft other.known own.known l
                | inr (inl same) ↦
                    let l = before.graft (sym there ∙ same ∙ here) in
                    let m = other.numbered in
                    let n = own.numbered in
                    omega (arith, l, m, n)
                | inr (inr more) ↦ absurd (omega (arith, le, there, here, more))
              ]

          too_early : (sent : List OperatorSent) (after : OperatorPart) → ¬ OrdersGraft o.known.setup step number (operator_part o) None sent after
          too_early sent after row =
              let of_peering : other.graft.peering ≡ row.graft.peering =
              sym other.peering ∙ ap (λ (p : PeeringId). p.0) entry.2 ∙ same_peering sent after row in
              row.earlier other.graft other.known of_peering
              (subst (λ (g : ScriptGraft). other.graft.graft < g.graft) (sym (same_graft sent after row)) lower) other.made other.unended
