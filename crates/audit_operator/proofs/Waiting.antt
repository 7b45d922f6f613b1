-- The tasks that wait: what they are for.
use Rattle.std.proofs.Common.{◌≡◌, ℕ, zero, suc, ◌+◌, ◌<◌, true, List, ◌∷◌, ◌++◌, length, take, drop, Option, Some, None}
use Rattle.std.proofs.Common.{refl, sym, ap, ◌∙◌, subst, arith}
use Rattle.std.specs.Prelude.{◌≢◌, slice_get}
use Rattle.std.specs.Option.{option_map}
use Rattle.std.proofs.lemmas.Option.{none-some, same_Some}
use Rattle.graft_edge.specs.declared.ids.PeeringId.{PeeringId}
use Rattle.graft_steps.specs.declared.log.GraftEntry.{GraftEntry}
use Rattle.graft_model.specs.Setups.{ScriptStep as StepOf, SayStep, MoveStep, EvacuateStep, SettleStep, ScriptGraft, graft_at, group_of}
use Rattle.graft_model.specs.OperatorRows.{number_by}
use Rattle.graft_model.specs.Placements.{target_in}
use Rattle.actor_configs.specs.declared.script.ScriptStep.{ScriptStep}
use Rattle.actor_configs.specs.declared.script.ScriptStep.TheVariants.{Say}
use Rattle.actor_configs.specs.Scripts.{step_for}
use Rattle.operator_state.specs.declared.grafts.Move.{Move}
use Rattle.operator_state.specs.declared.grafts.Slot.{Slot}
use Rattle.operator_state.specs.declared.grafts.Slot.TheVariants.{Made}
use Rattle.operator_state.specs.declared.groups.Task.{Task}
use Rattle.operator_state.specs.Grafts.{is_waiting}
use Rattle.operator_state.specs.Slots.{slot_at, move_of, outcome_in}
use Rattle.operator_state.specs.Tasks.{has_task}
use Rattle.operator_state.specs.Keeps.{IsGraftTask, IsWaitingTask, Precedes, Rises}
use Rattle.operator_state.proofs.Issues.{made_there, waits, task_waits, waits_for_graft}
use Rattle.operator_state.proofs.Lists.{all_at, before_there, split_there, there_is}
use Rattle.operator_state.proofs.Rests.{entry_made}
use Rattle.operator_state.proofs.SlotLaws.{graft_there, number, own_outcome, owner, peering_there, waiting_has_no_outcome}
use Rattle.operator_state.proofs.Steps.{say_there, step_at}
use Rattle.operator_state.proofs.TaskOrder.{precede}
use Rattle.audit_operator.specs.Parts.{OperatorStands, operator_part, operator_state}
use Rattle.audit_operator.specs.Tasks.{number_for, said_by_step, says_in}
use Rattle.audit_operator.specs.declared.operator.AuditedOperator.{AuditedOperator}

-- ---- steps

number_alike : (step : Option StepOf) (task : Task) → number_for (option_map step_for step) task ≡ number_by step task.graft
number_alike (Some (EvacuateStep router)) task = refl
number_alike step task = refl

say_is : (step : Option ScriptStep) (p : PeeringId) → said_by_step step ≡ Some p → step ≡ Some (Say p)
say_is (Some (Say q)) p e = ap (λ (x : PeeringId). Some (Say x)) (same_Some q p e)
say_is step p e = absurd cc

-- the entry of a graft that moves a session
pub moves_entry : (o : Option Slot) (moves : Move) → move_of o ≡ Some moves
    → (entry : GraftEntry) × (o ≡ Some (Made entry)) × (record { peering = entry.peering; target = entry.target } ≡ moves)
moves_entry (Some (Made entry)) moves e = (entry, refl, same_Some (record { peering = entry.peering; target = entry.target }) moves e)
moves_entry o moves e = absurd cc

module _ (o : AuditedOperator) (k : OperatorStands o) where
  -- the number by which an order names a task, as the laboratory has it
  pub number_is : (n : ℕ) (task : Task) → number_for (slice_get o.script.steps n) task ≡ number_by (slice_get o.known.setup.steps n) task.graft
  number_is n task = ap (λ (x : Option ScriptStep). number_for x task) (step_at o.known.setup o.script k.script n)
      ∙ number_alike (slice_get o.known.setup.steps n) task

  -- the remote that a task has say something
  pub says_is : (task : Task) (p : ℕ) (bytes : List ℕ) → slice_get o.known.setup.steps task.step ≡ Some (SayStep p bytes)
      → says_in o task ≡ Some (record { 0 = p })
  says_is task p bytes is = ap said_by_step (step_at o.known.setup o.script k.script task.step ∙ ap (option_map step_for) is)

  pub says_there : (task : Task) (p : PeeringId) → says_in o task ≡ Some p
      → (bytes : List ℕ) × (slice_get o.known.setup.steps task.step ≡ Some (SayStep p.0 bytes))
  says_there task p e = say_there o.known.setup o.script k.script task.step p (say_is (slice_get o.script.steps task.step) p e)

  -- ---- a task at an index

  module _ (index : ℕ) (task : Task) (there : slice_get o.tasks.items index ≡ Some task) where
    pub split : o.tasks.items ≡ take index o.tasks.items ++ task ∷ drop (suc index) o.tasks.items
    split = split_there o.tasks.items index task there

    pub it_waits : IsWaitingTask o.known.setup o.group o.next task
    it_waits = waits (operator_state o) k.keeps (take index o.tasks.items) (drop (suc index) o.tasks.items) task split

    pub it_is_there : has_task o.tasks.items task.step task.graft ≡ true
    it_is_there = task_waits (operator_state o) k.keeps (take index o.tasks.items) (drop (suc index) o.tasks.items) task split

    -- those before it come before it
    pub comes_before : (j : ℕ) (other : Task) → j < index → slice_get o.tasks.items j ≡ Some other → Precedes other task
    comes_before j other l at = all_at (λ (x : Task). Precedes x task) (take index o.tasks.items) j other
        (precede (take index o.tasks.items) task (drop (suc index) o.tasks.items) (subst Rises split k.keeps.rising))
        (before_there o.tasks.items index j other l at)

    -- a task that has no remote say anything is for a graft of its step
    pub of_step : says_in o task ≡ None → IsGraftTask o.known.setup task
    of_step none = by_step found.0 found.1
      where
        found : (step : StepOf) × (slice_get o.known.setup.steps task.step ≡ Some step)
        found = there_is o.known.setup.steps task.step (let l = it_waits.before in let m = k.keeps.ends.within in omega (arith, l, m))

        by_step : (step : StepOf) → slice_get o.known.setup.steps task.step ≡ Some step → IsGraftTask o.known.setup task
        by_step (SayStep p bytes) e = absurd (none-some _ (sym none ∙ says_is task p bytes e))
        by_step (MoveStep p target) e = it_waits.moves p target e
        by_step (EvacuateStep router) e = it_waits.evacuates router e
        by_step SettleStep e = absurd (it_waits.issuable e)

    -- its graft moves a session
    pub has_moves : says_in o task ≡ None → move_of (slot_at o.slots.items task.graft) ≡ None → ⊥
    has_moves none unmade =
        let made = made_there (operator_state o) k.keeps (take index o.tasks.items) (drop (suc index) o.tasks.items) task split (of_step none) in
        none-some made.0 (sym unmade ∙ made.1)

    -- The graft of the task has this entry.
    pub record HasGraft (entry : GraftEntry) : Type 0 where
      pub index_of : ℕ
      pub follows : index_of + 1 ≡ task.graft
      pub at : slice_get o.slots.items index_of ≡ Some (Made entry)
      pub graft : ScriptGraft
      pub known : graft_at o.known.setup graft.graft ≡ Some graft
      pub numbered : graft.graft ≡ task.graft
      pub step : graft.step ≡ task.step
      pub peering : entry.peering.0 ≡ graft.peering
      pub made : target_in o.known.setup (operator_part o) graft ≢ None
      pub unended : outcome_in o.slots.items graft.graft ≡ None

    pub has_graft : (entry : GraftEntry) → slot_at o.slots.items task.graft ≡ Some (Made entry) → HasGraft entry
    has_graft entry is = by_number task.graft refl is
      where
        by_number : (n : ℕ) → task.graft ≡ n → slot_at o.slots.items n ≡ Some (Made entry) → HasGraft entry
        by_number zero e f = absurd cc
        by_number (suc i) e f =
            let own = owner o.known.setup o.group o.tasks.items o.slots.items k.keeps.slots i (Made entry) f in
            let n : own.graft.graft ≡ i + 1 = number o.known.setup o.slots.items i own.graft own.index in
            let same : own.graft.graft ≡ task.graft = omega (arith, n, e) in
            let known = graft_there o.known.setup i own.graft own.index in
            let its_step : IsGraftTask o.known.setup task = waits_for_graft (operator_state o) k.keeps task it_waits (λ none. omega (arith, none, e)) in
            let step : own.graft.step ≡ task.step = same_Some own.graft.step task.step
            (sym (ap (option_map (λ (g : ScriptGraft). g.step)) (sym (ap (graft_at o.known.setup) same) ∙ known)) ∙ its_step) in
            let group : group_of o.known.setup own.graft.step ≡ o.group = ap (group_of o.known.setup) step ∙ it_waits.group_is in
            let unordered : is_waiting entry.stage ≡ true = own.is.now group ∙ ap (has_task o.tasks.items own.graft.step) same
            ∙ ap (λ (m : ℕ). has_task o.tasks.items m task.graft) step ∙ it_is_there in
            record {
              index_of = i;
              follows = omega (arith, e);
              at = f;
              graft = own.graft;
              known = known;
              numbered = same;
              step = step;
              peering = (own.is.fits.made entry refl).peering;
              made = entry_made (operator_state o) k.keeps i own.graft entry own.index f own.is;
              unended = own_outcome o.known.setup o.slots.items i own.graft own.index entry f ∙ waiting_has_no_outcome entry.stage unordered;
            }

    -- its peering has a seat
    pub has_seat : (moves : Move) → move_of (slot_at o.slots.items task.graft) ≡ Some moves → moves.peering.0 < length o.seats.items
    has_seat moves made =
        let r = moves_entry (slot_at o.slots.items task.graft) moves made in
        let own = has_graft r.0 r.1 in
        let within = peering_there o.known.setup k.keeps.sound own.graft own.known in
        let same = ap (λ (m : Move). m.peering.0) r.2 in
        let peering = own.peering in
        let all = k.keeps.seats.all in
        omega (arith, within, same, peering, all)
