-- Whether the next group may begin.
use Rattle.std.proofs.Common.{◌≡◌, ℕ, ◌+◌, ◌-◌, ◌<◌, true, false, List, [], length, Option, Some, None, sym, ap, ◌∙◌, inl, inr, arith}
use Rattle.std.specs.Prelude.{◌≢◌, slice_get, filter, is_some}
use Rattle.std.proofs.Math.Seq.{take-length}
use Rattle.std.proofs.lemmas.Option.{slice_get_within}
use Rattle.graft_model.specs.Setups.{Setup, ScriptStep, SettleStep, is_settle, group_of, groups_in}
use Rattle.actor_configs.specs.Scripts.{IsScriptOf}
use Rattle.actor_configs.specs.declared.script.Script.{Script}
use Rattle.actor_configs.specs.declared.script.ScriptStep.TheVariants.{Settle}
use Rattle.operator_state.specs.Slots.{first_open}
use Rattle.operator_state.specs.States.{State, part_of_state}
use Rattle.operator_state.specs.Keeps.{OperatorInvariant}
use Rattle.operator_state.specs.Holds.{IsHeldUp}
use Rattle.operator_state.proofs.Lists.{compare}
use Rattle.operator_state.proofs.Scripts.{groups_rise, group_after_settle}
use Rattle.operator_state.proofs.Steps.{settle_there, as_many_steps}
use Rattle.operator_state.proofs.Rests.{some_unissued, unissued_there, IsFirstOpen, first_is_open, none_open, open_there, open_entry}

-- as many groups end before the end of the script as the script has
pub group_of_all : (setup : Setup) → group_of setup (length setup.steps) ≡ groups_in setup
group_of_all setup = ap (λ (xs : List ScriptStep). length (filter is_settle xs)) (take-length setup.steps)

-- the script has a last step, which ends a group
pub last_settle : (setup : Setup) (script : Script) → IsScriptOf setup script → slice_get script.steps (length script.steps - 1) ≡ Some Settle
    → (0 < length setup.steps) × (slice_get setup.steps (length setup.steps - 1) ≡ Some SettleStep)
last_settle setup script is ended =
    let e : length script.steps ≡ length setup.steps = as_many_steps setup script is in
    let l : length script.steps - 1 < length script.steps = slice_get_within script.steps (length script.steps - 1) Settle ended in
    let settles : slice_get setup.steps (length script.steps - 1) ≡ Some SettleStep = settle_there setup script is (length script.steps - 1) ended in
    (omega (arith, e, l), ap (λ n. slice_get setup.steps (n - 1)) (sym e) ∙ settles)

module _ (s : State) (keeps : OperatorInvariant s) where
  pub held_by_tasks : s.waiting ≢ [] → IsHeldUp s.setup (part_of_state s)
  held_by_tasks some = inl (unissued_there s keeps some)

  pub held_by_graft : (o : Option ℕ) → o ≡ first_open s.slots → is_some o ≡ true → IsHeldUp s.setup (part_of_state s)
  held_by_graft None is some = absurd cc
  held_by_graft (Some k) is some =
      let r : IsFirstOpen s.slots k = first_is_open s.slots k (sym is) in
      inr (inl (r.index + 1, open_there s keeps r.index r.entry r.there r.open_is))

  pub held_at_end : s.next ≡ length s.setup.steps → IsHeldUp s.setup (part_of_state s)
  held_at_end e =
      let begins = keeps.ends.begins in
      let all : group_of s.setup s.next ≡ groups_in s.setup = ap (group_of s.setup) e ∙ group_of_all s.setup in
      inr (inr (omega (arith, begins, all)))

  -- where no task waits and no graft is open, only the end of the script holds the operator up
  pub only_the_end : s.waiting ≡ [] → (o : Option ℕ) → o ≡ first_open s.slots → is_some o ≡ false → 0 < length s.setup.steps
      → slice_get s.setup.steps (length s.setup.steps - 1) ≡ Some SettleStep
      → IsHeldUp s.setup (part_of_state s) → s.next ≡ length s.setup.steps
  only_the_end none_waits (Some k) is none some ended held = absurd cc
  only_the_end none_waits None is none some ended (inl u) = absurd (some_unissued s keeps u none_waits)
  only_the_end none_waits None is none some ended (inr (inl (k, o))) =
      let r = open_entry s keeps k o in
      let e : true ≡ false = sym r.3 ∙ none_open s.slots (sym is) r.0 r.1 r.2 in
      absurd cc
  only_the_end none_waits None is none some ended (inr (inr few)) = elim (compare s.next (length s.setup.steps)) [
    | inl l ↦
        let begins = keeps.ends.begins in
        let rise = groups_rise s.setup s.next (length s.setup.steps - 1) (omega (arith, l)) in
        let e : length s.setup.steps - 1 + 1 ≡ length s.setup.steps = omega (arith, some) in
        let up = group_after_settle s.setup (length s.setup.steps - 1) ended in
        let all : group_of s.setup (length s.setup.steps - 1 + 1) ≡ groups_in s.setup = ap (group_of s.setup) e ∙ group_of_all s.setup in
        absurd (omega (arith, begins, rise, up, all, few))
    | inr (inl e) ↦ e
    | inr (inr l) ↦ let within = keeps.ends.within in absurd (omega (arith, l, within))
  ]
