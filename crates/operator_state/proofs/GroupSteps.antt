-- A group as the program has it, by the steps of its script, is that of the laboratory's steps.
use Rattle.std.proofs.Common.{◌≡◌, ℕ, zero, suc, ◌+◌, ◌<◌, ◌≤◌, List, [], ◌∷◌, ◌++◌, length, Option, Some, None, false, refl, ap, ◌∙◌, arith}
use Rattle.std.specs.Prelude.{slice_get, slice_index_or, flat_map}
use Rattle.std.specs.List.{range_with_len}
use Rattle.std.specs.Option.{option_map}
use Rattle.graft_model.specs.Setups.{Setup, ScriptStep as StepOf, SayStep, MoveStep, EvacuateStep, SettleStep, grafts_before, routers_in}
use Rattle.graft_model.specs.Evacuations.{rooms_of}
use Rattle.operator_state.specs.declared.grafts.Seat.{Seat}
use Rattle.operator_state.specs.declared.groups.Task.{Task}
use Rattle.actor_configs.specs.declared.script.Script.{Script}
use Rattle.actor_configs.specs.Scripts.{step_for, IsScriptOf}
use Rattle.operator_state.specs.Evacuate.{seat_loads, gifts_to}
use Rattle.operator_state.specs.Tasks.{given_tasks}
use Rattle.operator_state.specs.Groups as groups
use Rattle.operator_state.specs.Groups.{AreNumbers}
use Rattle.operator_state.proofs.Steps.{step_at, as_many_routers, number_at}
use Rattle.operator_state.proofs.Ready.{gifts_of, gifts_at, tasks_of, tasks_at, group_gifts, group_tasks}

-- what agrees at each number of a range makes one list
flat_alike : {A : Type 0} (f g : ℕ → List A) (from len : ℕ) → ((n : ℕ) → from ≤ n → n < from + len → f n ≡ g n)
    → flat_map f (range_with_len from len) ≡ flat_map g (range_with_len from len)
flat_alike f g from zero same = refl
flat_alike f g from (suc len) same =
    ap (λ xs. xs ++ flat_map f (range_with_len (from + 1) len)) (same from (omega arith) (omega arith))
    ∙ ap (λ xs. g from ++ xs) (flat_alike f g (from + 1) len (λ n l m. same n (omega arith) (omega arith)))

module _ (setup : Setup) (script : Script) (is : IsScriptOf setup script) (numbers : List ℕ)
    (are : AreNumbers (length script.starts) script.steps numbers) (seats : List Seat) where
  routers_are : length script.rooms ≡ routers_in setup
  routers_are = as_many_routers setup script is

  to_alike : (one other router : ℕ) → one ≡ other
      → gifts_to one (record { 0 = router }) seats (seat_loads seats (length script.rooms)) script.rooms
      ≡ gifts_to other (record { 0 = router }) seats (seat_loads seats (routers_in setup)) (rooms_of setup)
  to_alike one other router same = λ i. gifts_to (same i) (record { 0 = router }) seats (seat_loads seats (routers_are i)) (is.rooms i)

  gifts_by_step : (n : ℕ) → slice_index_or numbers n 0 ≡ grafts_before setup n + 1 → (o : Option StepOf)
      → groups.gifts_of_step script numbers seats n (option_map step_for o) ≡ gifts_of setup seats (grafts_before setup n + 1) o
  gifts_by_step n number None = refl
  gifts_by_step n number (Some (SayStep p bytes)) = refl
  gifts_by_step n number (Some (MoveStep p target)) = refl
  gifts_by_step n number (Some (EvacuateStep router)) = to_alike (slice_index_or numbers n 0) (grafts_before setup n + 1) router number
  gifts_by_step n number (Some SettleStep) = refl

  tasks_by_step : (n : ℕ) → slice_index_or numbers n 0 ≡ grafts_before setup n + 1 → (o : Option StepOf)
      → groups.tasks_of_step script numbers seats n (option_map step_for o) ≡ tasks_of setup seats n (grafts_before setup n + 1) o
  tasks_by_step n number None = refl
  tasks_by_step n number (Some (SayStep p bytes)) = refl
  tasks_by_step n number (Some (MoveStep p target)) = ap (λ k. let task : Task = record { step = n; graft = k; issued = false } in task ∷ []) number
  tasks_by_step n number (Some (EvacuateStep router)) = ap (given_tasks n) (to_alike (slice_index_or numbers n 0) (grafts_before setup n + 1) router number)
  tasks_by_step n number (Some SettleStep) = refl

  number_is : (n : ℕ) → n < length script.steps → slice_index_or numbers n 0 ≡ grafts_before setup n + 1
  number_is n l = number_at setup script is numbers are n l

  module _ (from len : ℕ) (within : from + len < length script.steps) where
    pub same_gifts : flat_map (groups.gifts_at script numbers seats) (range_with_len from len) ≡ group_gifts setup seats from len
    same_gifts = flat_alike (groups.gifts_at script numbers seats) (gifts_at setup seats) from len
        (λ n l m. ap (groups.gifts_of_step script numbers seats n) (step_at setup script is n)
        ∙ gifts_by_step n (number_is n (omega arith)) (slice_get setup.steps n))

    pub same_tasks : flat_map (groups.tasks_at script numbers seats) (range_with_len from len) ≡ group_tasks setup seats from len
    same_tasks = flat_alike (groups.tasks_at script numbers seats) (tasks_at setup seats) from len
        (λ n l m. ap (groups.tasks_of_step script numbers seats n) (step_at setup script is n)
        ∙ tasks_by_step n (number_is n (omega arith)) (slice_get setup.steps n))
