-- The loop that finds the tasks and the gifts of a group.
use Rattle.std.proofs.Common.{◌≡◌, ℕ, zero, suc, ◌+◌, ◌-◌, ◌≤◌, List, ◌++◌, length, Some, sym, ap, ◌∙◌, append_assoc, arith}
use Rattle.std.specs.Prelude.{slice_get, slice_index_or, flat_map}
use Rattle.std.specs.List.{range_with_len}
use Rattle.std.proofs.lemmas.List.{append-nil}
use Rattle.std.proofs.lemmas.List.FromFn.{length-map-range_with_len}
use Rattle.operator_state.specs.declared.evacuate.Gift.{Gift}
use Rattle.operator_state.specs.declared.grafts.Seat.{Seat}
use Rattle.actor_configs.specs.declared.script.Script.{Script}
use Rattle.actor_configs.specs.declared.script.ScriptStep.{ScriptStep}
use Rattle.operator_state.specs.Evacuate.{load_of, seat_loads, gifts_by}
use Rattle.operator_state.specs.Tasks.{tasks_by}
use Rattle.operator_state.specs.Groups.{gifts_of_step, tasks_of_step, gifts_at, tasks_at}

pub length-loads_of : (seats : List Seat) (routers : ℕ) → length (seat_loads seats routers) ≡ routers
length-loads_of seats routers = length-map-range_with_len (load_of seats) 0 routers

-- one more index of a range
flat_more : {A : Type 0} (f : ℕ → List A) (from len : ℕ) → flat_map f (range_with_len from (suc len)) ≡ flat_map f (range_with_len from len) ++ f (from + len)
flat_more f from zero = append-nil (f from) ∙ ap f (let e : from ≡ from + zero = omega arith in e)
flat_more f from (suc len) =
    ap (λ xs. f from ++ xs) (flat_more f (from + 1) len)
    ∙ sym (append_assoc (f from) (flat_map f (range_with_len (from + 1) len)) (f (from + 1 + len)))
    ∙ ap (λ n. (f from ++ flat_map f (range_with_len (from + 1) len)) ++ f n) (let e : from + 1 + len ≡ from + suc len = omega arith in e)

pub more_of : {A : Type 0} (f : ℕ → List A) (from index : ℕ) (xs more ys : List A) → from ≤ index
    → xs ≡ flat_map f (range_with_len from (index - from)) → more ≡ f index → ys ≡ xs ++ more
    → ys ≡ flat_map f (range_with_len from (index + 1 - from))
more_of f from index xs more ys behind before here is =
    let next : suc (index - from) ≡ index + 1 - from = omega arith in
    let at : from + (index - from) ≡ index = omega arith in
    is ∙ ap (λ zs. zs ++ more) before ∙ ap (λ zs. flat_map f (range_with_len from (index - from)) ++ zs) (here ∙ ap f (sym at))
    ∙ sym (flat_more f from (index - from)) ∙ ap (λ n. flat_map f (range_with_len from n)) next

module _ (script : Script) (numbers : List ℕ) (seats : List Seat) (index : ℕ) (step : ScriptStep) (there : slice_get script.steps index ≡ Some step) where
  pub gifts_here : (loads rooms : List ℕ) → loads ≡ seat_loads seats (length script.rooms) → rooms ≡ script.rooms
      → gifts_by seats loads rooms (slice_index_or numbers index 0) step ≡ gifts_at script numbers seats index
  gifts_here loads rooms loads_are rooms_are =
      (λ i. gifts_by seats (loads_are i) (rooms_are i) (slice_index_or numbers index 0) step) ∙ sym (ap (gifts_of_step script numbers seats index) there)

  pub tasks_here : (given : List Gift) → given ≡ gifts_at script numbers seats index
      → tasks_by index (slice_index_or numbers index 0) step given ≡ tasks_at script numbers seats index
  tasks_here given is =
      ap (tasks_by index (slice_index_or numbers index 0) step) (is ∙ ap (gifts_of_step script numbers seats index) there)
      ∙ sym (ap (tasks_of_step script numbers seats index) there)
