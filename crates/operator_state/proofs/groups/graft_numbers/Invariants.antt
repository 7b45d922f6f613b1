use Rattle.std.proofs.Common.{◌≡◌, ℕ, ◌+◌, ◌*◌, ◌<◌, ◌≤◌, length, take}
use Rattle.std.specs.Prelude.{slice_index_or, sum_by}
use Rattle.operator_state.specs.Groups.{grafts_by}
use Rattle.operator_state.proofs.groups.graft_numbers.Given as goal

abbrev pub invariant-loop-step : goal.invariant-loop-step
invariant-loop-step l = record {
  all : length l.numbers ≡ l.step-index;
  each : (n : ℕ) → n < l.step-index → slice_index_or l.numbers n 0 ≡ sum_by (grafts_by l.peerings) (take n l.steps) + 1;
  next : l.next ≡ sum_by (grafts_by l.peerings) (take l.step-index l.steps) + 1;
  few : l.next ≤ 256 * l.step-index + 1;
}
