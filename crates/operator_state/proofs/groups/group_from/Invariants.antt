use Rattle.std.proofs.Common.{◌≡◌, ◌-◌, length}
use Rattle.std.specs.Prelude.{flat_map}
use Rattle.std.specs.List.{range_with_len}
use Rattle.operator_state.specs.Evacuate.{seat_loads}
use Rattle.operator_state.specs.Groups.{tasks_at, gifts_at}
use Rattle.operator_state.proofs.groups.group_from.Given as goal

abbrev pub invariant-loop-index : goal.invariant-loop-index
invariant-loop-index l = record {
  loads : l.loads ≡ seat_loads l.seats (length l.script.rooms);
  tasks : l.tasks.items ≡ flat_map (tasks_at l.script l.numbers l.seats) (range_with_len l.from (l.index - l.from));
  gifts : l.gifts ≡ flat_map (gifts_at l.script l.numbers l.seats) (range_with_len l.from (l.index - l.from));
}
