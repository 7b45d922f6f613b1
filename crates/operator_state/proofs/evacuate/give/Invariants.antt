use Rattle.std.proofs.Common.{◌≡◌, length, drop}
use Rattle.operator_state.specs.Evacuate.{give as give_all}
use Rattle.operator_state.proofs.evacuate.give.Given as goal

abbrev pub invariant-loop-gift : goal.invariant-loop-gift
invariant-loop-gift l = record {
  given : give_all (drop l.gift-index l.gifts) l.slots ≡ give_all l.gifts l.fn.slots;
  all : length l.slots ≡ length l.fn.slots;
}
