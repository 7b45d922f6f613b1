use Rattle.rounds_worked.proofs.Routers.{idle_real, sends_new, sends_again}
use Rattle.rounds_worked.proofs.Operators.{nothing_is_ordered}
use Rattle.rounds_worked.proofs.Fars as fars
use Rattle.rounds_worked.proofs.laws.small_rounds_are_real.Goals as goal

pub returns : goal.returns
returns c = record {
  idle = idle_real;
  emits = sends_new;
  emits_again = sends_again;
  operator = nothing_is_ordered;
  far_side = fars.idle_far_is_real;
  far_sends = fars.sends_new;
}
