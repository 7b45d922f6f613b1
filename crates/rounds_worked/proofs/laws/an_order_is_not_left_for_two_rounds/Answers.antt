use Rattle.rounds_worked.proofs.Whole.{taken_in_two, left_for_two}
use Rattle.rounds_worked.proofs.laws.an_order_is_not_left_for_two_rounds.Goals as goal

pub returns : goal.returns
returns c = record {
  taken = taken_in_two;
  left = left_for_two;
}
