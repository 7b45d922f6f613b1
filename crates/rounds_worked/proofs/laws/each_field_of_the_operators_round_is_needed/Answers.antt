use Rattle.rounds_worked.proofs.Operators.{operator_of, of_operator, second_group, say_left}
use Rattle.rounds_worked.proofs.laws.each_field_of_the_operators_round_is_needed.Goals as goal

pub returns : goal.returns
returns c = record {
  all = operator_of;
  none_lost = of_operator;
  goes = second_group;
  issued = say_left;
}
