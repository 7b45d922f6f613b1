use Rattle.graft_worked.proofs.Next.{none_lost, row_of, no_two, size_alone, no_second, least_alone, told_first_alone}
use Rattle.graft_worked.proofs.Puts.{puts_some}
use Rattle.graft_worked.proofs.row_conditions.an_update_is_the_next_one.Goals as goal

pub returns : goal.returns
returns c = record {
  none_lost = none_lost;
  whole = row_of;
  one = puts_some;
  one_as_two = no_two;
  size = size_alone;
  second = no_second;
  least = least_alone;
  told_first = told_first_alone;
}
