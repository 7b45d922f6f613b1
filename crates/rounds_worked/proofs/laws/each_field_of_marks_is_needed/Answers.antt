use Rattle.rounds_worked.proofs.Marks.{marks_of, of_marks, another_list, begun_before, go_in_first_round, another_last, more_behind}
use Rattle.rounds_worked.proofs.laws.each_field_of_marks_is_needed.Goals as goal

pub returns : goal.returns
returns c = record {
  all = marks_of;
  none_lost = of_marks;
  is = another_list;
  empty = begun_before;
  begins_none = go_in_first_round;
  is_last = another_last;
  whole = more_behind;
}
