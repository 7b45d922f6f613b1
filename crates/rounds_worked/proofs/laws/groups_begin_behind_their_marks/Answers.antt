use Rattle.rounds_worked.proofs.Marks.{no_go_behind, go_one_late, two_gos, go_while_busy}
use Rattle.rounds_worked.proofs.laws.groups_begin_behind_their_marks.Goals as goal

pub returns : goal.returns
returns c = record {
  none = no_go_behind;
  late = go_one_late;
  two = two_gos;
  busy = go_while_busy;
}
