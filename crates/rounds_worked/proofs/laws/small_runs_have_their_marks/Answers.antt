use Rattle.rounds_worked.proofs.Marks.{one_round_named, two_groups_named}
use Rattle.rounds_worked.proofs.laws.small_runs_have_their_marks.Goals as goal

pub returns : goal.returns
returns c = record {
  one = one_round_named;
  two = two_groups_named;
}
