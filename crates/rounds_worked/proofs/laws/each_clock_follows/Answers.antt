use Rattle.rounds_worked.proofs.Clocks.{four_follow, all_zero, stamp_forgotten, not_above_all, not_levelled}
use Rattle.rounds_worked.proofs.laws.each_clock_follows.Goals as goal

pub returns : goal.returns
returns c = record {
  follow = four_follow;
  all_zero = all_zero;
  stamp_forgotten = stamp_forgotten;
  not_above_all = not_above_all;
  not_levelled = not_levelled;
}
