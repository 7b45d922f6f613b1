use Rattle.rounds_worked.proofs.Never.{never_ticks, never_twice}
use Rattle.rounds_worked.proofs.laws.some_rounds_are_never_real.Goals as goal

pub returns : goal.returns
returns c = record {
  tick = never_ticks;
  twice = never_twice;
}
