use Rattle.std.proofs.Common.{◌≡◌}
use Rattle.ring_net.specs.Left.{actors_of, journals_of}
use Rattle.ring_net.proofs.finish.split.Given as goal

-- the actors and journals so far
abbrev pub invariant-loop-cell : goal.invariant-loop-cell
invariant-loop-cell g l = record {
  actors : l.actors ≡ actors_of l.yielded;
  journals : l.journals ≡ journals_of l.yielded;
}
