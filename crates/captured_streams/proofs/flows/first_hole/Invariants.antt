use Rattle.std.proofs.Common.{ℕ, ◌<◌}
use Rattle.captured_streams.specs.declared.flows.Stream.{Stream}
use Rattle.captured_streams.specs.Readings.{HasRest}
use Rattle.captured_streams.proofs.flows.first_hole.Given as goal

abbrev pub invariant-loop-k : goal.invariant-loop-k
invariant-loop-k l = (n : ℕ) (other : Stream) → n < l.k → ¬ HasRest l.streams n other
