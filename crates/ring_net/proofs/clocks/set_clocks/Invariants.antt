use Rattle.std.proofs.Common.{◌≡◌, ◌≤◌, ◌<◌, ℕ, get_or}
use Rattle.ring_net.specs.declared.cell.Cell.{Cell}
use Rattle.ring_net.specs.Cells.{with_clock}
use Rattle.ring_net.proofs.clocks.set_clocks.Given as goal

-- the cells so far have the clock, and the others are as before
abbrev pub invariant-loop-cell : goal.invariant-loop-cell
invariant-loop-cell g l = record {
  done : (k : ℕ) (d : Cell _ _) → k < l.cell-index → get_or l.cells k d ≡ with_clock l.clock (get_or l.initial.cells k d);
  rest : (k : ℕ) (d : Cell _ _) → l.cell-index ≤ k → get_or l.cells k d ≡ get_or l.initial.cells k d;
}
