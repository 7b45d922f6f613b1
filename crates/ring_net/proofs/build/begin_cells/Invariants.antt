use Rattle.std.proofs.Common.{◌≡◌, map, length}
use Rattle.ring_net.specs.declared.cell.Cell.{Cell}
use Rattle.ring_net.specs.Fresh.{AllBlank}
use Rattle.ring_net.proofs.build.begin_cells.Given as goal

-- a blank cell for each actor so far
abbrev pub invariant-loop-actor : goal.invariant-loop-actor
invariant-loop-actor g l = record {
  actors : map (λ (c : Cell _ _). c.actor) l.cells.items ≡ l.yielded;
  count : length l.cells.items ≡ l.number;
  blank : AllBlank l.cells.items;
}
