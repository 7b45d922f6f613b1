use Rattle.std.proofs.Common.{◌≡◌, map, take}
use Rattle.ring_net.specs.declared.cell.Cell.{Cell}
use Rattle.ring_net.specs.Fresh.{Fresh}
use Rattle.ring_net.proofs.build.connect_all.Given as goal

-- the edges so far are connected
abbrev pub invariant-loop-from : goal.invariant-loop-from
invariant-loop-from g l = record {
  fresh : Fresh l.cells (take l.from-index l.edges);
  actors : map (λ (c : Cell _ _). c.actor) l.cells ≡ map (λ (c : Cell _ _). c.actor) l.initial.cells;
}
