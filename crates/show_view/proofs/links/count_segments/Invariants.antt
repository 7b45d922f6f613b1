use Rattle.std.proofs.Common.{take}
use Rattle.show_view.specs.Links.{AreCounted}
use Rattle.show_view.proofs.links.count_segments.Given as goal

-- the segments of the entries so far are counted
abbrev pub invariant-loop-entry : goal.invariant-loop-entry
invariant-loop-entry l = AreCounted l.routers (take l.entry-index l.journal) l.all.items
