use Rattle.std.proofs.Common.{◌≡◌, replicate}
use Rattle.std.specs.FinMap as map
use Rattle.rib_stages.specs.Values.{contents_of}
use Rattle.rib_stages.proofs.sources.Sources.new.Given as goal

abbrev pub invariant-loop-n : goal.invariant-loop-n
invariant-loop-n g l = contents_of l.tables.items ≡ replicate l._n map.empty
