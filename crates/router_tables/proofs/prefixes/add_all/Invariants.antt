use Rattle.std.proofs.Common.{take}
use Rattle.router_tables.specs.Dues.{AddsAll}
use Rattle.router_tables.proofs.prefixes.add_all.Given as goal

abbrev pub invariant-loop-prefix : goal.invariant-loop-prefix
invariant-loop-prefix l = AddsAll l.initial.set (take l.prefix-index l.prefixes) l.set
