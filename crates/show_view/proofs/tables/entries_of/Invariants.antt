use Rattle.std.proofs.Common.{◌≡◌, take}
use Rattle.std.specs.Prelude.{map as each}
use Rattle.std.specs.FinMap as map
use Rattle.show_view.proofs.tables.entries_of.Given as goal

-- the entries of the prefixes so far
abbrev pub invariant-loop-prefix : goal.invariant-loop-prefix
invariant-loop-prefix l = l.entries ≡ each (λ e. e) (take l.prefix-index (map.entries l.routes))
