use Rattle.std.proofs.Common.{◌≡◌, take, map}
use Rattle.std.specs.FinMap as table
use Rattle.lab_seen.specs.Seen.{best_entry}
use Rattle.lab_seen.proofs.tables.best_of.Given as goal

-- the entries of the prefixes so far are listed
abbrev pub invariant-loop-prefix : goal.invariant-loop-prefix
invariant-loop-prefix l = l.best ≡ map best_entry (take l.prefix-index (table.entries l.rib.best))
