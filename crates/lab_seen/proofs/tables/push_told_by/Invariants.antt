use Rattle.std.proofs.Common.{◌≡◌, ◌++◌, take, map}
use Rattle.std.specs.FinMap as table
use Rattle.rib_stages.specs.Values.{rib_of}
use Rattle.lab_seen.specs.Seen.{told_entry}
use Rattle.lab_seen.proofs.tables.push_told_by.Given as goal

-- the entries of the prefixes so far are listed behind what there was
abbrev pub invariant-loop-prefix : goal.invariant-loop-prefix
invariant-loop-prefix l = l.told ≡ l.fn.told ++ map (told_entry l.router.0) (take l.prefix-index (table.entries ((rib_of l.rib).tellings l.router.0)))
