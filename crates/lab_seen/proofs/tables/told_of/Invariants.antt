use Rattle.std.proofs.Common.{◌≡◌, map}
use Rattle.std.specs.FinMap as table
use Rattle.std.specs.List.{flat_map, range_with_len}
use Rattle.rib_stages.specs.Values.{rib_of}
use Rattle.lab_seen.specs.Seen.{told_entry}
use Rattle.lab_seen.proofs.tables.told_of.Given as goal

abbrev pub invariant-loop-q : goal.invariant-loop-q
invariant-loop-q l = l.told ≡ flat_map (λ q. map (told_entry q) (table.entries ((rib_of l.rib).tellings q))) (range_with_len 0 l.q)
