use Rattle.std.proofs.Common.{◌≡◌, ◌++◌, string_bytes}
use Rattle.lab_make.specs.Made.{each_below, peering_table}
use Rattle.lab_make.proofs.tables.push_peerings.Given as goal

-- the text so far is that of the tables so far
abbrev pub invariant-loop-j : goal.invariant-loop-j
invariant-loop-j l = string_bytes l.text ≡ string_bytes l.initial.text ++ each_below peering_table l.j
