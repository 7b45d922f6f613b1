use Rattle.std.proofs.Common.{◌≡◌, ◌++◌, string_bytes}
use Rattle.lab_make.specs.Made.{each_below, fault_tables}
use Rattle.lab_make.proofs.tables.push_faults.Given as goal

-- the text so far is that of the tables so far
abbrev pub invariant-loop-j : goal.invariant-loop-j
invariant-loop-j l = string_bytes l.text ≡ string_bytes l.initial.text ++ each_below fault_tables l.j
