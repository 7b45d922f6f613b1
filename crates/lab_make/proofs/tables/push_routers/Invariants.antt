use Rattle.std.proofs.Common.{◌≡◌, ◌++◌, string_bytes}
use Rattle.lab_make.specs.Made.{each_below, router_table}
use Rattle.lab_make.proofs.tables.push_routers.Given as goal

-- the text so far is that of the tables so far
abbrev pub invariant-loop-r : goal.invariant-loop-r
invariant-loop-r l = string_bytes l.text ≡ string_bytes l.initial.text ++ each_below router_table l.r
