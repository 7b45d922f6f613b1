use Rattle.std.proofs.Common.{◌≡◌, ◌++◌, take, string_bytes}
use Rattle.std.specs.List.{flat_map}
use Rattle.show_view.specs.Untold.{told_line}
use Rattle.show_view.proofs.tables.push_all_told.Given as goal

-- the lines of the routes so far
abbrev pub invariant-loop-entry : goal.invariant-loop-entry
invariant-loop-entry l = string_bytes l.text ≡ string_bytes l.initial.text ++ flat_map (told_line l.name) (take l.entry-index l.entries)
