use Rattle.std.proofs.Common.{◌≡◌, ◌++◌, take, string_bytes}
use Rattle.std.specs.List.{flat_map}
use Rattle.lab_report.specs.Report.{graft_line}
use Rattle.lab_report.proofs.texts.push_log.Given as goal

-- the text so far is that of the members so far
abbrev pub invariant-loop-entry : goal.invariant-loop-entry
invariant-loop-entry l = string_bytes l.text ≡ string_bytes l.initial.text ++ flat_map (graft_line l.input) (take l.entry-index l.log)
