use Rattle.std.proofs.Common.{◌≡◌, ℕ, ◌++◌, List, None, take, string_bytes}
use Rattle.std.specs.List.{flat_map}
use Rattle.bgp_story.specs.declared.line.Line.{Line}
use Rattle.lab_tables.specs.declared.input.LabInput.{LabInput}
use Rattle.show_view.specs.Routes.{heard_lines}
use Rattle.show_view.proofs.tables.push_all_heard_alone.Given as goal

-- the lines of the routes so far
abbrev pub invariant-loop-entry : goal.invariant-loop-entry
invariant-loop-entry l = (input : LabInput) (number : ℕ) (lines : List Line)
    → string_bytes l.text ≡ string_bytes l.initial.text ++ flat_map (heard_lines input None (number, l.peering) lines) (take l.entry-index l.entries)
