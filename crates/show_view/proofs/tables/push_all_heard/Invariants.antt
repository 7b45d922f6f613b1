use Rattle.std.proofs.Common.{◌≡◌, ℕ, ◌++◌, List, Some, take, string_bytes}
use Rattle.std.specs.List.{flat_map}
use Rattle.bgp_story.specs.declared.line.Line.{Line}
use Rattle.lab_tables.specs.declared.input.RouterInput.{RouterInput}
use Rattle.why_view.specs.Sources.{import_rules}
use Rattle.show_view.specs.Routes.{heard_lines}
use Rattle.show_view.proofs.tables.push_all_heard.Given as goal

-- the lines of the routes so far
abbrev pub invariant-loop-entry : goal.invariant-loop-entry
invariant-loop-entry l = (router : ℕ × RouterInput) (number : ℕ) (lines : List Line) → l.policy ≡ import_rules router.1 l.peering.«import»
    → string_bytes l.text ≡ string_bytes l.initial.text ++ flat_map (heard_lines l.input (Some router) (number, l.peering) lines) (take l.entry-index l.entries)
