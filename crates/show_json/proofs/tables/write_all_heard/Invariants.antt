use Rattle.std.proofs.Common.{ℕ, ◌≡◌, List, Some, drop, map}
use Rattle.serde_json.specs.View.{items_of}
use Rattle.bgp_story.specs.declared.line.Line.{Line}
use Rattle.lab_tables.specs.declared.input.RouterInput.{RouterInput}
use Rattle.report_json.specs.Tokens.{with_items}
use Rattle.why_view.specs.Sources.{import_rules}
use Rattle.show_json.specs.Routes.{heard_json}
use Rattle.show_json.proofs.tables.write_all_heard.Given as goal

-- the tokens so far, and those of the routes that are left behind them, are those of all
abbrev pub invariant-loop-entry : goal.invariant-loop-entry
invariant-loop-entry l = (router : ℕ × RouterInput) (number : ℕ) (lines : List Line) → l.policy ≡ import_rules router.1 l.peering.«import»
    → with_items (items_of (map (heard_json l.input (Some router) (number, l.peering) lines) (drop l.entry-index l.entries))) l.out
    ≡ with_items (items_of (map (heard_json l.input (Some router) (number, l.peering) lines) l.entries)) l.initial.out
