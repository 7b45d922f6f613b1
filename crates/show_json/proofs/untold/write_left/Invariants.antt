use Rattle.std.proofs.Common.{◌≡◌, drop}
use Rattle.std.specs.List.{flat_map}
use Rattle.serde_json.specs.View.{items_of}
use Rattle.lab_tables.specs.declared.input.RouterInput.{RouterInput}
use Rattle.route_policy.specs.Telling.{out_side_of_view}
use Rattle.report_json.specs.Tokens.{with_items}
use Rattle.show_view.specs.Untold.{out_side}
use Rattle.show_json.specs.Routes.{unless_told}
use Rattle.show_json.proofs.untold.write_left.Given as goal

-- the tokens so far, and those of the routes that are left behind them, are those of all
abbrev pub invariant-loop-entry : goal.invariant-loop-entry
invariant-loop-entry l = (router : RouterInput) → out_side_of_view l.out ≡ out_side router (l.out.peering.0, l.peering)
    → with_items (items_of (flat_map (unless_told l.input router (l.out.peering.0, l.peering) l.told) (drop l.entry-index l.table))) l.text
    ≡ with_items (items_of (flat_map (unless_told l.input router (l.out.peering.0, l.peering) l.told) l.table)) l.initial.text
