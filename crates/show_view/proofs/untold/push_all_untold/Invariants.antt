use Rattle.std.proofs.Common.{◌≡◌, ◌++◌, take, string_bytes}
use Rattle.std.specs.List.{flat_map}
use Rattle.lab_tables.specs.declared.input.RouterInput.{RouterInput}
use Rattle.route_policy.specs.Telling.{out_side_of_view}
use Rattle.show_view.specs.Untold.{out_side, untold_line}
use Rattle.show_view.proofs.untold.push_all_untold.Given as goal

-- the lines of the routes so far
abbrev pub invariant-loop-entry : goal.invariant-loop-entry
invariant-loop-entry l = (router : RouterInput) → out_side_of_view l.view ≡ out_side router (l.view.peering.0, l.peering)
    → string_bytes l.text
    ≡ string_bytes l.initial.text ++ flat_map (untold_line l.input router (l.view.peering.0, l.peering) l.told) (take l.entry-index l.table)
