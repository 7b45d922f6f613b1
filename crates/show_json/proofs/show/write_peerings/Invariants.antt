use Rattle.std.proofs.Common.{◌≡◌, drop}
use Rattle.std.specs.List.{flat_map, enumerate_from}
use Rattle.serde_json.specs.View.{items_of}
use Rattle.report_json.specs.Tokens.{with_items}
use Rattle.show_json.specs.Show.{peering_json}
use Rattle.show_json.proofs.show.write_peerings.Given as goal

-- the tokens so far, and those of the peerings that are left behind them, are those of all
abbrev pub invariant-loop-index : goal.invariant-loop-index
invariant-loop-index l =
    with_items (items_of (flat_map (peering_json l.lab) (enumerate_from l.index (drop l.index l.peerings)))) l.out
    ≡ with_items (items_of (flat_map (peering_json l.lab) (enumerate_from 0 l.peerings))) l.initial.out
