use Rattle.std.proofs.Common.{◌≡◌, drop, map}
use Rattle.std.specs.List.{enumerate_from}
use Rattle.serde_json.specs.View.{items_of}
use Rattle.report_json.specs.Tokens.{with_items}
use Rattle.show_json.specs.Show.{router_json}
use Rattle.show_json.proofs.show.write_routers.Given as goal

-- the tokens so far, and those of the routers that are left behind them, are those of all
abbrev pub invariant-loop-index : goal.invariant-loop-index
invariant-loop-index l =
    with_items (items_of (map (router_json l.lab) (enumerate_from l.index (drop l.index l.routers)))) l.out
    ≡ with_items (items_of (map (router_json l.lab) (enumerate_from 0 l.routers))) l.initial.out
