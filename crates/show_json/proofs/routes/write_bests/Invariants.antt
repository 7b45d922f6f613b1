use Rattle.std.proofs.Common.{◌≡◌, drop, map}
use Rattle.serde_json.specs.View.{items_of}
use Rattle.report_json.specs.Tokens.{with_items}
use Rattle.show_json.specs.Routes.{best_json}
use Rattle.show_json.proofs.routes.write_bests.Given as goal

-- the tokens so far, and those of the routes that are left behind them, are those of all
abbrev pub invariant-loop-best : goal.invariant-loop-best
invariant-loop-best l =
    with_items (items_of (map (best_json l.input) (drop l.best-index l.table))) l.out
    ≡ with_items (items_of (map (best_json l.input) l.table)) l.initial.out
