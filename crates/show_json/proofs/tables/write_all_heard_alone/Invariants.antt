use Rattle.std.proofs.Common.{◌≡◌, drop, map}
use Rattle.serde_json.specs.Data.{null}
use Rattle.serde_json.specs.View.{items_of}
use Rattle.report_json.specs.Tokens.{with_items}
use Rattle.show_json.specs.Routes.{heard_with}
use Rattle.show_json.proofs.tables.write_all_heard_alone.Given as goal

-- the tokens so far, and those of the routes that are left behind them, are those of all
abbrev pub invariant-loop-entry : goal.invariant-loop-entry
invariant-loop-entry l =
    with_items (items_of (map (λ e. heard_with e null) (drop l.entry-index l.entries))) l.out
    ≡ with_items (items_of (map (λ e. heard_with e null) l.entries)) l.initial.out
