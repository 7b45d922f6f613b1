use Rattle.std.proofs.Common.{◌≡◌, drop}
use Rattle.std.specs.List.{flat_map}
use Rattle.serde_json.specs.View.{items_of}
use Rattle.report_json.specs.Run.{part_json}
use Rattle.report_json.specs.Tokens.{with_items}
use Rattle.report_json.proofs.routers.write_path.Given as goal

-- the tokens so far, and those of the parts that are left behind them, are those of all
abbrev pub invariant-loop-part : goal.invariant-loop-part
invariant-loop-part l =
    with_items (items_of (flat_map part_json (drop l.part-index l.parts))) l.out ≡ with_items (items_of (flat_map part_json l.parts)) l.initial.out
