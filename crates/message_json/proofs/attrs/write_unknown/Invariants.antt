use Rattle.std.proofs.Common.{◌≡◌, drop, map}
use Rattle.serde_json.specs.View.{items_of}
use Rattle.report_json.specs.Tokens.{with_items}
use Rattle.message_json.specs.Attrs.{raw_json}
use Rattle.message_json.proofs.attrs.write_unknown.Given as goal

-- the tokens so far, and those of the attributes that are left behind them, are those of all
abbrev pub invariant-loop-raw : goal.invariant-loop-raw
invariant-loop-raw l = with_items (items_of (map raw_json (drop l.raw-index l.unknown))) l.out ≡ with_items (items_of (map raw_json l.unknown)) l.initial.out
