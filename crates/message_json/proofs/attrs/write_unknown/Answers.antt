use Rattle.report_json.proofs.Tokens.{mapped_further}
use Rattle.message_json.specs.Attrs.{raw_json}
use Rattle.message_json.proofs.attrs.write_unknown.Goals as goal

pub loop-raw-preserved : goal.loop-raw-preserved
loop-raw-preserved c =
    mapped_further c.args.unknown.now c.loop-raw.raw-index c.raw-item.result c.loop-raw-test.true c.raw-item.is raw_json
    _ _ _ c.loop-raw.invariant c.in_ok-write_raw.ensures
