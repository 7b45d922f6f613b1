use Rattle.std.proofs.Common.{Some}
use Rattle.report_json.proofs.Tokens.{mapped_further}
use Rattle.show_json.specs.Routes.{heard_json}
use Rattle.show_json.proofs.tables.write_all_heard.Goals as goal

pub loop-entry-preserved : goal.loop-entry-preserved
loop-entry-preserved c = λ router number lines named.
    mapped_further c.args.entries.now c.loop-entry.entry-index c.entry-item.result c.loop-entry-test.true c.entry-item.is
    (heard_json c.args.input.now (Some router) (number, c.args.peering.now) lines)
    _ _ _ (c.loop-entry.invariant router number lines named) (c.in_ok-write_heard.ensures router number lines named)
