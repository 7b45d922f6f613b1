use Rattle.std.proofs.Common.{Some, string_bytes}
use Rattle.why_view.proofs.Further.{flat_mapped_more}
use Rattle.show_view.specs.Routes.{heard_lines}
use Rattle.show_view.proofs.tables.push_all_heard.Goals as goal

-- the lines so far, and behind them those of one route more
pub loop-entry-preserved : goal.loop-entry-preserved
loop-entry-preserved c = λ router number lines named.
    flat_mapped_more (heard_lines c.args.input.now (Some router) (number, c.args.peering.now) lines) c.args.entries.now
    c.loop-entry.entry-index c.entry-item.result (string_bytes c.args.text.now) (string_bytes c.loop-entry.text)
    (string_bytes c.push_heard.new.text) c.loop-entry-test.true c.entry-item.is (c.loop-entry.invariant router number lines named)
    (c.in_ok-push_heard.ensures router number lines named)
