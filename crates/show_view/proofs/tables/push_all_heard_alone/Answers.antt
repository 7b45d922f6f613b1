use Rattle.std.proofs.Common.{None, string_bytes}
use Rattle.why_view.proofs.Further.{flat_mapped_more}
use Rattle.show_view.specs.Routes.{heard_lines}
use Rattle.show_view.proofs.tables.push_all_heard_alone.Goals as goal

-- the lines so far, and behind them those of one route more
pub loop-entry-preserved : goal.loop-entry-preserved
loop-entry-preserved c = λ input number lines.
    flat_mapped_more (heard_lines input None (number, c.args.peering.now) lines) c.args.entries.now c.loop-entry.entry-index
    c.entry-item.result (string_bytes c.args.text.now) (string_bytes c.loop-entry.text) (string_bytes c.push_heard_alone.new.text)
    c.loop-entry-test.true c.entry-item.is (c.loop-entry.invariant input number lines) (c.in_ok-push_heard_alone.ensures input number lines)
