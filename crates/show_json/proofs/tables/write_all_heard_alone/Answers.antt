use Rattle.serde_json.specs.Data.{null}
use Rattle.report_json.proofs.Tokens.{mapped_further}
use Rattle.show_json.specs.Routes.{heard_with}
use Rattle.show_json.proofs.tables.write_all_heard_alone.Goals as goal

pub loop-entry-preserved : goal.loop-entry-preserved
loop-entry-preserved c =
    mapped_further c.args.entries.now c.loop-entry.entry-index c.entry-item.result c.loop-entry-test.true c.entry-item.is (λ e. heard_with e null)
    _ _ _ c.loop-entry.invariant c.in_ok-write_heard_alone.ensures
