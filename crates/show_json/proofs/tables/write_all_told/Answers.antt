use Rattle.report_json.proofs.Tokens.{mapped_further}
use Rattle.show_json.specs.Routes.{entry_json}
use Rattle.show_json.proofs.tables.write_all_told.Goals as goal

pub loop-entry-preserved : goal.loop-entry-preserved
loop-entry-preserved c =
    mapped_further c.args.entries.now c.loop-entry.entry-index c.entry-item.result c.loop-entry-test.true c.entry-item.is entry_json
    _ _ _ c.loop-entry.invariant c.in_ok-write_entry.ensures
