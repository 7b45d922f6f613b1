use Rattle.report_json.specs.Run.{part_json}
use Rattle.report_json.proofs.Tokens.{gathered_further}
use Rattle.report_json.proofs.routers.write_path.Goals as goal

pub loop-part-preserved : goal.loop-part-preserved
loop-part-preserved c =
    gathered_further c.as_slice-parts.result.now c.loop-part.part-index c.part-item.result c.loop-part-test.true c.part-item.is part_json
    _ _ _ c.loop-part.invariant c.in_ok-write_part.ensures
