use Rattle.std.proofs.Common.{arith}
use Rattle.lab_report.specs.Summary.{was_refused}
use Rattle.picture_view.specs.Heads.{refused_line}
use Rattle.picture_view.proofs.Refusals.{count_more, lines_more}
use Rattle.picture_view.proofs.heads.push_refused.Goals as goal

-- one graft more
pub loop-graft-preserved : goal.loop-graft-preserved
loop-graft-preserved c = record {
  count = count_more was_refused c.args.log.now c.loop-graft.graft-index c.graft-item.result (omega arith) c.graft-item.is _ _
      c.loop-graft.invariant.count c.in_ok-number.ensures.number;
  lines = lines_more was_refused c.args.log.now c.loop-graft.graft-index c.graft-item.result (omega arith) c.graft-item.is
      (refused_line c.args.input.now c.args.plan.now) _ _ _ _ c.loop-graft.invariant.count c.loop-graft.invariant.lines
      c.in_ok-number.ensures.text;
}
