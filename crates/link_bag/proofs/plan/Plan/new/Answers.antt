use Rattle.std.proofs.Common.{arith}
use Rattle.link_bag.proofs.Ids.{found_next, id_of}
use Rattle.link_bag.proofs.plan.Plan.new.Goals as goal

pub loop-left-preserved : goal.loop-left-preserved
loop-left-preserved c = record {
  within = omega arith;
  fates = λ peering way segment.
      found_next c.args.faults.now c.loop-left.left _ peering way segment c.fate.result _ _ (omega arith) (omega arith) c.fate.ensures
      (c.in_ok-insert.ensures.updates.0 (id_of peering way segment)) (c.loop-left.invariant.fates peering way segment);
}
