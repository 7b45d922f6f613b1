use Rattle.std.proofs.Common.{take}
use Rattle.route_policy.specs.Telling.{out_side_of_view}
use Rattle.rib_stages.specs.Values.{rib_of}
use Rattle.update_plan.specs.Gathering.{GroupedInvariant}
use Rattle.update_plan.specs.ToTell.{rib_to_tell}
use Rattle.update_plan.proofs.SoFar.{Among}
use Rattle.update_plan.proofs.Wholes.{Whole}
use Rattle.update_plan.proofs.grouping.groups.Given as goal

abbrev pub invariant-loop-prefix : goal.invariant-loop-prefix
invariant-loop-prefix l = record {
  keeps : GroupedInvariant l.grouped;
  whole : Whole (rib_to_tell (rib_of l.rib) (out_side_of_view l.view))
      (Among l.rib.dirty l.adj_rib_out (rib_to_tell (rib_of l.rib) (out_side_of_view l.view)) (take l.prefix-index l.prefix-items)) l.grouped.batches.items;
}
