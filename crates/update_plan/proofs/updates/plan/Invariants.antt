use Rattle.std.proofs.Common.{◌≡◌, take}
use Rattle.route_policy.specs.Telling.{out_side_of_view}
use Rattle.rib_stages.specs.Values.{rib_of}
use Rattle.update_plan.specs.Gathering.{AreSound, GatheredInvariant}
use Rattle.update_plan.specs.ToTell.{rib_to_tell}
use Rattle.update_plan.specs.Plans.{IsPlan}
use Rattle.update_plan.proofs.SoFar.{Among}
use Rattle.update_plan.proofs.updates.plan.Given as goal

abbrev pub invariant-loop-prefix : goal.invariant-loop-prefix
invariant-loop-prefix l = record {
  keeps : GatheredInvariant l.gathered;
  wide : l.gathered.wide ≡ l.wide;
  planned : IsPlan (Among l.rib.dirty l.adj_rib_out (rib_to_tell (rib_of l.rib) (out_side_of_view l.view)) (take l.prefix-index l.prefix-items))
      (rib_to_tell (rib_of l.rib) (out_side_of_view l.view)) l.wide l.gathered.batches.items;
  sound : AreSound l.gathered.batches.items;
}
