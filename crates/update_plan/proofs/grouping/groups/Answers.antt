use Rattle.std.proofs.Common.{List, sym, ◌∙◌, subst}
use Rattle.route_policy.specs.Telling.{out_side_of_view}
use Rattle.rib_stages.specs.Values.{rib_of}
use Rattle.update_plan.specs.declared.batch.Batch.{Batch}
use Rattle.update_plan.specs.Gathering.{AddsToBatches}
use Rattle.update_plan.specs.Plans.{AreWholeBatches}
use Rattle.update_plan.specs.ToTell.{IsPrefixToTell, rib_to_tell}
use Rattle.update_plan.proofs.SoFar.{walk_passes, walk_gathers, walk_ends}
use Rattle.update_plan.proofs.Wholes.{Whole, are_whole, whole_adds, whole_of_same}
use Rattle.update_plan.proofs.grouping.groups.Goals as goal

pub loop-prefix-preserved-then-is_dirty : goal.loop-prefix-preserved-then-is_dirty
loop-prefix-preserved-then-is_dirty c =
    let tell = rib_to_tell (rib_of c.args.rib.now) (out_side_of_view c.args.view.now) in
    record {
      keeps = c.loop-prefix.invariant.keeps;
      whole = walk_passes c.args.rib.now.dirty c.args.adj_rib_out.now tell (Whole tell) (whole_of_same tell)
          c.deref-prefix-items.result.now c.loop-prefix.prefix-index c.prefix-item.result c.loop-prefix-test.true c.prefix-item.is
          c.loop-prefix.grouped.batches.items (sym c.is_dirty.ensures ∙ c.if-is_dirty.true) c.loop-prefix.invariant.whole;
    }

pub loop-prefix-preserved : goal.loop-prefix-preserved
loop-prefix-preserved c =
    let tell = rib_to_tell (rib_of c.args.rib.now) (out_side_of_view c.args.view.now) in
    let p = c.prefix-item.result in
    let old = c.loop-prefix.grouped.batches.items in
    let new = c.group.new.grouped.batches.items in
    record {
      keeps = c.in_ok-group.ensures.keeps;
      whole = walk_gathers c.args.rib.now.dirty c.args.adj_rib_out.now tell (Whole tell) (whole_of_same tell)
          c.deref-prefix-items.result.now c.loop-prefix.prefix-index p c.loop-prefix-test.true c.prefix-item.is
          c.args.due.now (c.deref-prefix-items.ensures ∙ c.in_ok-prefixes.ensures) AddsToBatches old new
          (sym c.is_dirty.ensures ∙ c.if-is_dirty.false) (λ is above adds whole. whole_adds tell p is old new above adds whole)
          c.in_ok-group.ensures.gathers c.loop-prefix.invariant.whole;
    }

pub returns : goal.returns
returns c =
    let tell = rib_to_tell (rib_of c.args.rib.now) (out_side_of_view c.args.view.now) in
    subst (λ (l : List Batch). AreWholeBatches (IsPrefixToTell c.args.due.now c.args.rib.now.dirty c.args.adj_rib_out.now tell) tell l)
    (sym c.into_batches.ensures)
    (are_whole tell (IsPrefixToTell c.args.due.now c.args.rib.now.dirty c.args.adj_rib_out.now tell) c.loop-prefix.grouped.batches.items
    (walk_ends c.args.rib.now.dirty c.args.adj_rib_out.now tell (Whole tell) (whole_of_same tell) c.args.due.now c.deref-prefix-items.result.now
    (c.deref-prefix-items.ensures ∙ c.in_ok-prefixes.ensures)
    c.loop-prefix.prefix-index c.loop-prefix-test.false c.loop-prefix.grouped.batches.items c.loop-prefix.invariant.whole))
