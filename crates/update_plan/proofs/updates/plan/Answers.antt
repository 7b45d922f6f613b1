use Rattle.std.proofs.Common.{List, sym, ◌∙◌, subst}
use Rattle.std.specs.FinMap as map
use Rattle.route_policy.specs.Telling.{out_side_of_view}
use Rattle.rib_stages.specs.Values.{rib_of}
use Rattle.update_plan.specs.declared.batch.Batch.{Batch}
use Rattle.update_plan.specs.Gathering.{AddsToUpdates, Gathers}
use Rattle.update_plan.specs.Plans.{IsPlan}
use Rattle.update_plan.specs.ToTell.{IsPrefixToTell, rib_to_tell}
use Rattle.update_plan.proofs.Fits.{fits_one}
use Rattle.update_plan.proofs.Plans.{Kind, plan_adds, plan_of_same}
use Rattle.update_plan.proofs.SoFar.{walk_passes, walk_gathers, walk_ends}
use Rattle.update_plan.proofs.updates.plan.Goals as goal

pub loop-prefix-preserved-then-is_dirty : goal.loop-prefix-preserved-then-is_dirty
loop-prefix-preserved-then-is_dirty c =
    let tell = rib_to_tell (rib_of c.args.rib.now) (out_side_of_view c.args.view.now) in
    let of : Kind → List Batch → Type 0 = λ is bs. IsPlan is tell c.args.wide bs in
    let inv = c.loop-prefix.invariant in
    record {
      keeps = inv.keeps;
      wide = inv.wide;
      planned = walk_passes c.args.rib.now.dirty c.args.adj_rib_out.now tell of (plan_of_same tell c.args.wide)
          c.deref-prefix-items.result.now c.loop-prefix.prefix-index c.prefix-item.result
          c.loop-prefix-test.true c.prefix-item.is c.loop-prefix.gathered.batches.items (sym c.is_dirty.ensures ∙ c.if-is_dirty.true) inv.planned;
      sound = inv.sound;
    }

pub loop-prefix-preserved : goal.loop-prefix-preserved
loop-prefix-preserved c =
    let rib = rib_of c.args.rib.now in
    let tell = rib_to_tell rib (out_side_of_view c.args.view.now) in
    let of : Kind → List Batch → Type 0 = λ is bs. IsPlan is tell c.args.wide bs in
    let p = c.prefix-item.result in
    let inv = c.loop-prefix.invariant in
    let old = c.loop-prefix.gathered.batches.items in
    let new = c.gather.new.gathered.batches.items in
    let fits = fits_one c.args.wide rib.config.home_as (out_side_of_view c.args.view.now) p (map.get rib.best p) in
    record {
      keeps = c.in_ok-gather.ensures.keeps;
      wide = c.in_ok-gather.ensures.wide ∙ inv.wide;
      planned = walk_gathers c.args.rib.now.dirty c.args.adj_rib_out.now tell of (plan_of_same tell c.args.wide)
          c.deref-prefix-items.result.now c.loop-prefix.prefix-index p c.loop-prefix-test.true c.prefix-item.is
          c.args.due.now (c.deref-prefix-items.ensures ∙ c.in_ok-prefixes.ensures) (AddsToUpdates c.args.wide) old new
          (sym c.is_dirty.ensures ∙ c.if-is_dirty.false)
          (λ is above adds plan. plan_adds tell c.args.wide p is old new above fits adds plan)
          (subst (λ w. Gathers w (map.get c.args.adj_rib_out.now p) tell p old new) inv.wide c.in_ok-gather.ensures.gathers)
          inv.planned;
      sound = c.in_ok-gather.ensures.sound inv.sound;
    }

pub returns-clause-planned : goal.returns-clause-planned
returns-clause-planned c =
    let tell = rib_to_tell (rib_of c.args.rib.now) (out_side_of_view c.args.view.now) in
    let of : Kind → List Batch → Type 0 = λ is bs. IsPlan is tell c.args.wide bs in
    subst (λ (l : List Batch). IsPlan (IsPrefixToTell c.args.due.now c.args.rib.now.dirty c.args.adj_rib_out.now tell) tell c.args.wide l)
    (sym c.into_batches.ensures)
    (walk_ends c.args.rib.now.dirty c.args.adj_rib_out.now tell of (plan_of_same tell c.args.wide) c.args.due.now c.deref-prefix-items.result.now
    (c.deref-prefix-items.ensures ∙ c.in_ok-prefixes.ensures)
    c.loop-prefix.prefix-index c.loop-prefix-test.false c.loop-prefix.gathered.batches.items c.loop-prefix.invariant.planned)
