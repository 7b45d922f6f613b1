use Rattle.std.proofs.Common.{false, refl, sym, ap, ◌∙◌}
use Rattle.far_side.specs.declared.link.Act.TheVariants.{Delivered}
use Rattle.far_side.proofs.PassSteps.{if_both, stays_each, lost_each, delivered_each, again_each, copied_each}
use Rattle.far_side.proofs.pass.step.Goals as goal

pub returns-in-Stays-clause-step : goal.returns-in-Stays-clause-step
returns-in-Stays-clause-step g c = if_both c.keep.result _ _ _
    (λ next. stays_each c.args.way c.args.far.now c.keep.new.self c.args.index next c.args.post.now c.plan-plan.result c.requires.keeps
    (rw (← c.link.ensures) c.plan-plan.ensures)
    (sym c.act.ensures ∙ c.in-Stays.is))
    c.keep.ensures.next c.keep.ensures.kept

pub returns-in_ok-deliver-in-Delivered-true-clause-step : goal.returns-in_ok-deliver-in-Delivered-true-clause-step
returns-in_ok-deliver-in-Delivered-true-clause-step g c = if_both c.keep-in-Delivered-true.result _ _ _
    (λ next n. again_each c.args.way c.args.far.now c.keep-in-Delivered-true.new.self c.args.index next
    c.args.post.now c.deliver.new.post c.plan-plan.result c.requires.keeps (rw (← c.link.ensures) c.plan-plan.ensures)
    c.deliver.new.far (sym c.act.ensures ∙ c.in-Delivered-true.is ∙ ap Delivered c.in-Delivered-true.keep-test)
    n c.in_ok-deliver-in-Delivered-true.ensures.handed c.in_ok-deliver-in-Delivered-true.ensures.left)
    c.keep-in-Delivered-true.ensures.next c.keep-in-Delivered-true.ensures.kept

pub returns-in_ok-deliver-in-Delivered-false-clause-step : goal.returns-in_ok-deliver-in-Delivered-false-clause-step
returns-in_ok-deliver-in-Delivered-false-clause-step g c =
    delivered_each c.args.way c.args.far.now c.deliver-in-Delivered-false.new.far c.args.index c.args.index c.args.post.now
    c.deliver-in-Delivered-false.new.post c.plan-plan.result c.requires.keeps (rw (← c.link.ensures) c.plan-plan.ensures)
    c.deliver-in-Delivered-false.new.far.remote false (sym c.act.ensures ∙ c.in-Delivered-false.is ∙ ap Delivered c.in-Delivered-false.keep-test)
    refl c.in_ok-deliver-in-Delivered-false.ensures.handed
    c.in_ok-deliver-in-Delivered-false.ensures.left

pub returns-in_ok-deliver-in-Copied-clause-step : goal.returns-in_ok-deliver-in-Copied-clause-step
returns-in_ok-deliver-in-Copied-clause-step g c =
    copied_each c.args.way c.args.far.now c.deliver-in-Copied.new.far c.args.index c.args.index c.args.post.now
    c.deliver-in-Copied.new.post c.plan-plan.result c.requires.keeps (rw (← c.link.ensures) c.plan-plan.ensures)
    c.deliver-in-Copied.new.far.remote (sym c.act.ensures ∙ c.in-Copied.is) refl c.in_ok-deliver-in-Copied.ensures.handed c.in_ok-deliver-in-Copied.ensures.left

pub returns-in_ok-note_far-in-Lost-clause-step : goal.returns-in_ok-note_far-in-Lost-clause-step
returns-in_ok-note_far-in-Lost-clause-step g c =
    lost_each c.args.way c.args.far.now c.remove.new.self c.args.index c.args.index c.args.post.now
    c.note_far.new.post c.plan-plan.result c.requires.keeps (rw (← c.link.ensures) c.plan-plan.ensures)
    (sym c.act.ensures ∙ c.in-Lost.is) refl c.remove.ensures.there c.in_ok-note_far-in-Lost.ensures.ok c.remove.ensures.removed
