use Rattle.std.proofs.Common.{◌≡◌, ◌<◌, length, refl, sym, ap, ◌∙◌, arith}
use Rattle.std.proofs.lemmas.Option.{slice_get_within}
use Rattle.actor_configs.specs.declared.script.ScriptStep.TheVariants.{Settle}
use Rattle.operator_state.specs.Groups.{gifts_at, tasks_at}
use Rattle.operator_state.proofs.Lists.{stands_in}
use Rattle.operator_state.proofs.GroupLoops.{length-loads_of, more_of, gifts_here, tasks_here}
use Rattle.operator_state.proofs.groups.group_from.Goals as goal

pub step_gifts-requires-clause-same_length : goal.step_gifts-requires-clause-same_length
step_gifts-requires-clause-same_length c =
    ap length c.as_slice-rooms.ensures ∙ sym (ap length c.loop-index.invariant.loads ∙ length-loads_of c.args.seats.now (length c.args.script.now.rooms))

pub step_gifts-requires-clause-routers : goal.step_gifts-requires-clause-routers
step_gifts-requires-clause-routers c =
    let e : length c.as_slice-loads.result.now ≡ length c.args.script.now.rooms =
    ap length c.loop-index.invariant.loads ∙ length-loads_of c.args.seats.now (length c.args.script.now.rooms) in
    let few = c.requires.routers in
    omega (arith, e, few)

pub loop-index-preserved : goal.loop-index-preserved
loop-index-preserved c =
    let end_within : c.group_end-end.result < length c.as_slice-steps.result.now =
    slice_get_within c.as_slice-steps.result.now c.group_end-end.result Settle c.group_end-end.ensures.settle in
    let steps : length c.as_slice-steps.result.now ≡ length c.args.script.now.steps = ap length c.as_slice-steps.ensures in
    let before : c.loop-index.index < c.group_end-end.result = c.loop-index-test.true in
    let within : c.loop-index.index < length c.args.script.now.steps = omega (arith, end_within, steps, before) in
    let there = stands_in c.as_slice-steps.result.now c.args.script.now.steps c.loop-index.index _ _ c.as_slice-steps.ensures within refl in
    let gifts = c.in_ok-given.ensures ∙ gifts_here c.args.script.now c.args.numbers.now c.args.seats.now c.loop-index.index
    _ there c.as_slice-loads.result.now c.as_slice-rooms.result.now c.loop-index.invariant.loads c.as_slice-rooms.ensures in
    record {
      loads = c.loop-index.invariant.loads;
      tasks = more_of (tasks_at c.args.script.now c.args.numbers.now c.args.seats.now) c.args.from c.loop-index.index
          c.loop-index.tasks.items _ c.add_tasks.new.tasks.items c.loop-index.auto.index c.loop-index.invariant.tasks
          (tasks_here c.args.script.now c.args.numbers.now c.args.seats.now c.loop-index.index _ there c.as_slice.result.now
          (c.as_slice.ensures ∙ gifts)) c.in_ok-add_tasks.ensures;
      gifts = more_of (gifts_at c.args.script.now c.args.numbers.now c.args.seats.now) c.args.from c.loop-index.index
          c.loop-index.gifts c.as_slice-in-loop-index.result.now c.extend.new.self c.loop-index.auto.index
          c.loop-index.invariant.gifts (c.as_slice-in-loop-index.ensures ∙ gifts) c.in_ok-extend.ensures.ok;
    }
