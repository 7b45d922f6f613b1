use Rattle.std.proofs.Common.{List, ap, ◌∙◌, sym, subst, map, take}
use Rattle.std.specs.List.{range_with_len}
use Rattle.imported_sessions.specs.declared.imported.Said.{Said}
use Rattle.imported_sessions.specs.Heard.{session_at, told_by}
use Rattle.imported_sessions.specs.Packed.{AreStepsOf}
use Rattle.imported_sessions.proofs.Hearing.{flows_more, told_more}
use Rattle.imported_sessions.proofs.heard.hear.Goals as goal

pub loop-flow-preserved : goal.loop-flow-preserved
loop-flow-preserved c =
    let flows = c.args.flows.now in
    let i = c.loop-flow.flow-index in
    let flow = c.flow-item.result in
    let so_far = c.loop-flow.invariant in
    let next = c.in_ok-take_flow.ensures (take i flows) c.args.count so_far.sessions in
    record {
      sessions = next.0 ∙ ap (λ fs. map (session_at fs) (range_with_len 0 c.args.count)) (sym (flows_more flows i flow c.loop-flow-test.true c.flow-item.is));
      steps = subst (λ (told : List Said). AreStepsOf c.args.opened.now c.args.home_as told c.take_flow.new.steps.items)
          (sym (told_more flows i flow c.loop-flow-test.true c.flow-item.is c.args.count)) (next.1 (told_by c.args.count flows i) so_far.steps);
    }
