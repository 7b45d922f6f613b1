use Rattle.std.proofs.Common.{ℕ, [], length, subst}
use Rattle.std.proofs.lemmas.Result.{on_ok_weaker}
use Rattle.graft_actors.specs.Notes.{WroteOne}
use Rattle.far_side.proofs.EmitSteps.{sent_answer_each}
use Rattle.far_side.proofs.emit.send_answer.Goals as goal
use Rattle.graft_model.specs.declared.event.FarEvent.TheVariants.{Send}
use Rattle.graft_model.specs.Codes.{far_code}

pub returns-clause-sent : goal.returns-clause-sent
returns-clause-sent g c = on_ok_weaker c.send.result
    (λ sent. sent_answer_each c.args.far.now c.send.new.far c.args.post.now c.send.new.post
    c.answer.new.self c.requires c.in-Some.segment c.in-Some.ensures.emits c.in-Some.ensures.same sent.1
    (subst (λ (n : ℕ). WroteOne c.args.post.now (far_code (Send n (length c.in-Some.segment.bytes))) [] c.send.new.post)
    c.emitted-from.ensures sent.0)) c.send.ensures.sent
