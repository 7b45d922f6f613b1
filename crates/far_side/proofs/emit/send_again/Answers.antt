use Rattle.std.proofs.Common.{ℕ, Option, [], length, refl, sym, subst}
use Rattle.std.specs.Prelude.{IsNone}
use Rattle.std.proofs.lemmas.Result.{on_ok_weaker}
use Rattle.tcp_seq.specs.Endpoint.{EmitsAgain}
use Rattle.tcp_seq.specs.declared.segment.Segment.{Segment}
use Rattle.remote_end.specs.Remotes.{EmitsOf}
use Rattle.graft_actors.specs.Notes.{WroteOne}
use Rattle.far_side.proofs.EmitSteps.{late_from, sent_again_each, sent_again_none_each}
use Rattle.far_side.proofs.emit.send_again.Goals as goal
use Rattle.graft_model.specs.declared.event.FarEvent.TheVariants.{Send}
use Rattle.graft_model.specs.Codes.{far_code}

pub returns-in_default-clause-sent : goal.returns-in_default-clause-sent
returns-in_default-clause-sent g c = sent_again_none_each c.args.far.now _ c.args.post.now c.args.post.now c.again.new.self c.requires c.again.ensures.sound
    (c.in_ok-segment.ensures.none.0 (subst (λ (o : Option Segment). IsNone o) (sym c.in_default.is) refl))
    (subst (λ (o : Option Segment). EmitsOf EmitsAgain c.args.far.now.remote o c.again.new.self.end) c.in_default.is c.in_ok-segment.ensures.emits)
    c.in_ok-segment.ensures.same refl

pub returns-clause-sent : goal.returns-clause-sent
returns-clause-sent g c = on_ok_weaker c.send.result
    (λ sent. sent_again_each c.args.far.now c.send.new.far c.args.post.now c.send.new.post c.again.new.self c.requires c.in-Some.segment c.again.ensures.sound
    (late_from c.args.far.now.remote c.in_ok-segment.field-0 c.in-Some.segment c.in-Some.is c.in_ok-segment.ensures.none)
    (subst (λ (o : Option Segment). EmitsOf EmitsAgain c.args.far.now.remote o c.again.new.self.end) c.in-Some.is c.in_ok-segment.ensures.emits)
    c.in_ok-segment.ensures.same sent.1
    (subst (λ (n : ℕ). WroteOne c.args.post.now (far_code (Send n (length c.in-Some.segment.bytes))) [] c.send.new.post)
    c.acked-from.ensures sent.0)) c.send.ensures.sent
