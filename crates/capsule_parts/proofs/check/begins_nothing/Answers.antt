use Rattle.std.proofs.Common.{Option, Some, None, Ok, Err, subst}
use Rattle.bgp_frame.specs.declared.front.FrontFrame.{FrontFrame}
use Rattle.bgp_frame.specs.Next.{IsFrontOf}
use Rattle.bgp_session.proofs.Fronts.{begins_nothing, first_frame, some_fault}
use Rattle.capsule_parts.proofs.Frames.{begins_some}
use Rattle.capsule_parts.proofs.check.begins_nothing.Goals as goal

pub returns-in-Ok-None : goal.returns-in-Ok-None
returns-in-Ok-None c =
    let b : IsFrontOf (Ok None) c.args.octets.now =
    subst (λ (o : Option FrontFrame). IsFrontOf (Ok o) c.args.octets.now) c.in-Ok-None.field-0-is c.in-Ok-None.ensures.front in
    begins_nothing c.args.octets.now b.0 b.1

pub returns-in-Ok-Some : goal.returns-in-Ok-Some
returns-in-Ok-Some c =
    let b : IsFrontOf (Ok (Some c.in-Ok-Some._front)) c.args.octets.now =
    subst (λ (o : Option FrontFrame). IsFrontOf (Ok o) c.args.octets.now) c.in-Ok-Some.field-0-is c.in-Ok-Some.ensures.front in
    begins_some c.args.octets.now (first_frame c.args.octets.now c.in-Ok-Some._front.len b.0)

pub returns-in-Err : goal.returns-in-Err
returns-in-Err c =
    let b : IsFrontOf (Err c.in-Err._fault) c.args.octets.now = c.in-Err.ensures.front in
    begins_some c.args.octets.now (some_fault c.args.octets.now c.in-Err._fault b.0 b.1)
