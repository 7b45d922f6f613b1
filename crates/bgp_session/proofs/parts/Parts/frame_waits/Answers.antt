use Rattle.std.proofs.Common.{ℕ, List, Option, Some, None, Ok, Err, rules, subst}
use Rattle.bgp_frame.specs.declared.front.FrontFrame.{FrontFrame}
use Rattle.bgp_frame.specs.Next.{IsFrontOf}
use Rattle.bgp_session.proofs.Fronts.{first_frame, some_fault}
use Rattle.bgp_session.proofs.Reading.{can_read, cant_read}
use Rattle.bgp_session.proofs.parts.Parts.frame_waits.Goals as goal

pub returns-in-Ok-None : goal.returns-in-Ok-None
returns-in-Ok-None c =
    let b : IsFrontOf (Ok None) c.args.self.now.end.ready = subst (λ (bytes : List ℕ). IsFrontOf (Ok None) bytes) c.ready.ensures
    (subst (λ (o : Option FrontFrame). IsFrontOf (Ok o) c.ready.result.now) c.in-Ok-None.field-0-is c.in-Ok-None.ensures.front) in
    cant_read c.args.self.now c.requires b.0 b.1

pub returns-in-Ok-Some : goal.returns-in-Ok-Some
returns-in-Ok-Some c =
    let b : IsFrontOf (Ok (Some c.in-Ok-Some._front)) c.args.self.now.end.ready =
    subst (λ (bytes : List ℕ). IsFrontOf (Ok (Some c.in-Ok-Some._front)) bytes) c.ready.ensures
    (subst (λ (o : Option FrontFrame). IsFrontOf (Ok o) c.ready.result.now) c.in-Ok-Some.field-0-is c.in-Ok-Some.ensures.front) in
    can_read c.args.self.now c.requires (search rules) (first_frame c.args.self.now.end.ready c.in-Ok-Some._front.len b.0)

pub returns-in-Err : goal.returns-in-Err
returns-in-Err c =
    let b : IsFrontOf (Err c.in-Err._fault) c.args.self.now.end.ready =
    subst (λ (bytes : List ℕ). IsFrontOf (Err c.in-Err._fault) bytes) c.ready.ensures c.in-Err.ensures.front in
    can_read c.args.self.now c.requires (search rules) (some_fault c.args.self.now.end.ready c.in-Err._fault b.0 b.1)
