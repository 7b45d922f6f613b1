use Rattle.std.proofs.Common.{List, ap, arith, refl}
use Rattle.tcp_seq.specs.declared.segment.Segment.{Segment}
use Rattle.audit_far.specs.declared.far.AuditedFar.{AuditedFar}
use Rattle.audit_far.proofs.Given.{gave_none, gave_some}
use Rattle.audit_far.proofs.Rows.{pass_made, pass_none, pass_nowhere}
use Rattle.audit_far.proofs.far.AuditedFar.pass.Goals as goal

pub returns-then-router-self : goal.returns-then-router-self
returns-then-router-self c = pass_nowhere c.args.self.now c.args.self.now c.requires c.args.index refl c.args.keep c.args.router
    (omega (arith, c.if-router-self.true))

pub returns-in_default : goal.returns-in_default
returns-in_default c =
    let none = gave_none c.args.keep c.args.index c.args.self.now.homeward c.give.new.bag c.in_ok-segment.field-0 c.in_default.is c.in_ok-segment.ensures.none in
    pass_none c.args.self.now _ c.requires c.args.index
    (ap (λ (xs : List Segment). let f : AuditedFar = record c.args.self.now { homeward = xs } in f) none.1) c.args.keep c.args.router none.0

pub returns : goal.returns
returns c =
    let some = gave_some c.args.keep c.args.index c.args.self.now.homeward c.give.new.bag c.in_ok-segment.field-0 c.in-Some.segment c.in-Some.is
    c.in_ok-segment.ensures.some in
    pass_made c.args.self.now _ c.requires c.args.index c.in-Some.segment c.args.keep c.args.router
    (omega (arith, c.if-router-self.false, c.requires.routers)) some.0
    (ap (λ (xs : List Segment). let f : AuditedFar = record c.args.self.now { homeward = xs } in f) some.1)
