use Rattle.std.proofs.Common.{List, ap}
use Rattle.tcp_seq.specs.declared.segment.Segment.{Segment}
use Rattle.audit_far.specs.declared.far.AuditedFar.{AuditedFar}
use Rattle.audit_far.proofs.Given.{gave_none, gave_some}
use Rattle.audit_far.proofs.Rows.{for_remote, reach_made, reach_none}
use Rattle.audit_far.proofs.Segments.{for_is}
use Rattle.audit_far.proofs.far.AuditedFar.reach.Goals as goal

pub arrive-requires : goal.arrive-requires
arrive-requires c =
    let some = gave_some c.args.keep c.args.index c.args.self.now.remoteward c.give.new.bag c.in_ok-segment.field-0 c.in-Some.segment c.in-Some.is
    c.in_ok-segment.ensures.some in
    for_is c.args.self.now c.requires c.in-Some.segment (for_remote c.args.self.now c.requires c.args.index c.in-Some.segment some.0)

pub returns-in_default : goal.returns-in_default
returns-in_default c =
    let none = gave_none c.args.keep c.args.index c.args.self.now.remoteward c.give.new.bag c.in_ok-segment.field-0 c.in_default.is c.in_ok-segment.ensures.none in
    reach_none c.args.self.now _ c.requires c.args.index
    (ap (λ (xs : List Segment). let f : AuditedFar = record c.args.self.now { remoteward = xs } in f) none.1) c.args.keep none.0

pub returns : goal.returns
returns c =
    let some = gave_some c.args.keep c.args.index c.args.self.now.remoteward c.give.new.bag c.in_ok-segment.field-0 c.in-Some.segment c.in-Some.is
    c.in_ok-segment.ensures.some in
    reach_made c.args.self.now _ c.requires c.args.index c.in-Some.segment c.args.keep c.arrive.new.self some.0
    c.in_ok-arrive.ensures.arrives c.in_ok-arrive.ensures.same
    (ap (λ (xs : List Segment). let f : AuditedFar = record c.args.self.now { remote = c.arrive.new.self; remoteward = xs } in f) some.1)
