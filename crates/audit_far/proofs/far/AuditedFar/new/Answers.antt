use Rattle.audit_far.proofs.Begins.{begun_first, begun_stands}
use Rattle.audit_far.proofs.far.AuditedFar.new.Goals as goal

pub returns-clause-first : goal.returns-clause-first
returns-clause-first c = begun_first c.args.known c.args.config c.in_ok-new.field-0 c.in_ok-new-2.field-0 c.new-3.result c.new-4.result
    c.requires c.in_ok-new.ensures c.in_ok-new-2.ensures c.new-3.ensures c.new-4.ensures

pub returns-clause-sound : goal.returns-clause-sound
returns-clause-sound c = begun_stands c.args.known c.args.config c.in_ok-new.field-0 c.in_ok-new-2.field-0 c.new-3.result c.new-4.result
    c.requires c.in_ok-new.ensures c.in_ok-new-2.ensures c.new-3.ensures c.new-4.ensures
