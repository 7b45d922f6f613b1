use Rattle.audit_tables.specs.Groups.{IsPending}
use Rattle.audit_tables.proofs.Alike.{empty_is}
use Rattle.audit_tables.proofs.pending.Pending.is_empty.Goals as goal

pub returns : goal.returns
returns c = λ telling are. empty_is (IsPending telling) telling.to_tell c.args.self.now.groups.contents are c.len.result c.len.ensures
