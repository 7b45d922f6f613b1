use Rattle.std.proofs.Common.{append_assoc}
use Rattle.lab_make.proofs.tables.push_router.Goals as goal

pub returns : goal.returns
returns c = rw (c.in_ok-push_numbered.ensures, append_assoc) at c.push_numbered-2.ensures
