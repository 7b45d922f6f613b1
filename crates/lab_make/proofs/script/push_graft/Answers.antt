use Rattle.std.proofs.Common.{append_assoc}
use Rattle.lab_make.proofs.script.push_graft.Goals as goal

pub returns : goal.returns
returns c = rw (c.in_ok-push_numbered.ensures, c.moved_by-peering.ensures, c.target_of-target.ensures, append_assoc) at c.push_numbered-2.ensures
