use Rattle.std.proofs.Common.{append_assoc}
use Rattle.expect_view.proofs.whole.push_counts.Goals as goal

pub returns : goal.returns
returns c = simp append_assoc c.in_ok-write.ensures.bytes
