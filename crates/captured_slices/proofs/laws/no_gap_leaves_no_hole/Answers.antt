use Rattle.captured_slices.proofs.Gaps.{no_hole}
use Rattle.captured_slices.proofs.laws.no_gap_leaves_no_hole.Goals as goal

pub returns : goal.returns
returns c = no_hole
