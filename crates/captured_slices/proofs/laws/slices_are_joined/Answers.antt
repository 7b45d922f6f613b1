use Rattle.captured_slices.proofs.Joining.{slices_joined}
use Rattle.captured_slices.proofs.laws.slices_are_joined.Goals as goal

pub returns : goal.returns
returns c = slices_joined
