use Rattle.bounded_moves.proofs.Bounded.{moves_bounded}
use Rattle.bounded_moves.proofs.moves_are_bounded.Goals as goal

pub returns : goal.returns
returns c = λ setup faults journal marks sound real t r k within freezes sends hears.
    moves_bounded setup faults journal marks sound real t r k within freezes sends hears
