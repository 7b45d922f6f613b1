use Rattle.std.proofs.Common.{arith}
use Rattle.far_side.proofs.Leaving.{leaves_then, stays_young}
use Rattle.far_side.proofs.laws.segments_leave_by_their_fates.Goals as goal

pub returns-clause-leaves : goal.returns-clause-leaves
returns-clause-leaves c = leaves_then

pub returns-clause-begins : goal.returns-clause-begins
returns-clause-begins c = λ fate router. omega arith

pub returns-clause-stays : goal.returns-clause-stays
returns-clause-stays c = stays_young
