use Rattle.std.proofs.Common.{refl}
use Rattle.route_policy.proofs.laws.worked_candidates.Goals as goal

pub returns-clause-raised : goal.returns-clause-raised
returns-clause-raised c = refl

pub returns-clause-looped : goal.returns-clause-looped
returns-clause-looped c = refl

pub returns-clause-order : goal.returns-clause-order
returns-clause-order c = refl

pub returns-clause-ranks : goal.returns-clause-ranks
returns-clause-ranks c = refl
