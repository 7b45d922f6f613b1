use Rattle.std.proofs.Common.{length}
use Rattle.audit_router.proofs.Beginning.{Begun}
use Rattle.audit_router.proofs.router.begin_places.Given as goal

-- some sessions begin, and the others have begun
abbrev pub invariant-loop-config : goal.invariant-loop-config
invariant-loop-config l = Begun l.fn.count l.fn.sessions l.left.items l.places.items

abbrev pub decreases-loop-config : goal.decreases-loop-config
decreases-loop-config l = length l.left.items
