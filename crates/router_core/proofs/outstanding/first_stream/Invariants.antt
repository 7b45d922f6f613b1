use Rattle.settled_check.specs.Left.{HasStream}
use Rattle.router_core.specs.Places.{place_of, place_at}
use Rattle.router_core.proofs.RestSteps.{NoneBelow}
use Rattle.router_core.proofs.outstanding.first_stream.Given as goal

-- the first so many have nothing left
abbrev pub invariant-loop-number : goal.invariant-loop-number
invariant-loop-number l = NoneBelow (λ n. HasStream (place_of (place_at l.places.places n))) l.number
