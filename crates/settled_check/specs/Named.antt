-- The things that an actor's rest names: those that it still has to do, the lowest of each kind.
use Rattle.std.specs.Prelude.{◌≡◌, ◌<◌, true, Some}
use Rattle.graft_steps.specs.declared.rest.Pending.{Pending}
use Rattle.graft_steps.specs.declared.rest.Pending.TheVariants.{Script, Graft, Bag, Stream, Dirty, DueIn, DueOut}
use Rattle.graft_steps.specs.declared.rest.RouterRest.{RouterRest}
use Rattle.graft_steps.specs.declared.rest.FarRest.{FarRest}
use Rattle.graft_steps.specs.declared.rest.OperatorRest.{OperatorRest}

abbrev pub RouterNames : RouterRest → Pending → Type 0
RouterNames rest (Graft k) = rest.graft ≡ Some k
RouterNames rest (Stream p) = rest.stream ≡ Some p
RouterNames rest (Dirty r) = (rest.dirty ≡ true) × (r ≡ rest.number)
RouterNames rest (DueIn r q) = (rest.due_in ≡ Some q) × (r ≡ rest.number)
RouterNames rest (DueOut p) = rest.due_out ≡ Some p
RouterNames rest other = ⊥

abbrev pub FarNames : FarRest → Pending → Type 0
FarNames rest (Bag p) = (0 < rest.bag) × (p ≡ rest.peering)
FarNames rest (Stream p) = (rest.unacked ≡ true) × (p ≡ rest.peering)
FarNames rest other = ⊥

abbrev pub OperatorNames : OperatorRest → Pending → Type 0
OperatorNames rest Script = rest.unissued ≡ true
OperatorNames rest (Graft k) = rest.graft ≡ Some k
OperatorNames rest other = ⊥
