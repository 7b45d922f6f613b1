use Rattle.std.proofs.Common.{◌≡◌, replicate}
use Rattle.audit_router.specs.declared.place.Place.TheVariants.{Vacant}
use Rattle.audit_router.proofs.router.vacant_places.Given as goal

abbrev pub invariant-loop-p : goal.invariant-loop-p
invariant-loop-p l = l.places.items ≡ replicate l._p Vacant
