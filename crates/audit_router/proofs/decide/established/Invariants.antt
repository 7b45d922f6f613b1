use Rattle.std.proofs.Common.{◌≡◌, map, take}
use Rattle.graft_model.specs.TableRows.{holds_established}
use Rattle.audit_router.specs.Places.{place_of}
use Rattle.audit_router.proofs.decide.established.Given as goal

abbrev pub invariant-loop-place : goal.invariant-loop-place
invariant-loop-place l = l.up.items ≡ map (λ place. holds_established (place_of place)) (take l.place-index l.places)
