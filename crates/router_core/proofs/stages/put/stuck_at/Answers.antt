use Rattle.std.proofs.Common.{ℕ, Option, refl, subst}
use Rattle.router_core.specs.Parts.{router_part}
use Rattle.router_core.specs.Places.{place_at}
use Rattle.router_core.specs.Updates.{RoomAnswer}
use Rattle.router_core.proofs.StuckPlaces.{late_by_place, some_stuck}
use Rattle.router_core.proofs.stages.put.stuck_at.Goals as goal

pub returns-in-Some : goal.returns-in-Some
returns-in-Some c =
    let f = c.args.router.now in
    some_stuck f c.args.n c.in-Some.length
    (subst (λ (a : Option ℕ). RoomAnswer f.known.setup f.number.0 (router_part f) c.args.n a) c.in-Some.is c.in_ok-length.ensures)

pub returns-in-None : goal.returns-in-None
returns-in-None c =
    let f = c.args.router.now in
    late_by_place f c.args.n (subst (λ (a : Option ℕ). RoomAnswer f.known.setup f.number.0 (router_part f) c.args.n a) c.in-None.is c.in_ok-length.ensures)
    (place_at f.places.places c.args.n) refl c.late_at.result c.late_at.ensures
