use Rattle.std.proofs.lemmas.Bool.{false≢true}
use Rattle.std.proofs.lemmas.Option.{none-some}
use Rattle.audit_router.proofs.Landings.{asks_as}
use Rattle.audit_router.proofs.place.Place.asks.Goals as goal

pub returns-in-Some : goal.returns-in-Some
returns-in-Some c = asks_as c.args.graft c.args.self.now c.args.routers c.in-Some.landed.now c.in-Some.ensures c.next.result c.next.ensures.some
    c.next.ensures.none c.args.router c.eq.result c.eq.ensures

pub returns-in-None : goal.returns-in-None
returns-in-None c = (λ yes. absurd (false≢true yes), λ may. absurd (none-some may.landing ((c.in-None.ensures may.landing).1 may.owed)))
