use Rattle.std.proofs.Common.{true, refl, sym, subst, Option, Some, ap}
use Rattle.router_core.specs.Reading.{ArrivesAt}
use Rattle.router_core.specs.declared.place.Place.{Place}
use Rattle.router_core.specs.declared.place.Place.TheVariants.{Live}
use Rattle.router_core.proofs.place.Place.arrive.Goals as goal

pub returns-in_ok-arrive-in-Live : goal.returns-in_ok-arrive-in-Live
returns-in_ok-arrive-in-Live c = subst (λ (p : Option Place). ArrivesAt true p c.args.segment.now (Some (Live c.arrive.new.self c.in-Live.errand)))
    (sym (ap Some c.in-Live.is)) (refl, c.in_ok-arrive-in-Live.field-0, c.arrive.new.self, c.in_ok-arrive-in-Live.ensures, refl)
