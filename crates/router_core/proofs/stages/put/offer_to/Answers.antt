use Rattle.std.proofs.Common.{refl, sym, ap, subst, true, false, ◌<◌, Err, Option, Some}
use Rattle.router_core.specs.Putting.{OfferedAt}
use Rattle.router_core.specs.declared.place.Place.{Place}
use Rattle.router_core.specs.declared.place.Place.TheVariants.{Live}
use Rattle.router_core.proofs.stages.put.offer_to.Goals as goal

pub returns-in-Ok : goal.returns-in-Ok
returns-in-Ok c = subst (λ (x : Option Place). OfferedAt true c.args.update x (Some (Live c.offer.new.self c.in-Live.errand))) (sym (ap Some c.in-Live.is))
    (c.offer.new.self, refl, record { puts = c.in-Ok.ensures.ok; same_turn = c.in-Ok.ensures.same_turn })

pub returns-in-Err-StreamFull : goal.returns-in-Err-StreamFull
returns-in-Err-StreamFull c =
    let full = c.in-Err-StreamFull.ensures.only_full c.in-Err-StreamFull.field-0-0 (ap Err c.in-Err-StreamFull.field-0-is) in
    subst (λ (x : Option Place). OfferedAt false c.args.update x (Some (Live c.offer.new.self c.in-Live.errand))) (sym (ap Some c.in-Live.is))
    (c.offer.new.self, refl, record { full = subst (λ n. 1044480 < n) full.0 full.1; same = full.2 })
