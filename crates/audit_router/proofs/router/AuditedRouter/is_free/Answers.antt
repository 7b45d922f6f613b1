use Rattle.std.proofs.Common.{◌≡◌, ◌<◌, List, None, ap, arith, length, subst, sym}
use Rattle.std.specs.Prelude.{◌↔◌, IsTrue, slice_index_or}
use Rattle.std.proofs.lemmas.Bool.{ltb-true}
use Rattle.bgp_session.specs.Running.{RunningSession}
use Rattle.audit_router.specs.declared.place.Place.{Place}
use Rattle.audit_router.specs.declared.place.Place.TheVariants.{Live}
use Rattle.audit_router.proofs.Searching.{read_is}
use Rattle.audit_router.proofs.router.AuditedRouter.is_free.Goals as goal

pub returns-in-Some : goal.returns-in-Some
returns-in-Some c =
    let places = c.args.self.now.places.items in
    let deref = c.deref.ensures.value in
    let size = ap (λ (xs : List Place). length xs) deref in
    let less : c.args.p < length c.deref.result.now = ltb-true _ _ (sym c.in-Some.ensures.lookup.0) in
    let there : c.args.p < length places = omega (arith, less, size) in
    let here = read_is places c.args.p c.in-Some.place.now there
    (subst (λ (xs : List Place). c.in-Some.place.now ≡ slice_index_or xs c.args.p c.in-Some.place.now) deref c.in-Some.ensures.lookup.1) in
    subst (λ (x : Place). IsTrue c.is_free.result ↔ ((s : RunningSession) × (x ≡ Live s None))) here c.is_free.ensures
