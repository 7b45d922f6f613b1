use Rattle.std.proofs.Common.{ℕ, Some, refl, arith, ap, subst, sym, ◌∙◌}
use Rattle.std.proofs.lemmas.Result.{on_ok_weaker}
use Rattle.session_places.specs.Places.{with_place}
use Rattle.router_core.specs.Places.{IsLiveWithoutErrand, place_at}
use Rattle.router_core.specs.declared.place.Errand.TheVariants.{Leaving}
use Rattle.router_core.specs.declared.place.Place.TheVariants.{Live}
use Rattle.router_core.proofs.GraftSteps.{drops_order, admits}
use Rattle.router_core.proofs.takes.order.admit.Goals as goal

pub returns-then-from-router-clause-took : goal.returns-then-from-router-clause-took
returns-then-from-router-clause-took c = on_ok_weaker c.note_dropped.result
    (drops_order c.args.router.now c.args.post.now c.note_dropped.new.post c.args.from c.args.graft c.args.peering c.args.target c.requires
    (λ number known there free. omega (arith, number, c.if-from-router.true, c.len.ensures))) c.note_dropped.ensures.ok

pub returns-then-from-router-2-clause-took : goal.returns-then-from-router-2-clause-took
returns-then-from-router-2-clause-took c = on_ok_weaker c.note_dropped-then-from-router-2.result (drops_order c.args.router.now
    c.args.post.now c.note_dropped-then-from-router-2.new.post c.args.from c.args.graft c.args.peering c.args.target c.requires
    (λ number known there free. omega (arith, known, c.if-from-router-2.true, c.from.ensures))) c.note_dropped-then-from-router-2.ensures.ok

pub returns-then-place-len-clause-took : goal.returns-then-place-len-clause-took
returns-then-place-len-clause-took c = on_ok_weaker c.note_dropped-then-place-len.result
    (drops_order c.args.router.now c.args.post.now c.note_dropped-then-place-len.new.post c.args.from c.args.graft c.args.peering c.args.target c.requires
    (λ number known there free. omega (arith, there, c.if-place-len.true, c.len-2.ensures, c.from-place.ensures))) c.note_dropped-then-place-len.ensures.ok

pub returns-then-not-is_free-clause-took : goal.returns-then-not-is_free-clause-took
returns-then-not-is_free-clause-took c = on_ok_weaker c.note_dropped-then-not-is_free.result
    (drops_order c.args.router.now c.args.post.now c.note_dropped-then-not-is_free.new.post c.args.from c.args.graft c.args.peering c.args.target c.requires
    (λ number known there free. c.if-not-is_free.ensures
    (subst (λ (n : ℕ). IsLiveWithoutErrand (place_at c.args.router.now.places.places n))
    (sym c.from-place.ensures) free))) c.note_dropped-then-not-is_free.ensures.ok

pub returns-clause-took : goal.returns-clause-took
returns-clause-took c =
    let free : IsLiveWithoutErrand (place_at c.args.router.now.places.places c.args.peering.0) =
    subst (λ (n : ℕ). IsLiveWithoutErrand (place_at c.args.router.now.places.places n)) c.from-place.ensures c.if-not-is_free.ensures in
    admits c.args.router.now c.args.post.now c.note_router.new.post c.args.from c.args.graft
    c.args.peering c.args.target c.requires _ free.session c.new-ordered.result
    (omega (arith, c.if-from-router.false, c.len.ensures)) (omega (arith, c.if-from-router-2.false, c.from.ensures))
    (omega (arith, c.if-place-len.false, c.len-2.ensures, c.from-place.ensures)) free.is c.new-ordered.ensures c.in_ok-note_router.ensures.ok refl
    (c.store.ensures free.session (ap (place_at c.args.router.now.places.places) c.from-place.ensures ∙ free.is)
    ∙ ap (λ (n : ℕ). with_place c.args.router.now.places n (Some (Live free.session (Some (Leaving c.new-ordered.result))))) c.from-place.ensures)
