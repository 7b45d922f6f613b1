use Rattle.std.proofs.Common.{ℕ, None, refl, arith, ap, subst, sym, ◌∙◌}
use Rattle.std.proofs.lemmas.Result.{on_ok_weaker}
use Rattle.session_places.specs.Places.{with_place}
use Rattle.router_core.specs.Places.{IsShadowOf, place_at}
use Rattle.router_core.proofs.GraftSteps.{drops_done, clears}
use Rattle.router_core.proofs.takes.graft.take_done.Goals as goal

pub returns-then-from-router-clause-took : goal.returns-then-from-router-clause-took
returns-then-from-router-clause-took c = on_ok_weaker c.note_dropped.result
    (drops_done c.args.router.now c.args.post.now c.note_dropped.new.post c.args.from c.args.graft c.args.peering c.requires
    (λ below there away. omega (arith, below, c.if-from-router.true))) c.note_dropped.ensures.ok

pub returns-then-place-len-clause-took : goal.returns-then-place-len-clause-took
returns-then-place-len-clause-took c = on_ok_weaker c.note_dropped-then-place-len.result
    (drops_done c.args.router.now c.args.post.now c.note_dropped-then-place-len.new.post c.args.from c.args.graft c.args.peering c.requires
    (λ below there away. omega (arith, there, c.if-place-len.true, c.len.ensures, c.from-place.ensures))) c.note_dropped-then-place-len.ensures.ok

pub returns-then-not-is_away-clause-took : goal.returns-then-not-is_away-clause-took
returns-then-not-is_away-clause-took c = on_ok_weaker c.note_dropped-then-not-is_away.result
    (drops_done c.args.router.now c.args.post.now c.note_dropped-then-not-is_away.new.post c.args.from c.args.graft c.args.peering c.requires
    (λ below there away. c.if-not-is_away.ensures
    (subst (λ (n : ℕ). IsShadowOf (place_at c.args.router.now.places.places n) c.args.graft)
    (sym c.from-place.ensures) away))) c.note_dropped-then-not-is_away.ensures.ok

pub returns-clause-took : goal.returns-clause-took
returns-clause-took c =
    clears c.args.router.now c.args.post.now c.note_router_sent.new.post c.args.from c.args.graft c.args.peering c.requires _ _
    (omega (arith, c.if-from-router.false)) (omega (arith, c.if-place-len.false, c.len.ensures, c.from-place.ensures))
    (subst (λ (n : ℕ). IsShadowOf (place_at c.args.router.now.places.places n) c.args.graft) c.from-place.ensures c.if-not-is_away.ensures)
    (omega (arith, c.len-2.ensures)) c.in_ok-note_router_sent.ensures.ok refl
    (c.remove.ensures.vacant ∙ ap (λ (n : ℕ). with_place c.args.router.now.places n None) c.from-place.ensures) c.in_ok-drop_from.ensures.ok.0
    c.in_ok-drop_from.ensures.ok.1
