use Rattle.std.proofs.Common.{ℕ, refl, arith, ap, subst, ◌∙◌}
use Rattle.std.proofs.lemmas.Result.{on_ok_weaker}
use Rattle.session_places.specs.Places.{with_place}
use Rattle.router_core.specs.Confirming.{HearsAnswer}
use Rattle.router_core.specs.Places.{place_at}
use Rattle.router_core.proofs.AnswerSteps.{drops_answered, collects}
use Rattle.router_core.proofs.takes.graft.take_answered.Goals as goal

pub returns-then-from-router-clause-took : goal.returns-then-from-router-clause-took
returns-then-from-router-clause-took c = on_ok_weaker c.note_dropped.result (drops_answered c.args.router.now c.args.post.now
    c.note_dropped.new.post c.args.from c.args.graft c.args.peering c.requires (omega (arith, c.if-from-router.true))) c.note_dropped.ensures.ok

pub returns-clause-took : goal.returns-clause-took
returns-clause-took c =
    collects c.args.router.now c.args.post.now c.note_router.new.post c.args.from c.args.graft c.args.peering c.requires
    (omega (arith, c.if-from-router.false)) _ c.hear_answer.ensures.place c.in_ok-note_router.ensures.ok refl
    (c.hear_answer.ensures.stays ∙ ap (λ (n : ℕ). with_place c.args.router.now.places n c.hear_answer.ensures.place) c.from-place.ensures)
    (place_at c.args.router.now.places.places c.args.peering.0) refl
    (subst (λ (n : ℕ). HearsAnswer c.args.graft c.args.from (place_at c.args.router.now.places.places n) c.hear_answer.ensures.place)
    c.from-place.ensures c.hear_answer.ensures.goes)
