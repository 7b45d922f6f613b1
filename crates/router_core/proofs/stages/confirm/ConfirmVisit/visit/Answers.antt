use Rattle.std.proofs.Common.{Option, ℕ, [], ◌∷◌, Some, refl, ap, subst, ◌∙◌}
use Rattle.std.proofs.lemmas.Result.{on_ok_weaker}
use Rattle.graft_steps.specs.declared.item.Item.TheVariants as items
use Rattle.graft_model.specs.declared.event.RouterEvent.TheVariants.{Confirm}
use Rattle.router_core.specs.Confirming.{TakesWord}
use Rattle.router_core.specs.Rounds.{WritesEvent}
use Rattle.router_core.specs.Places.{place_at}
use Rattle.router_core.specs.declared.stages.confirm.Word.{Word}
use Rattle.router_core.proofs.ConfirmSteps.{says_nothing, asks_next, tells_source}
use Rattle.router_core.proofs.stages.confirm.ConfirmVisit.visit.Goals as goal

pub returns-in-Some-Ask-clause-visits : goal.returns-in-Some-Ask-clause-visits
returns-in-Some-Ask-clause-visits c = on_ok_weaker c.note_router_sent.result
    (λ wrote. asks_next c.args.router.now _ c.args.post.now c.note_router_sent.new.post c.args.n c.take_word.ensures.place c.requires.keeps
    c.requires.place refl c.take_word.ensures.stays c.requires.needs.clean c.requires.needs.told c.in-Some-Ask.ids c.in-Some-Ask.asked wrote
    (place_at c.args.router.now.places.places c.args.n) refl
    (subst (λ (o : Option Word). TakesWord c.args.router.now.routers (place_at c.args.router.now.places.places c.args.n) o c.take_word.ensures.place)
    (c.in-Some-Ask.is ∙ ap Some c.in-Some-Ask.field-0-is) c.take_word.ensures.goes)) c.note_router_sent.ensures.ok

pub returns-in-Some-Confirm-clause-visits : goal.returns-in-Some-Confirm-clause-visits
returns-in-Some-Confirm-clause-visits c = on_ok_weaker c.note_router_sent-in-Some-Confirm.result
    (λ wrote. tells_source c.args.router.now _ c.args.post.now c.note_router_sent-in-Some-Confirm.new.post c.args.n c.take_word.ensures.place
    c.requires.keeps c.requires.place refl c.take_word.ensures.stays c.requires.needs.clean c.requires.needs.told c.in-Some-Confirm.ids
    (subst (λ (n : ℕ). WritesEvent c.args.post.now (Confirm c.in-Some-Confirm.ids.graft)
    ((n, items.Done c.in-Some-Confirm.ids.graft c.in-Some-Confirm.ids.peering) ∷ []) c.note_router_sent-in-Some-Confirm.new.post)
    c.from-source.ensures wrote)
    (place_at c.args.router.now.places.places c.args.n) refl
    (subst (λ (o : Option Word). TakesWord c.args.router.now.routers (place_at c.args.router.now.places.places c.args.n) o c.take_word.ensures.place)
    (c.in-Some-Confirm.is ∙ ap Some c.in-Some-Confirm.field-0-is) c.take_word.ensures.goes)) c.note_router_sent-in-Some-Confirm.ensures.ok

pub returns-in-None-clause-visits : goal.returns-in-None-clause-visits
returns-in-None-clause-visits c = says_nothing c.args.router.now _ c.args.post.now c.args.post.now
    c.args.n c.take_word.ensures.place c.requires.keeps c.requires.place refl c.take_word.ensures.stays
    (place_at c.args.router.now.places.places c.args.n) refl
    (subst (λ (o : Option Word). TakesWord c.args.router.now.routers (place_at c.args.router.now.places.places c.args.n) o c.take_word.ensures.place)
    c.in-None.is c.take_word.ensures.goes)
