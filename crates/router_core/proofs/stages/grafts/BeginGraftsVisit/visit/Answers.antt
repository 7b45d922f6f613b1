use Rattle.std.proofs.Common.{ℕ, [], ◌∷◌, refl, subst}
use Rattle.std.proofs.lemmas.Result.{on_ok_weaker}
use Rattle.graft_steps.specs.declared.item.Item.TheVariants as items
use Rattle.graft_steps.specs.declared.refusal.Outcome.TheVariants as outcomes
use Rattle.graft_model.specs.declared.event.RouterEvent.TheVariants.{Leave, Refuse}
use Rattle.router_core.specs.Rounds.{WritesEvent}
use Rattle.router_core.specs.Leaving.{BegunAs}
use Rattle.router_core.specs.declared.stages.grafts.Begun.{Begun}
use Rattle.router_core.specs.Places.{place_at}
use Rattle.router_core.proofs.LeaveSteps.{begins_left, begins_nothing, begins_refused}
use Rattle.router_core.proofs.stages.grafts.BeginGraftsVisit.visit.Goals as goal

pub returns-in-Nothing-clause-visits : goal.returns-in-Nothing-clause-visits
returns-in-Nothing-clause-visits c = begins_nothing c.args.router.now _ c.args.post.now c.args.post.now
    c.args.n c.begin_graft.ensures.place c.requires.keeps c.requires.place refl c.begin_graft.ensures.stays
    (place_at c.args.router.now.places.places c.args.n) refl
    (subst (λ (b : Begun). BegunAs (place_at c.args.router.now.places.places c.args.n) b c.begin_graft.ensures.place)
    c.in-Nothing.is c.begin_graft.ensures.goes)

pub returns-in-Refused-clause-visits : goal.returns-in-Refused-clause-visits
returns-in-Refused-clause-visits c = on_ok_weaker c.note_router_sent.result
    (λ wrote. begins_refused c.args.router.now _ c.args.post.now c.note_router_sent.new.post c.args.n c.begin_graft.ensures.place
    c.requires.keeps c.requires.place refl c.begin_graft.ensures.stays c.in-Refused.ids c.in-Refused.refusal
    (subst (λ (n : ℕ). WritesEvent c.args.post.now (Refuse c.in-Refused.ids.graft)
    ((n, items.Report c.in-Refused.ids.graft (outcomes.Refused c.in-Refused.refusal)) ∷ []) c.note_router_sent.new.post)
    c.operator-operator.ensures wrote)
    (place_at c.args.router.now.places.places c.args.n) refl
    (subst (λ (b : Begun). BegunAs (place_at c.args.router.now.places.places c.args.n) b c.begin_graft.ensures.place)
    c.in-Refused.is c.begin_graft.ensures.goes)) c.note_router_sent.ensures.ok

pub returns-in_ok-note_router-in-Left-clause-visits : goal.returns-in_ok-note_router-in-Left-clause-visits
returns-in_ok-note_router-in-Left-clause-visits c = on_ok_weaker c.note_router_sent-in-Left.result
    (λ wrote. begins_left c.args.router.now _ c.args.post.now c.note_router_sent-in-Left.new.post c.args.n
    c.begin_graft.ensures.place c.requires.keeps c.requires.place c.note_router.new.post refl c.begin_graft.ensures.stays
    c.clear.ensures.cleared c.clear.ensures.length c.in-Left.ids c.in-Left.capsule c.in_ok-note_router-in-Left.ensures.ok
    (subst (λ (n : ℕ). WritesEvent c.note_router.new.post (Leave c.in-Left.ids.graft)
    ((n, items.Moved c.in-Left.ids.graft c.in-Left.capsule) ∷ []) c.note_router_sent-in-Left.new.post) c.from-target.ensures wrote)
    (place_at c.args.router.now.places.places c.args.n) refl
    (subst (λ (b : Begun). BegunAs (place_at c.args.router.now.places.places c.args.n) b c.begin_graft.ensures.place)
    c.in-Left.is c.begin_graft.ensures.goes)) c.note_router_sent-in-Left.ensures.ok
