use Rattle.std.proofs.Common.{Option, refl, subst}
use Rattle.std.specs.Prelude.{OnOk}
use Rattle.bgp_session.specs.declared.answers.ReadStep.{ReadStep}
use Rattle.bgp_session.specs.declared.answers.TickStep.{TickStep}
use Rattle.router_core.specs.Reading.{FollowsStep}
use Rattle.router_core.specs.Sending.{AtPlace}
use Rattle.router_core.specs.Ticking.{Ticked}
use Rattle.router_core.specs.Places.{place_at}
use Rattle.router_core.proofs.RoundSteps.{ticks_none, ticks_some}
use Rattle.router_core.proofs.stages.rounds.PassRoundsVisit.visit.Goals as goal

pub returns-in_default-clause-visits : goal.returns-in_default-clause-visits
returns-in_default-clause-visits c = ticks_none c.args.router.now _ c.args.post.now c.args.n c.args.self.now.0
    c.in_ok-step.ensures.place c.requires.keeps c.requires.place refl c.in_ok-step.ensures.stays
    (place_at c.args.router.now.places.places c.args.n) refl
    (subst (λ (o : Option TickStep). AtPlace (Ticked c.args.self.now.0) (place_at c.args.router.now.places.places c.args.n) o c.in_ok-step.ensures.place)
    c.in_default.is c.in_ok-step.ensures.goes)

pub returns-clause-visits : goal.returns-clause-visits
returns-clause-visits c = ticks_some c.follow.result c.args.router.now (record c.args.router.now { places = c.tick.new.places })
    c.follow.new.router c.args.n c.args.self.now.0 c.args.post.now c.note_router.new.post c.in_ok-step.ensures.place c.in-Some.step
    c.requires.keeps c.requires.place refl c.in_ok-step.ensures.stays c.in_ok-note_router.ensures.ok
    (λ s o runs own. subst (λ (st : ReadStep). OnOk c.follow.result (FollowsStep (record c.args.router.now { places = c.tick.new.places })
    c.args.n s st c.follow.new.router)) c.followed.ensures (c.follow.ensures s o runs own))
    (place_at c.args.router.now.places.places c.args.n) refl
    (subst (λ (o : Option TickStep). AtPlace (Ticked c.args.self.now.0) (place_at c.args.router.now.places.places c.args.n) o c.in_ok-step.ensures.place)
    c.in-Some.is c.in_ok-step.ensures.goes)
