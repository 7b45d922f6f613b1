use Rattle.std.proofs.Common.{Option, refl, subst}
use Rattle.std.proofs.lemmas.Result.{on_ok_weaker}
use Rattle.tcp_seq.specs.declared.segment.Segment.{Segment}
use Rattle.router_core.specs.Sending.{AtPlace, SessionSentAgain}
use Rattle.router_core.specs.Places.{place_at}
use Rattle.router_core.proofs.SendSteps.{again_none, again_some}
use Rattle.router_core.proofs.stages.again.SendAgainVisit.visit.Goals as goal

pub returns-in_default-clause-visits : goal.returns-in_default-clause-visits
returns-in_default-clause-visits c = again_none c.args.router.now _ c.args.post.now c.args.post.now c.args.n
    c.in_ok-segment.ensures.place c.requires.keeps c.requires.place refl c.in_ok-segment.ensures.stays
    (place_at c.args.router.now.places.places c.args.n) refl
    (subst (λ (o : Option Segment). AtPlace SessionSentAgain (place_at c.args.router.now.places.places c.args.n) o c.in_ok-segment.ensures.place)
    c.in_default.is c.in_ok-segment.ensures.goes)

pub returns-clause-visits : goal.returns-clause-visits
returns-clause-visits c = on_ok_weaker c.send.result
    (λ wrote. again_some c.args.router.now _ c.args.post.now c.send.new.post c.args.n c.in_ok-segment.ensures.place c.requires.keeps
    c.requires.place refl c.in_ok-segment.ensures.stays c.outlet_of-outlet.result c.outlet_of-outlet.ensures c.in-Some.segment wrote
    (place_at c.args.router.now.places.places c.args.n) refl
    (subst (λ (o : Option Segment). AtPlace SessionSentAgain (place_at c.args.router.now.places.places c.args.n) o c.in_ok-segment.ensures.place)
    c.in-Some.is c.in_ok-segment.ensures.goes)) c.send.ensures.sent
