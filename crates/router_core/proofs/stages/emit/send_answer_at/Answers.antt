use Rattle.std.proofs.Common.{Option, refl, subst}
use Rattle.std.proofs.lemmas.Result.{on_ok_weaker}
use Rattle.tcp_seq.specs.declared.segment.Segment.{Segment}
use Rattle.router_core.specs.Sending.{AtPlace, SessionSentAnswer}
use Rattle.router_core.specs.Places.{place_at}
use Rattle.router_core.proofs.SendSteps.{answer_none, answer_some}
use Rattle.router_core.proofs.stages.emit.send_answer_at.Goals as goal

pub returns-in_default-clause-sent : goal.returns-in_default-clause-sent
returns-in_default-clause-sent c = answer_none c.args.router.now _ c.args.post.now c.args.post.now
    c.args.n c.answer.ensures.place c.requires.keeps c.requires.place refl c.answer.ensures.stays
    (place_at c.args.router.now.places.places c.args.n) refl
    (subst (λ (o : Option Segment). AtPlace SessionSentAnswer (place_at c.args.router.now.places.places c.args.n) o c.answer.ensures.place)
    c.in_default.is c.answer.ensures.goes)

pub returns-clause-sent : goal.returns-clause-sent
returns-clause-sent c = on_ok_weaker c.send.result
    (λ wrote. answer_some c.args.router.now _ c.args.post.now c.send.new.post c.args.n c.answer.ensures.place c.requires.keeps
    c.requires.place refl c.answer.ensures.stays c.outlet_of-outlet.result c.outlet_of-outlet.ensures c.in-Some.segment wrote
    (place_at c.args.router.now.places.places c.args.n) refl
    (subst (λ (o : Option Segment). AtPlace SessionSentAnswer (place_at c.args.router.now.places.places c.args.n) o c.answer.ensures.place)
    c.in-Some.is c.answer.ensures.goes)) c.send.ensures.sent
