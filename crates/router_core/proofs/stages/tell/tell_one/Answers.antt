use Rattle.std.proofs.Common.{refl}
use Rattle.std.proofs.lemmas.Result.{on_ok_weaker}
use Rattle.router_core.proofs.TellSteps.{tells_one}
use Rattle.router_core.proofs.stages.tell.tell_one.Goals as goal

pub returns-clause-told : goal.returns-clause-told
returns-clause-told c = on_ok_weaker c.note_router_sent.result
    (tells_one c.args.router.now _ c.args.post.now c.note_router_sent.new.post c.args.q c.args.prefix c.in_ok-route.route c.requires.keeps c.requires.clean
    c.requires.there c.requires.due c.in_ok-route.ensures refl c.remove.ensures.length c.remove.ensures.removed) c.note_router_sent.ensures.ok
