use Rattle.std.proofs.Common.{refl, arith}
use Rattle.std.proofs.lemmas.Result.{on_ok_weaker}
use Rattle.router_core.proofs.HearSteps.{drops_told, hears}
use Rattle.router_core.proofs.takes.mesh.hear.Goals as goal

pub returns-then-from-router-clause-took : goal.returns-then-from-router-clause-took
returns-then-from-router-clause-took c = on_ok_weaker c.note_dropped.result (drops_told c.args.router.now c.args.post.now
    c.note_dropped.new.post c.args.from c.args.prefix c.args.route c.requires (omega (arith, c.if-from-router.true))) c.note_dropped.ensures.ok

pub returns-clause-took : goal.returns-clause-took
returns-clause-took c = on_ok_weaker c.set_in.result
    (λ sets. hears c.args.router.now c.args.post.now c.note_router.new.post c.args.from c.args.prefix c.args.route c.requires _ _
    (omega arith) (omega (arith, c.if-from-router.false)) c.in_ok-note_router.ensures.ok refl sets) c.set_in.ensures.ok
