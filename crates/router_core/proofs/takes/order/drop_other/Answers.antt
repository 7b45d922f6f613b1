use Rattle.std.proofs.lemmas.Result.{on_ok_weaker}
use Rattle.router_core.proofs.Takings.{drops, other_unwelcome}
use Rattle.router_core.proofs.takes.order.drop_other.Goals as goal

pub returns-clause-took : goal.returns-clause-took
returns-clause-took c = on_ok_weaker c.note_dropped.result
    (λ wrote. drops c.args.router.now c.args.post.now c.note_dropped.new.post c.args.from c.args.item c.requires.keeps wrote
    (other_unwelcome c.args.router.now c.args.from c.args.item c.requires.other)) c.note_dropped.ensures.ok
