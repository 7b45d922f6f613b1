use Rattle.std.proofs.Common.{arith}
use Rattle.lab_hints.proofs.Lists.{names_more}
use Rattle.lab_hints.proofs.stray.names_of.Goals as goal

pub loop-key-preserved : goal.loop-key-preserved
loop-key-preserved c =
    names_more (λ name. name.now) (λ key. key.name) c.args.keys.now c.loop-key.key-index c.key-item.result c.name.result _ _ (omega arith) c.key-item.is
    c.loop-key.invariant c.in_ok-push.ensures.ok c.name.ensures
