use Rattle.std.proofs.Common.{arith}
use Rattle.lab_hints.proofs.Lists.{names_more}
use Rattle.lab_hints.proofs.names.peering_names.Goals as goal

pub loop-peering-preserved : goal.loop-peering-preserved
loop-peering-preserved c =
    names_more (λ name. name.now) (λ peering. peering.name) c.args.peerings.now c.loop-peering.peering-index c.peering-item.result c.as_str.result _ _
    (omega arith) c.peering-item.is c.loop-peering.invariant c.in_ok-push.ensures.ok c.as_str.ensures
