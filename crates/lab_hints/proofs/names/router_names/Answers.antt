use Rattle.std.proofs.Common.{arith}
use Rattle.lab_hints.proofs.Lists.{names_more}
use Rattle.lab_hints.proofs.names.router_names.Goals as goal

pub loop-router-preserved : goal.loop-router-preserved
loop-router-preserved c =
    names_more (λ name. name.now) (λ router. router.name) c.args.routers.now c.loop-router.router-index c.router-item.result c.as_str.result _ _ (omega arith)
    c.router-item.is c.loop-router.invariant c.in_ok-push.ensures.ok c.as_str.ensures
