use Rattle.std.proofs.Common.{◌∙◌, ◌++◌, ap, map, arith}
use Rattle.lab_hints.proofs.Lists.{lists_more}
use Rattle.lab_hints.proofs.names.policies_of.Goals as goal

pub loop-router-preserved : goal.loop-router-preserved
loop-router-preserved c =
    lists_more (λ name. name.now) (λ router. map (λ policy. policy.name) router.policies) c.args.routers.now c.loop-router.router-index
    c.router-item.result c.in_ok-called.called _ _ (omega arith) c.router-item.is c.loop-router.invariant
    (c.in_ok-extend.ensures.ok ∙ ap (λ l. c.loop-router.names ++ l) c.as_slice.ensures)
    (c.in_ok-called.ensures ∙ ap (map (λ policy. policy.name)) c.as_slice-policies.ensures)
