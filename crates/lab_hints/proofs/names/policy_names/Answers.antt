use Rattle.std.proofs.Common.{arith}
use Rattle.lab_hints.proofs.Lists.{names_more}
use Rattle.lab_hints.proofs.names.policy_names.Goals as goal

pub loop-policy-preserved : goal.loop-policy-preserved
loop-policy-preserved c =
    names_more (λ name. name.now) (λ policy. policy.name) c.args.policies.now c.loop-policy.policy-index c.policy-item.result c.as_str.result _ _ (omega arith)
    c.policy-item.is c.loop-policy.invariant c.in_ok-push.ensures.ok c.as_str.ensures
