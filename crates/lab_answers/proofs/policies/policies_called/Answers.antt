use Rattle.std.proofs.Common.{arith}
use Rattle.lab_answers.specs.Policies.{policy_rules}
use Rattle.lab_answers.proofs.PolicyLists.{filtered_more}
use Rattle.lab_answers.proofs.policies.policies_called.Goals as goal

pub loop-router-preserved : goal.loop-router-preserved
loop-router-preserved c =
    filtered_more (policy_rules c.args.name.now) c.args.routers.now c.loop-router.router-index c.router-item.result _ _ _ (omega arith) c.router-item.is
    c.loop-router.invariant c.in_ok-policy_at.ensures c.in_ok-push_if.ensures
