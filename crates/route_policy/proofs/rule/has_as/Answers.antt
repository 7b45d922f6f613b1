use Rattle.route_policy.proofs.PolicyLemmas.{holds_some_as-is}
use Rattle.route_policy.proofs.rule.has_as.Goals as goal

pub returns-in-Some : goal.returns-in-Some
returns-in-Some c = holds_some_as-is _ _ _ _ c.in-Some.is c.holds_as.ensures
