use Rattle.route_policy.proofs.PolicyLemmas.{holds_as-is}
use Rattle.show_view.proofs.untold.goes_through.Goals as goal

pub returns : goal.returns
returns c = holds_as-is c.args.path.now c.args.as_number c.holds_as.result c.holds_as.ensures
