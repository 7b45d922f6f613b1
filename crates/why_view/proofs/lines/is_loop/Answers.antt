use Rattle.route_policy.proofs.PolicyLemmas.{holds_as-is}
use Rattle.why_view.proofs.lines.is_loop.Goals as goal

pub returns : goal.returns
returns c =
    let held = rw c.deref.ensures at c.holds_as.ensures in
    holds_as-is c.args.heard.now.path c.args.input.now.home_as c.holds_as.result held
