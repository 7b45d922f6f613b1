use Rattle.std.proofs.Common.{◌≡◌, Bool, false, ◌||◌, sym, ap, ◌∙◌}
use Rattle.route_policy.specs.Rules.{holds_as}
use Rattle.route_policy.specs.Telling.{comes_from}
use Rattle.route_policy.proofs.PolicyLemmas.{holds_as-is}
use Rattle.route_policy.proofs.tell.is_kept_back.Goals as goal

pub returns-else-comes_from : goal.returns-else-comes_from
returns-else-comes_from c =
    let best = c.args.best.now in
    let view = c.args.view.now in
    let other : comes_from best.from view.peering ≡ false = sym c.comes_from.ensures ∙ c.if-comes_from.false in
    let held = rw c.deref.ensures at c.holds_as.ensures in
    holds_as-is best.route.attrs.path view.remote_as c.holds_as.result held
    ∙ sym (ap (λ (b : Bool). b || holds_as best.route.attrs.path view.remote_as) other)
