use Rattle.std.proofs.Common.{None, Some, sym, ap, ◌∙◌}
use Rattle.std.specs.Option.{option_copied}
use Rattle.std.proofs.lemmas.Result.{IfOk-weaker}
use Rattle.route_policy.proofs.PolicyLemmas.{holds_as-is}
use Rattle.router_tables.proofs.EnterSteps.{imported_is}
use Rattle.router_tables.proofs.heard.import.Goals as goal

pub returns-in-Some-policy : goal.returns-in-Some-policy
returns-in-Some-policy c =
    let held = rw c.deref.ensures at c.holds_as.ensures in
    λ session rules remote. IfOk-weaker c.apply.result _ _
    (λ answer e. e ∙ imported_is c.args.home_as c.args.prefix session (Some c.in-Some-policy.policy.now) c.args.remote_as (option_copied c.args.heard)
    c.in-Some.attrs.now c.in_ok-copy.field-0 (rules ∙ ap option_copied c.in-Some-policy.is) remote (ap option_copied c.in-Some.is)
    (sym (holds_as-is c.in-Some.attrs.now.path c.args.home_as c.holds_as.result held) ∙ c.if-holds_as.false) c.in_ok-copy.ensures) c.apply.ensures

pub returns-in-None : goal.returns-in-None
returns-in-None c =
    let held = rw c.deref.ensures at c.holds_as.ensures in
    λ session rules remote. imported_is c.args.home_as c.args.prefix session None c.args.remote_as (option_copied c.args.heard)
    c.in-Some.attrs.now c.in_ok-copy.field-0 (rules ∙ ap option_copied c.in-None.is) remote (ap option_copied c.in-Some.is)
    (sym (holds_as-is c.in-Some.attrs.now.path c.args.home_as c.holds_as.result held) ∙ c.if-holds_as.false) c.in_ok-copy.ensures
