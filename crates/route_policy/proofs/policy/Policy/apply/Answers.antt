use Rattle.std.proofs.Common.{◌≡◌, sym, ◌∙◌, ap, get_or}
use Rattle.route_policy.specs.Policies.{decision, policy}
use Rattle.route_policy.proofs.PolicyLemmas.{policy-matching, policy-no_match}
use Rattle.route_policy.proofs.policy.Policy.apply.Goals as goal

pub returns-in-Some : goal.returns-in-Some
returns-in-Some c =
    let rule = c.index-deref-index.result in
    let read = c.index-deref-index.is ∙ ap (λ rules. get_or rules c.in-Some.index rule) (c.deref.ensures ∙ c.self.view_is) in
    let decided : policy c.args.self.now c.args.prefix c.args.as_number c.args.route ≡ decision rule c.args.as_number c.args.route =
    policy-matching c.args.self.now c.args.prefix c.args.as_number c.args.route c.in-Some.index rule (sym c.in-Some.ensures)
    ∙ ap (λ r. decision r c.args.as_number c.args.route) (sym read) in
    rw decided c.decide.ensures

pub returns-in-None : goal.returns-in-None
returns-in-None c = sym (policy-no_match c.args.self.now c.args.prefix c.args.as_number c.args.route (sym c.in-None.ensures))
