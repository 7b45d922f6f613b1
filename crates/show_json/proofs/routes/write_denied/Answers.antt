use Rattle.std.proofs.Common.{ℕ, ◌≡◌, List, ap, ◌∙◌, rules}
use Rattle.std.specs.Prelude.{Option, OnOk, codes}
use Rattle.std.proofs.lemmas.Result.{on_ok_weaker}
use Rattle.serde_json.specs.Data.{Data, null}
use Rattle.route_policy.specs.declared.rule.Rule.{Rule}
use Rattle.report_json.specs.Tokens.{with_value}
use Rattle.report_json.specs.Values.{text_or_null}
use Rattle.show_view.specs.Routes.{denying_rule}
use Rattle.show_json.specs.Routes.{import_json, rule_number}
use Rattle.show_json.proofs.routes.write_denied.Goals as goal

pub returns : goal.returns
returns c = λ router named.
    let old = c.args.out.now in
    let denied : Option ℕ → Data = λ rule. import_json (codes "denied") null null (text_or_null c.args.peering.now.«import») (rule_number rule) in
    let rule = c.in_ok-rule.ensures ∙ ap (λ (rules : Option (List Rule)). denying_rule rules c.args.entry.now) named in
    let written : OnOk c.end_object.result (c.end_object.new.self ≡ with_value (denied c.in_ok-rule.rule) old) = search rules in
    on_ok_weaker c.end_object.result (λ w. w ∙ ap (λ r. with_value (denied r) old) rule) written
