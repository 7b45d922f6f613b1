use Rattle.std.proofs.Common.{List, [], sym, ap, ◌∙◌}
use Rattle.std.specs.Prelude.{Option, unwrap_or}
use Rattle.std.proofs.lemmas.Result.{IfOk-weaker}
use Rattle.route_policy.specs.Candidates.{SessionRoute}
use Rattle.route_policy.specs.declared.rule.Rule.{Rule}
use Rattle.why_view.specs.Why.{first_match}
use Rattle.why_view.proofs.lines.matching.Goals as goal

pub returns-in-Some : goal.returns-in-Some
returns-in-Some c = IfOk-weaker c.first_match.result _ _
    (λ index is. is ∙ ap (λ (rs : Option (List Rule)). first_match (unwrap_or rs []) c.args.prefix c.args.heard.now)
    (sym c.in-Some.is ∙ ap (λ (s : SessionRoute). s.import_rules) c.session.view_is)) c.first_match.ensures

pub returns-in-None : goal.returns-in-None
returns-in-None c = ap (λ (rs : Option (List Rule)). first_match (unwrap_or rs []) c.args.prefix c.args.heard.now)
    (sym c.in-None.is ∙ ap (λ (s : SessionRoute). s.import_rules) c.session.view_is)
