use Rattle.std.proofs.Common.{None, Some, sym, ap, ◌∙◌}
use Rattle.std.proofs.lemmas.Result.{IfOk-weaker}
use Rattle.route_policy.proofs.PolicyLemmas.{holds_as-is}
use Rattle.route_policy.specs.Candidates.{SessionRoute}
use Rattle.why_view.proofs.Importing.{imported_is}
use Rattle.why_view.proofs.candidates.imported.Goals as goal

pub returns-in-Some-import : goal.returns-in-Some-import
returns-in-Some-import c =
    let view = c.session.view_is in
    let held = rw c.deref.ensures at c.holds_as.ensures in
    IfOk-weaker c.apply.result _ _ (λ answer e. e ∙ imported_is c.args.home_as c.args.prefix c.args.session.now (Some c.in-Some-import.policy)
    c.session.inside.remote_as c.in-Some.attrs c.in_ok-copy.field-0
    (sym (ap (λ (s : SessionRoute). s.import_rules) view) ∙ c.in-Some-import.is) (sym (ap (λ (s : SessionRoute). s.remote_as) view))
    (sym (ap (λ (s : SessionRoute). s.heard) view) ∙ c.in-Some.is)
    (sym (holds_as-is c.in-Some.attrs.path c.args.home_as c.holds_as.result held) ∙ c.if-holds_as.false) c.in_ok-copy.ensures) c.apply.ensures

pub returns-in-None : goal.returns-in-None
returns-in-None c =
    let view = c.session.view_is in
    let held = rw c.deref.ensures at c.holds_as.ensures in
    imported_is c.args.home_as c.args.prefix c.args.session.now None
    c.session.inside.remote_as c.in-Some.attrs c.in_ok-copy.field-0
    (sym (ap (λ (s : SessionRoute). s.import_rules) view) ∙ c.in-None.is) (sym (ap (λ (s : SessionRoute). s.remote_as) view))
    (sym (ap (λ (s : SessionRoute). s.heard) view) ∙ c.in-Some.is)
    (sym (holds_as-is c.in-Some.attrs.path c.args.home_as c.holds_as.result held) ∙ c.if-holds_as.false) c.in_ok-copy.ensures
