use Rattle.std.proofs.Common.{◌≡◌, Bool, true, false, cond, sym, ap, ◌∙◌}
use Rattle.std.specs.Prelude.{codes}
use Rattle.std.proofs.lemmas.Result.{IfOk-weaker}
use Rattle.serde_json.specs.Data.{Data}
use Rattle.route_policy.specs.Rules.{holds_as}
use Rattle.report_json.proofs.Shown.{view-Null}
use Rattle.view_json.specs.Why.{excluded_json, looped_json, denied_json}
use Rattle.view_json.proofs.why.kept_out.Goals as goal

pub returns-then-is_loop : goal.returns-then-is_loop
returns-then-is_loop c =
    let input = c.args.input.now in
    let session = c.args.session.now in
    let heard = c.args.heard.now in
    let test : true ≡ holds_as heard.path input.home_as = sym (sym c.is_loop.ensures ∙ c.if-is_loop.true) in
    IfOk-weaker c.excluded_value.result _ _
    (λ v is. is ∙ ap (λ (d : Data). excluded_json input (codes "loop") session heard d d) view-Null
    ∙ ap (λ (b : Bool). cond b (looped_json input session heard) (denied_json input c.args.prefix session heard)) test) c.excluded_value.ensures

pub returns : goal.returns
returns c =
    let input = c.args.input.now in
    let session = c.args.session.now in
    let heard = c.args.heard.now in
    let test : false ≡ holds_as heard.path input.home_as = sym (sym c.is_loop.ensures ∙ c.if-is_loop.false) in
    IfOk-weaker c.denied_value.result _ _
    (λ v is. is ∙ ap (λ (b : Bool). cond b (looped_json input session heard) (denied_json input c.args.prefix session heard)) test) c.denied_value.ensures
