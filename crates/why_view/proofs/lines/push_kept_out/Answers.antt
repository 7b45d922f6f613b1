use Rattle.std.proofs.Common.{◌≡◌, ◌++◌, Bool, true, false, cond, string_bytes, sym, ap, ◌∙◌}
use Rattle.std.proofs.lemmas.Result.{on_ok_weaker}
use Rattle.route_policy.specs.Rules.{holds_as}
use Rattle.why_view.specs.Why.{looped_line, denied_line}
use Rattle.why_view.proofs.lines.push_kept_out.Goals as goal

pub returns-then-is_loop : goal.returns-then-is_loop
returns-then-is_loop c =
    let test : true ≡ holds_as c.args.heard.now.path c.args.input.now.home_as = sym (sym c.is_loop.ensures ∙ c.if-is_loop.true) in
    on_ok_weaker c.push_looped.result (λ put. put ∙ ap (λ (b : Bool). string_bytes c.args.text.now
    ++ cond b (looped_line c.args.input.now c.args.session.now c.args.heard.now)
    (denied_line c.args.input.now c.args.prefix c.args.session.now c.args.heard.now)) test) c.push_looped.ensures

pub returns : goal.returns
returns c =
    let test : false ≡ holds_as c.args.heard.now.path c.args.input.now.home_as = sym (sym c.is_loop.ensures ∙ c.if-is_loop.false) in
    on_ok_weaker c.push_denied.result (λ put. put ∙ ap (λ (b : Bool). string_bytes c.args.text.now
    ++ cond b (looped_line c.args.input.now c.args.session.now c.args.heard.now)
    (denied_line c.args.input.now c.args.prefix c.args.session.now c.args.heard.now)) test) c.push_denied.ensures
