use Rattle.std.proofs.Common.{◌≡◌, Bool, true, false, cond, ap, sym, ◌∙◌}
use Rattle.std.proofs.lemmas.Result.{on_ok_weaker}
use Rattle.route_policy.specs.Rules.{holds_as}
use Rattle.report_json.specs.Tokens.{with_value}
use Rattle.show_json.specs.Routes.{looped_json, denied_json}
use Rattle.show_json.proofs.routes.write_kept_out.Goals as goal

pub returns-then-is_loop : goal.returns-then-is_loop
returns-then-is_loop c = λ router named.
    let test : true ≡ holds_as c.args.entry.now.1.path c.args.input.now.home_as = sym (sym c.is_loop.ensures ∙ c.if-is_loop.true) in
    on_ok_weaker c.write_looped.result
    (λ w. w ∙ ap (λ (b : Bool). with_value (cond b looped_json (denied_json router c.args.peering.now c.args.entry.now)) c.args.out.now) test)
    c.write_looped.ensures

pub returns : goal.returns
returns c = λ router named.
    let test : false ≡ holds_as c.args.entry.now.1.path c.args.input.now.home_as = sym (sym c.is_loop.ensures ∙ c.if-is_loop.false) in
    on_ok_weaker c.write_denied.result
    (λ w. w ∙ ap (λ (b : Bool). with_value (cond b looped_json (denied_json router c.args.peering.now c.args.entry.now)) c.args.out.now) test)
    (c.write_denied.ensures router named)
