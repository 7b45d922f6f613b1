use Rattle.std.proofs.Common.{◌++◌, string_bytes, sym, ap, ◌∙◌, append-nil}
use Rattle.std.specs.Prelude.{Option}
use Rattle.std.proofs.lemmas.Result.{on_ok_weaker}
use Rattle.bgp_types.specs.declared.attrs.Attrs.{Attrs}
use Rattle.route_policy.specs.Candidates.{SessionRoute}
use Rattle.why_view.specs.Why.{excluded_line}
use Rattle.why_view.proofs.lines.push_excluded.Goals as goal

pub returns-in-Some : goal.returns-in-Some
returns-in-Some c = on_ok_weaker c.push_unless_in.result
    (λ put. put ∙ ap (λ (heard : Option Attrs).
    string_bytes c.args.text.now ++ excluded_line c.args.input.now c.args.prefix c.args.session.now heard c.args.route.now)
    (sym c.in-Some.is ∙ ap (λ (s : SessionRoute). s.heard) c.session.view_is)) c.push_unless_in.ensures

pub returns-in-None : goal.returns-in-None
returns-in-None c =
    sym (append-nil (string_bytes c.args.text.now))
    ∙ ap (λ (heard : Option Attrs).
    string_bytes c.args.text.now ++ excluded_line c.args.input.now c.args.prefix c.args.session.now heard c.args.route.now)
    (sym c.in-None.is ∙ ap (λ (s : SessionRoute). s.heard) c.session.view_is)
