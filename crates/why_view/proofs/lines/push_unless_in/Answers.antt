use Rattle.std.proofs.Common.{◌++◌, Some, string_bytes, sym, ap, ◌∙◌, append-nil}
use Rattle.std.specs.Prelude.{Option}
use Rattle.std.proofs.lemmas.Result.{on_ok_weaker}
use Rattle.bgp_types.specs.declared.attrs.Route.{Route}
use Rattle.why_view.specs.Why.{excluded_line}
use Rattle.why_view.proofs.lines.push_unless_in.Goals as goal

pub returns-in-Some : goal.returns-in-Some
returns-in-Some c =
    sym (append-nil (string_bytes c.args.text.now))
    ∙ ap (λ (route : Option Route).
    string_bytes c.args.text.now ++ excluded_line c.args.input.now c.args.prefix c.args.session.now (Some c.args.heard.now) route) (sym c.in-Some.is)

pub returns-in-None : goal.returns-in-None
returns-in-None c = on_ok_weaker c.push_kept_out.result
    (λ put. put ∙ ap (λ (route : Option Route).
    string_bytes c.args.text.now ++ excluded_line c.args.input.now c.args.prefix c.args.session.now (Some c.args.heard.now) route) (sym c.in-None.is))
    c.push_kept_out.ensures
