use Rattle.std.proofs.Common.{ap, sym, ◌∙◌}
use Rattle.std.specs.Prelude.{Option}
use Rattle.std.proofs.lemmas.Result.{on_ok_weaker}
use Rattle.bgp_types.specs.declared.attrs.Route.{Route}
use Rattle.report_json.specs.Tokens.{with_value}
use Rattle.show_json.specs.Routes.{let_in_json}
use Rattle.show_json.proofs.routes.write_let_in.Goals as goal

pub returns-in-Some : goal.returns-in-Some
returns-in-Some c = λ router named.
    on_ok_weaker c.write_accepted.result
    (λ w. w ∙ ap (λ (route : Option Route). with_value (let_in_json c.args.input.now router c.args.peering.now c.args.entry.now route) c.args.out.now)
    (sym c.in-Some.is)) c.write_accepted.ensures

pub returns-in-None : goal.returns-in-None
returns-in-None c = λ router named.
    on_ok_weaker c.write_kept_out.result
    (λ w. w ∙ ap (λ (route : Option Route). with_value (let_in_json c.args.input.now router c.args.peering.now c.args.entry.now route) c.args.out.now)
    (sym c.in-None.is)) (c.write_kept_out.ensures router named)
