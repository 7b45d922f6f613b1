use Rattle.std.proofs.Common.{refl, ap, sym, ◌∙◌}
use Rattle.std.specs.Prelude.{Option}
use Rattle.std.proofs.lemmas.Result.{on_ok_weaker}
use Rattle.bgp_types.specs.declared.attrs.Route.{Route}
use Rattle.report_json.specs.Tokens.{with_value}
use Rattle.why_view.specs.Sources.{session_route}
use Rattle.show_json.specs.Routes.{let_in_json}
use Rattle.show_json.proofs.routes.write_imported.Goals as goal

-- the route that was let in is the one that the session gives
pub returns : goal.returns
returns c = λ router number lines named.
    let session = session_route c.args.input.now router.1 c.args.entry.now.0 (number, c.args.peering.now) lines in
    on_ok_weaker c.write_let_in.result
    (λ w. w ∙ ap (λ (route : Option Route). with_value (let_in_json c.args.input.now router.1 c.args.peering.now c.args.entry.now route) c.args.out.now)
    (c.in_ok-route.ensures session refl (sym named))) (c.write_let_in.ensures router.1 named)
