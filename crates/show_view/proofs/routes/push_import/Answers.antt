use Rattle.std.proofs.Common.{refl, sym, ap, ◌∙◌, ◌++◌, string_bytes}
use Rattle.std.specs.Prelude.{Option}
use Rattle.std.proofs.lemmas.Result.{on_ok_weaker}
use Rattle.bgp_types.specs.declared.attrs.Route.{Route}
use Rattle.why_view.specs.Sources.{session_route}
use Rattle.show_view.specs.Routes.{let_in_line}
use Rattle.show_view.proofs.routes.push_import.Goals as goal

-- the route that was let in is the one that the session gives
pub returns : goal.returns
returns c = λ router number lines named.
    let session = session_route c.args.input.now router.1 c.args.entry.now.0 (number, c.args.peering.now) lines in
    on_ok_weaker c.push_let_in.result
    (λ put. put ∙ ap (λ (route : Option Route). string_bytes c.args.text.now
    ++ let_in_line c.args.input.now router.1 c.args.peering.now c.args.entry.now route) (c.in_ok-route.ensures session refl (sym named)))
    (c.push_let_in.ensures router.1 named)
