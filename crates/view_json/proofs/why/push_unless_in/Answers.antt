use Rattle.std.proofs.Common.{◌++◌, [], ◌∷◌, Some, map, sym, ap, ◌∙◌, append-nil}
use Rattle.std.specs.Prelude.{Option}
use Rattle.serde_json.specs.Data.{Data}
use Rattle.serde_json.specs.View.{view}
use Rattle.bgp_types.specs.declared.attrs.Route.{Route}
use Rattle.view_json.specs.Why.{excluded_route}
use Rattle.view_json.proofs.why.push_unless_in.Goals as goal

pub returns-in-Some : goal.returns-in-Some
returns-in-Some c =
    sym (append-nil (map view c.args.list.now.items))
    ∙ ap (λ (route : Option Route).
    map view c.args.list.now.items ++ excluded_route c.args.input.now c.args.prefix c.args.session.now (Some c.args.heard.now) route) (sym c.in-Some.is)

pub returns-in_ok-push_value-in-None : goal.returns-in_ok-push_value-in-None
returns-in_ok-push_value-in-None c =
    c.in_ok-push_value-in-None.ensures ∙ ap (λ (d : Data). map view c.args.list.now.items ++ d ∷ []) c.in_ok-kept_out-in-None.ensures
    ∙ ap (λ (route : Option Route).
    map view c.args.list.now.items ++ excluded_route c.args.input.now c.args.prefix c.args.session.now (Some c.args.heard.now) route) (sym c.in-None.is)
