use Rattle.std.proofs.Common.{◌++◌, map, sym, ap, ◌∙◌, append-nil}
use Rattle.std.specs.Prelude.{Option}
use Rattle.std.proofs.lemmas.Result.{on_ok_weaker}
use Rattle.serde_json.specs.View.{view}
use Rattle.bgp_types.specs.declared.attrs.Attrs.{Attrs}
use Rattle.route_policy.specs.Candidates.{SessionRoute}
use Rattle.view_json.specs.Why.{excluded_route}
use Rattle.view_json.proofs.why.push_excluded.Goals as goal

pub returns-in-Some : goal.returns-in-Some
returns-in-Some c = on_ok_weaker c.push_unless_in.result
    (λ put. put ∙ ap (λ (heard : Option Attrs).
    map view c.args.list.now.items ++ excluded_route c.args.input.now c.args.prefix c.args.session.now heard c.args.route.now)
    (sym c.in-Some.is ∙ ap (λ (s : SessionRoute). s.heard) c.session.view_is)) c.push_unless_in.ensures

pub returns-in-None : goal.returns-in-None
returns-in-None c =
    sym (append-nil (map view c.args.list.now.items))
    ∙ ap (λ (heard : Option Attrs).
    map view c.args.list.now.items ++ excluded_route c.args.input.now c.args.prefix c.args.session.now heard c.args.route.now)
    (sym c.in-None.is ∙ ap (λ (s : SessionRoute). s.heard) c.session.view_is)
