use Rattle.std.proofs.Common.{◌++◌, [], map, ap, ◌∙◌}
use Rattle.std.specs.Prelude.{Option}
use Rattle.serde_json.specs.View.{view}
use Rattle.bgp_types.specs.declared.attrs.Route.{Route}
use Rattle.why_view.proofs.Further.{flat_mapped_more}
use Rattle.view_json.specs.Why.{excluded_route, excluded_of}
use Rattle.view_json.proofs.why.excluded_values.Goals as goal

-- the values so far, and behind them that of one session more
pub loop-session-preserved : goal.loop-session-preserved
loop-session-preserved c =
    let session = c.session-item.result in
    flat_mapped_more (excluded_of c.args.input.now c.args.prefix) c.args.sessions.now c.loop-session.session-index session []
    (map view c.loop-session.list.items) (map view c.push_excluded.new.list.items) c.loop-session-test.true c.session-item.is
    c.loop-session.invariant (c.in_ok-push_excluded.ensures
    ∙ ap (λ (route : Option Route). map view c.loop-session.list.items ++ excluded_route c.args.input.now c.args.prefix session session.heard route)
    c.in_ok-route.ensures)
