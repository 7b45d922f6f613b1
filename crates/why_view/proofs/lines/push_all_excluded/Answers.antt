use Rattle.std.proofs.Common.{◌++◌, string_bytes, ap, ◌∙◌}
use Rattle.std.specs.Prelude.{Option}
use Rattle.bgp_types.specs.declared.attrs.Route.{Route}
use Rattle.why_view.specs.Why.{excluded_line, excluded_lines}
use Rattle.why_view.proofs.Further.{flat_mapped_more}
use Rattle.why_view.proofs.lines.push_all_excluded.Goals as goal

-- the lines so far, and behind them that of one session more
pub loop-session-preserved : goal.loop-session-preserved
loop-session-preserved c =
    let session = c.session-item.result in
    flat_mapped_more (excluded_lines c.args.input.now c.args.prefix) c.args.sessions.now c.loop-session.session-index session
    (string_bytes c.args.text.now) (string_bytes c.loop-session.text) (string_bytes c.push_excluded.new.text) c.loop-session-test.true c.session-item.is
    c.loop-session.invariant (c.in_ok-push_excluded.ensures
    ∙ ap (λ (route : Option Route). string_bytes c.loop-session.text ++ excluded_line c.args.input.now c.args.prefix session session.heard route)
    c.in_ok-route.ensures)
