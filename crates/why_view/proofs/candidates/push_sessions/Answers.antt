use Rattle.route_policy.specs.Candidates.{imported, session_candidate}
use Rattle.why_view.proofs.Further.{filter_mapped_more}
use Rattle.why_view.proofs.candidates.push_sessions.Goals as goal

-- the candidate of one session more, if it gives one
pub loop-session-preserved : goal.loop-session-preserved
loop-session-preserved c =
    filter_mapped_more (λ session. session_candidate c.args.home_as session (imported c.args.home_as c.args.prefix session session.heard))
    c.args.sessions.now c.loop-session.session-index c.session-item.result
    c.args.candidates.now c.loop-session.candidates c.push_if.new.candidates c.in_ok-of_session.field-0 c.loop-session-test.true c.session-item.is
    c.loop-session.invariant c.in_ok-of_session.ensures c.in_ok-push_if.ensures
