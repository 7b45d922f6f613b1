use Rattle.std.proofs.Common.{◌≡◌, ◌++◌, take}
use Rattle.std.specs.List.{filter_map}
use Rattle.route_policy.specs.Candidates.{imported, session_candidate}
use Rattle.why_view.proofs.candidates.push_sessions.Given as goal

-- the candidates of the sessions so far
abbrev pub invariant-loop-session : goal.invariant-loop-session
invariant-loop-session l = l.candidates ≡ l.initial.candidates
    ++ filter_map (λ session. session_candidate l.home_as session (imported l.home_as l.prefix session session.heard)) (take l.session-index l.sessions)
