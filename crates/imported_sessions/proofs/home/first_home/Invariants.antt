use Rattle.std.proofs.Common.{◌≡◌, [], take}
use Rattle.std.specs.List.{filter_map}
use Rattle.imported_sessions.proofs.home.first_home.Given as goal

abbrev pub invariant-loop-session : goal.invariant-loop-session
invariant-loop-session l = filter_map (λ session. session.home) (take l.session-index l.opened) ≡ []
