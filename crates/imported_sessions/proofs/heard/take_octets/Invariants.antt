use Rattle.std.proofs.Common.{◌≡◌, ℕ, List, length}
use Rattle.imported_sessions.specs.Heard.{session_of}
use Rattle.imported_sessions.proofs.Hearing.{IsTelling}
use Rattle.imported_sessions.proofs.heard.take_octets.Given as goal

abbrev pub invariant-loop-front : goal.invariant-loop-front
invariant-loop-front l = (stream home : List ℕ) → l.fn.session ≡ session_of l.fn.session.peer stream home
    → IsTelling l.opened l.home_as l.fn.session.peer stream home l.octets l.fn.steps.items l.session l.steps.items

abbrev pub decreases-loop-front : goal.decreases-loop-front
decreases-loop-front l = length l.session.rest
