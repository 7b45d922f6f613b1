use Rattle.std.proofs.Common.{◌≡◌, take}
use Rattle.bgp_story.specs.States.{state_of}
use Rattle.show_view.proofs.sessions.state_of.Given as goal

-- the state after the lines so far
abbrev pub invariant-loop-line : goal.invariant-loop-line
invariant-loop-line l = l.state ≡ state_of (take l.line-index l.lines)
