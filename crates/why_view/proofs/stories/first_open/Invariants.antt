use Rattle.std.proofs.Common.{◌≡◌, drop}
use Rattle.bgp_story.specs.Legal.{Peering, got_open}
use Rattle.why_view.proofs.stories.first_open.Given as goal

-- nothing was got in the lines so far
abbrev pub invariant-loop-line : goal.invariant-loop-line
invariant-loop-line l = (p : Peering) → got_open p l.lines ≡ got_open p (drop l.line-index l.lines)
