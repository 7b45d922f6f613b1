use Rattle.std.proofs.Common.{◌≡◌, take}
use Rattle.capsule_parts.specs.Sound.{got_octets}
use Rattle.capsule_parts.proofs.story.got_octets.Given as goal

abbrev pub invariant-loop-line : goal.invariant-loop-line
invariant-loop-line l = l.octets ≡ got_octets (take l.line-index l.story)
