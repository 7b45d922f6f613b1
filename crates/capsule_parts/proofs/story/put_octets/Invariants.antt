use Rattle.std.proofs.Common.{◌≡◌, take}
use Rattle.capsule_parts.specs.Sound.{put_octets}
use Rattle.capsule_parts.proofs.story.put_octets.Given as goal

abbrev pub invariant-loop-line : goal.invariant-loop-line
invariant-loop-line l = l.octets ≡ put_octets (take l.line-index l.story)
