use Rattle.std.proofs.Common.{◌≡◌, ◌+◌, ◌*◌, ◌≤◌, length}
use Rattle.tcp_packets.specs.Writing.{word_sum}
use Rattle.tcp_packets.proofs.checksum.word_sum.Given as goal

-- the sum so far, and of the octets that are left
abbrev pub invariant-loop-left : goal.invariant-loop-left
invariant-loop-left l = (l.sum + word_sum l.left ≡ word_sum l.octets) × (l.sum + 65535 * length l.left ≤ 65535 * length l.octets)

abbrev pub decreases-loop-left : goal.decreases-loop-left
decreases-loop-left l = length l.left
