use Rattle.std.proofs.Common.{length}
use Rattle.pcap_form.specs.Captures.{BehindHeader}
use Rattle.pcap_form.proofs.SoFar.{SoFar}
use Rattle.pcap_form.proofs.read.read_records.Given as goal

abbrev pub invariant-loop-left : goal.invariant-loop-left
invariant-loop-left l = SoFar l.file (BehindHeader l.order l.link) l.packets l.left

abbrev pub decreases-loop-left : goal.decreases-loop-left
decreases-loop-left l = length l.left
