use Rattle.std.proofs.Common.{◌≡◌, ◌++◌, take}
use Rattle.std.specs.List.{flat_map}
use Rattle.pcap_form.specs.Written.{written_header, written_record}
use Rattle.pcap_form.proofs.write.write_capture.Given as goal

-- the octets so far are those of the packets so far
abbrev pub invariant-loop-packet : goal.invariant-loop-packet
invariant-loop-packet l = l.octets ≡ written_header ++ flat_map written_record (take l.packet-index l.packets)
