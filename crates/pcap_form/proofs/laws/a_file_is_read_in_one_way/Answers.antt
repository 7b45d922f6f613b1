use Rattle.pcap_form.proofs.OneReading.{one_capture, no_fault, one_fault}
use Rattle.pcap_form.proofs.laws.a_file_is_read_in_one_way.Goals as goal

pub returns-clause-packets : goal.returns-clause-packets
returns-clause-packets c = one_capture

pub returns-clause-sound : goal.returns-clause-sound
returns-clause-sound c = no_fault

pub returns-clause-fault : goal.returns-clause-fault
returns-clause-fault c = one_fault
