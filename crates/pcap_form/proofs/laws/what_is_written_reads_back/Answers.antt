use Rattle.pcap_form.proofs.WrittenParts.{reads_back}
use Rattle.pcap_form.proofs.laws.what_is_written_reads_back.Goals as goal

pub returns : goal.returns
returns c = reads_back
