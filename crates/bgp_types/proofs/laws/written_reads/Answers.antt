use Rattle.bgp_types.proofs.WrittenLaws.{written_reads}
use Rattle.bgp_types.proofs.laws.written_reads.Goals as goal

pub returns : goal.returns
returns c = written_reads
