use Rattle.bgp_types.specs.Spelling.{spell}
use Rattle.bgp_types.proofs.MessageLaws.{message_are}
use Rattle.bgp_types.proofs.WrittenLaws.{written_reads}
use Rattle.bgp_wire.proofs.laws.written_message_reads.Goals as goal

pub returns : goal.returns
returns c = λ message expected writable is_expected.
    message_are expected (spell message expected.wide) message (written_reads message expected.wide writable) is_expected
