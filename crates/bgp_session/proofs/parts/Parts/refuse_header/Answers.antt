use Rattle.bgp_session.proofs.Reading.{header_front, header_read}
use Rattle.bgp_session.proofs.parts.Parts.refuse_header.Goals as goal

pub refuse-requires-clause-front : goal.refuse-requires-clause-front
refuse-requires-clause-front c = header_front c.args.self.now c.in_ok-bytes.bytes c.args.fault
    c.requires.keeps c.requires.unclosed c.requires.long c.requires.fault c.in_ok-bytes.ensures

pub refuse-requires-clause-fault : goal.refuse-requires-clause-fault
refuse-requires-clause-fault c = header_read c.args.self.now c.in_ok-bytes.bytes c.args.fault
    c.in_ok-notice.notice c.requires.long c.requires.fault c.in_ok-bytes.ensures c.in_ok-notice.ensures
