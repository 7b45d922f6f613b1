use Rattle.bgp_session.proofs.Reading.{frame_front}
use Rattle.bgp_session.proofs.parts.Parts.read_frame.Goals as goal

pub take-requires-clause-front : goal.take-requires-clause-front
take-requires-clause-front c =
    frame_front c.args.self.now c.in_ok-bytes.bytes c.args.len c.requires.keeps c.requires.unclosed c.requires.whole c.in_ok-bytes.ensures

pub refuse-requires-clause-front : goal.refuse-requires-clause-front
refuse-requires-clause-front c =
    frame_front c.args.self.now c.in_ok-bytes.bytes c.args.len c.requires.keeps c.requires.unclosed c.requires.whole c.in_ok-bytes.ensures
