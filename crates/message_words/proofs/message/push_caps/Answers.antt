use Rattle.std.proofs.Common.{arith}
use Rattle.message_words.specs.Messages.{cap_words}
use Rattle.message_words.proofs.Listed.{listed_more}
use Rattle.message_words.proofs.message.push_caps.Goals as goal

-- one capability more
pub loop-cap-preserved : goal.loop-cap-preserved
loop-cap-preserved c =
    listed_more cap_words c.args.caps.now c.loop-cap.cap-index c.cap-item.result _ _ _ (omega (arith, c.loop-cap-test.true)) c.cap-item.is
    c.loop-cap.invariant c.in_ok-write.ensures.bytes
