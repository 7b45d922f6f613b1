use Rattle.std.proofs.Common.{arith}
use Rattle.message_words.specs.Updates.{raw_words}
use Rattle.message_words.proofs.Listed.{listed_more}
use Rattle.message_words.proofs.update.push_unknown.Goals as goal

-- one attribute more
pub loop-raw-preserved : goal.loop-raw-preserved
loop-raw-preserved c =
    listed_more raw_words c.args.unknown.now c.loop-raw.raw-index c.raw-item.result _ _ _ (omega (arith, c.loop-raw-test.true)) c.raw-item.is
    c.loop-raw.invariant c.in_ok-push_raw.ensures
