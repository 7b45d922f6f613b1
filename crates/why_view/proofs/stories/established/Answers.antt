use Rattle.why_view.proofs.Got.{expected_is}
use Rattle.why_view.proofs.stories.established.Goals as goal

pub returns : goal.returns
returns c = λ input lines got. expected_is input c.args.peering.now lines c.args.opened.now c.is_wide.result got (c.is_wide.ensures input)
