use Rattle.std.proofs.Common.{arith}
use Rattle.bgp_session.proofs.Rounds.{tick_long}
use Rattle.bgp_session.proofs.parts.Parts.tick.Goals as goal

pub nonzero_rem-round : goal.nonzero_rem-round
nonzero_rem-round c = let long = tick_long c.args.self.now c.args.round c.requires in let hold = c.hold_so_far-keepalive_interval.ensures in omega arith
