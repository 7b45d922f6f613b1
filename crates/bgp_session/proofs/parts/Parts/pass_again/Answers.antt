use Rattle.std.proofs.Common.{refl}
use Rattle.bgp_session.proofs.Rounds.{none_fits}
use Rattle.bgp_session.proofs.parts.Parts.pass_again.Goals as goal

pub returns-then-not-has_room_at-clause-passes : goal.returns-then-not-has_room_at-clause-passes
returns-then-not-has_room_at-clause-passes c = (refl, none_fits c.args.self.now c.args.round c.requires c.if-not-has_room_at.ensures)
