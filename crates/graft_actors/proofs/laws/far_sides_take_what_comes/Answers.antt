use Rattle.graft_actors.proofs.Welcome.{far_segment, far_point, far_say}
use Rattle.graft_actors.proofs.laws.far_sides_take_what_comes.Goals as goal

-- src/laws.rt
pub returns-clause-segment : goal.returns-clause-segment
returns-clause-segment g c session setup p n part = far_segment session setup n p part

pub returns-clause-point : goal.returns-clause-point
returns-clause-point g c session setup p n k part = far_point session setup n p k part

pub returns-clause-say : goal.returns-clause-say
returns-clause-say g c session setup p n step part = far_say session setup n p step part
