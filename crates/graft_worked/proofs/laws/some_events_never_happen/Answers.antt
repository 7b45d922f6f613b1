use Rattle.graft_worked.proofs.Others.{little_moves, no_go, no_tick, no_beat}
use Rattle.graft_worked.proofs.laws.some_events_never_happen.Goals as goal

pub returns : goal.returns
returns c = record { others = little_moves; go = no_go; tick = no_tick; beat = no_beat }
