use Rattle.graft_worked.proofs.Others.{may_stray, may_lose, may_beat, may_tick}
use Rattle.graft_worked.proofs.laws.other_events_may_happen.Goals as goal

pub returns : goal.returns
returns c = record { stray = may_stray; lose = may_lose; beat = may_beat; tick = may_tick }
