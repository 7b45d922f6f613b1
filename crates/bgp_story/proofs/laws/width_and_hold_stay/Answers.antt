use Rattle.bgp_story.proofs.Grows.{width_stays, hold_stays}
use Rattle.bgp_story.proofs.laws.width_and_hold_stay.Goals as goal

pub returns : goal.returns
returns c = record { width = width_stays; hold = hold_stays }
