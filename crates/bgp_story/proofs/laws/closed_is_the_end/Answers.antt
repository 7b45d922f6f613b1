use Rattle.bgp_story.proofs.Ends.{closed_ends, begun_open}
use Rattle.bgp_story.proofs.laws.closed_is_the_end.Goals as goal

pub returns : goal.returns
returns c = record { legal = closed_ends; begun = begun_open }
