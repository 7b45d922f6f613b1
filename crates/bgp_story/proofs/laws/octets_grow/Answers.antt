use Rattle.bgp_story.proofs.Grows.{put_grows, got_grows}
use Rattle.bgp_story.proofs.laws.octets_grow.Goals as goal

pub returns : goal.returns
returns c = record { put = put_grows; got = got_grows }
