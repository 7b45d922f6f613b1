use Rattle.bgp_story.proofs.Grows.{told_grows, heard_grows, none_told, none_heard}
use Rattle.bgp_story.proofs.StoryLaws.{state_is}
use Rattle.bgp_story.proofs.laws.tables_grow.Goals as goal

pub returns : goal.returns
returns c = record {
  told = told_grows;
  heard = λ p lines more state l. heard_grows p lines more state (state_is p lines state l) l;
  none_told = none_told;
  none_heard = none_heard;
}
