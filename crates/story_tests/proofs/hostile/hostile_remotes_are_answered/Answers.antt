use Rattle.story_tests.proofs.HostileStories.{hears_cut, hears_endless, hears_flipped, hears_marker, hears_length}
use Rattle.story_tests.proofs.HostileStories.{hears_kind, hears_open, hears_cease, hears_capable}
use Rattle.story_tests.proofs.hostile.hostile_remotes_are_answered.Goals as goal

pub returns : goal.returns
returns c = record {
  cut = hears_cut;
  endless = hears_endless;
  flipped = hears_flipped;
  marker = hears_marker;
  length = hears_length;
  kind = hears_kind;
  opened_twice = hears_open;
  ceased = hears_cease;
  capable = hears_capable;
}
