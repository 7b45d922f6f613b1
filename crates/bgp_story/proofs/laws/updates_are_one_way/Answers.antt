use Rattle.std.proofs.Common.{refl}
use Rattle.bgp_story.proofs.Updates.{put_update}
use Rattle.bgp_story.proofs.laws.updates_are_one_way.Goals as goal

pub returns : goal.returns
returns c = record {
  before = λ p lines more u state l. (put_update p _ state l u lines more refl).legal;
  one_way = λ p lines more u state l. (put_update p _ state l u lines more refl).way.one_way;
  writable = λ p lines more u state l. (put_update p _ state l u lines more refl).way.writable;
}
