use Rattle.std.proofs.Common.{refl}
use Rattle.bgp_story.proofs.Updates.{put_update, announced_attrs, told_changes, told_announced, told_withdrawn, told_others}
use Rattle.bgp_story.proofs.laws.updates_change_what_was_told.Goals as goal

pub returns : goal.returns
returns c = record {
  changed = λ p lines more u state prefix l. told_changes p lines u prefix (put_update p _ state l u lines more refl);
  announced = λ p lines more u state prefix l. told_announced p lines u prefix (put_update p _ state l u lines more refl);
  attributes = λ p lines more u state prefix l. announced_attrs u.attrs u.nlri prefix (put_update p _ state l u lines more refl).way.writable.body.attrs;
  withdrawn = λ p lines more u state prefix l. told_withdrawn p lines u prefix (put_update p _ state l u lines more refl);
  others = λ p lines more u state prefix l. told_others p lines u prefix (put_update p _ state l u lines more refl);
}
