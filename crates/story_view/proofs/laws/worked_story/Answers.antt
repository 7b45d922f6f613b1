use Rattle.std.proofs.Common.{refl}
use Rattle.story_view.proofs.Worked.{story_is}
use Rattle.story_view.proofs.laws.worked_story.Goals as goal

pub returns : goal.returns
returns c = record { text = story_is; none = refl }
