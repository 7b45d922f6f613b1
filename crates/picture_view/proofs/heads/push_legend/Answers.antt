use Rattle.picture_view.specs.Heads.{legend}
use Rattle.picture_view.proofs.heads.push_legend.Goals as goal

-- the words are those of the definition, one after another
pub returns : goal.returns
unfolding legend
returns c = c.in_ok-push_str.ensures.bytes
