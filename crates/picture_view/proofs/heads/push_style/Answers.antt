use Rattle.picture_view.specs.Heads.{style_text}
use Rattle.picture_view.proofs.heads.push_style.Goals as goal

-- the words are those of the definition, one after another
pub returns : goal.returns
unfolding style_text
returns c = c.in_ok-push_str.ensures.bytes
