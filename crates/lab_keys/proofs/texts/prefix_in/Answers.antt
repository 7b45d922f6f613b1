use Rattle.lab_keys.proofs.TextFinds.{same_prefix_text}
use Rattle.lab_keys.proofs.texts.prefix_in.Goals as goal

pub returns : goal.returns
returns c = same_prefix_text c.args.text.now c.read_prefix.result c.read_prefix.ensures
