use Rattle.std.proofs.Common.{◌∙◌}
use Rattle.lab_keys.proofs.Strays.{known_same}
use Rattle.lab_keys.proofs.keys.is_known.Goals as goal

pub returns : goal.returns
returns c = c.has_row.ensures ∙ known_same c.args.key.now c.args.keys.now
