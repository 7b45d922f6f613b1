use Rattle.silent_rounds.proofs.SilentLinks.{silent_links}
use Rattle.silent_rounds.proofs.laws.silent_links_are_empty.Goals as goal

pub returns : goal.returns
returns c = silent_links
