use Rattle.capsule_bytes.proofs.OneSpelling.{one_spelling}
use Rattle.capsule_bytes.proofs.laws.a_capsule_has_one_spelling.Goals as goal

pub returns : goal.returns
returns c = one_spelling
