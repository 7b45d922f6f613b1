use Rattle.lab_hints.proofs.Hinted.{has_hint}
use Rattle.lab_hints.proofs.laws.each_refusal_has_a_hint.Goals as goal

pub returns : goal.returns
returns c bytes bad refused = has_hint bytes bad
