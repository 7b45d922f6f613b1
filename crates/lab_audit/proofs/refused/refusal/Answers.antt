use Rattle.std.proofs.Common.{rules}
use Rattle.lab_audit.proofs.refused.refusal.Goals as goal

pub returns : goal.returns
returns c = (c.in_ok-hint.hint, c.in_ok-hint.ensures, search rules)
