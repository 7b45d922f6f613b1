use Rattle.lab_keys.proofs.Splits.{whole_before}
use Rattle.lab_keys.proofs.reported.before.Goals as goal

pub returns-in-Some : goal.returns-in-Some
returns-in-Some c = (c.in-Some.ensures.byte c.requires (λ w o found. found)).0

pub returns-in-None : goal.returns-in-None
returns-in-None c = whole_before c.args.mark c.args.text.now (c.in-None.ensures.byte c.requires (λ w o found. found))
