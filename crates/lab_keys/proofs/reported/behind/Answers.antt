use Rattle.lab_keys.proofs.Splits.{nothing_behind}
use Rattle.lab_keys.proofs.reported.behind.Goals as goal

pub returns-in-Some : goal.returns-in-Some
returns-in-Some c = (c.in-Some.ensures.byte c.requires (λ w o found. found)).1

pub returns-in-None : goal.returns-in-None
returns-in-None c = nothing_behind c.args.mark c.args.text.now (c.in-None.ensures.byte c.requires (λ w o found. found))
