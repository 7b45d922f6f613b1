use Rattle.std.proofs.Common.{rules}
use Rattle.capsule_parts.proofs.Offers.{announced_match, withdrawn_match}
use Rattle.capsule_parts.proofs.offer.changes.Goals as goal

pub returns-in-Some : goal.returns-in-Some
returns-in-Some c =
    announced_match c.args.told.now c.args.update.now c.requires.way c.requires.attrs c.in-Some.attrs c.all_other.result (search rules) (search rules)

pub returns-in-None : goal.returns-in-None
returns-in-None c = withdrawn_match c.args.told.now c.args.update.now c.requires.way c.requires.attrs c.all_told.result (search rules) (search rules)
