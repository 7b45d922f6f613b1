use Rattle.std.proofs.Common.{rules}
use Rattle.std.specs.Prelude.{option_copied}
use Rattle.capsule_parts.proofs.Offers.{differs}
use Rattle.capsule_parts.proofs.offer.is_other.Goals as goal

pub returns-in-Some : goal.returns-in-Some
returns-in-Some c =
    let e = c.ne.ensures in
    differs (option_copied c.args.route) c.in-Some.route.now c.args.attrs.now c.ne.result (search rules) (search rules)
