use Rattle.std.proofs.Common.{◌≡◌, ℕ, rules, slice_index, arith}
use Rattle.std.proofs.lemmas.Grind.{common_steps}
use Rattle.lab_words.proofs.Values.{seed_unread}
use Rattle.lab_words.proofs.arguments.seed_of.Goals as goal

pub returns-in_default-2 : goal.returns-in_default-2
returns-in_default-2 c =
    let plain : ¬ (slice_index c.args.text.now 0 ≡ 43) = first_of (search rules, grind (arith, common_steps)) in
    λ seed is. seed_unread ℕ 0 c.args.text.now seed plain c.in_default.ensures.value.0 is
