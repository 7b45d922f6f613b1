use Rattle.std.proofs.Common.{refl, rules, arith}
use Rattle.std.specs.Prelude.{option_copied}
use Rattle.std.specs.Int.{w32}
use Rattle.capsule_bytes.specs.Capsules.{is_ahead_of}
use Rattle.capsule_bytes.proofs.Numbers.{back_32}
use Rattle.capsule_bytes.proofs.Checked.{wrong_checked}
use Rattle.capsule_bytes.proofs.lists.read_offset.Goals as goal

pub returns-then-not-is_ahead_of-clause-stops : goal.returns-then-not-is_ahead_of-clause-stops
returns-then-not-is_ahead_of-clause-stops c = λ n. (
  c.place-place.ensures,
  wrong_checked w32 back_32 (omega arith) (λ k. refl) (is_ahead_of (option_copied c.args.before)) c.in_ok-offset.offset n _ _ c.in_ok-offset.ensures.passed
      (search rules),
)
