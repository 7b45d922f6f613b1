use Rattle.std.proofs.Common.{refl, arith, ap}
use Rattle.std.specs.Prelude.{nat_lt}
use Rattle.std.specs.Int.{w32}
use Rattle.capsule_bytes.proofs.Numbers.{back_32}
use Rattle.capsule_bytes.proofs.Checked.{wrong_checked}
use Rattle.capsule_bytes.proofs.lists.read_size.Goals as goal

pub returns-then-size-eq0-clause-stops : goal.returns-then-size-eq0-clause-stops
returns-then-size-eq0-clause-stops c = λ n. (
  c.place-place.ensures,
  wrong_checked w32 back_32 (omega arith) (λ k. refl) (nat_lt 0) c.in_ok-size.size n _ _ c.in_ok-size.ensures.passed
      (ap (nat_lt 0) c.if-size-eq0.true),
)
