use Rattle.std.proofs.Common.{refl, ap, arith}
use Rattle.std.specs.Int.{w8, is_in_range}
use Rattle.capsule_bytes.specs.Stops.{Unread}
use Rattle.capsule_bytes.proofs.Numbers.{back_8}
use Rattle.capsule_bytes.proofs.Checked.{wrong_checked, below_least, above_most}
use Rattle.capsule_bytes.proofs.cursor.Cursor.read_u8_within.Goals as goal
use Rattle.capsule_bytes.proofs.cursor.Cursor.read_u8_within.Goals.{then-n-least-via-then-n-least, then-n-least-via-else-n-least+then-most-n}

pub returns-then-n-least-clause-stops : goal.returns-then-n-least-clause-stops
returns-then-n-least-clause-stops c = λ m. (
  ap (λ (u : Unread). u.place) c.self.view_is,
  wrong_checked w8 back_8 (omega arith) (λ k. refl) (is_in_range c.args.least c.args.most) c.in_ok-n.n m _ _ c.in_ok-n.ensures.passed (
      elim c.then-n-least.branch [
        | then-n-least-via-then-n-least w ↦ below_least c.args.least c.args.most c.in_ok-n.n w.if-n-least.true
        | then-n-least-via-else-n-least+then-most-n w ↦ above_most c.args.least c.args.most c.in_ok-n.n w.if-most-n.true
      ]
      ),
)
