use Rattle.std.proofs.Common.{arith}
use Rattle.journal_form.proofs.Numbers.{no_number, number_before}
use Rattle.journal_form.proofs.number.read_number.Goals as goal

pub returns-in_err-at : goal.returns-in_err-at
returns-in_err-at c = rw c.from_residual.ensures (no_number c.args.most c.args.end c.args.text.now c.in_err-at.ensures)

pub returns-in_err-number : goal.returns-in_err-number
returns-in_err-number c =
    rw c.from_residual-in_err-number.ensures (λ begins. c.in_err-number.ensures begins.number
    (number_before c.args.most c.args.end c.args.text.now c.in_ok-at.at (omega (arith, c.ranges.most.fits)) c.requires
    c.in_ok-at.ensures.0 c.in_ok-at.ensures.1 begins))
