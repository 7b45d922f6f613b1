use Rattle.std.proofs.Common.{refl, sym, arith}
use Rattle.lab_run.proofs.end.budget_verdict.Goals as goal

pub returns-then-budget-rounds : goal.returns-then-budget-rounds
returns-then-budget-rounds c = λ setup w d sound has at step_is rounds_is below.
    (below, record { quiet = (c.in-None.ensures.quiet setup w has sound at).0 refl; enough = omega (arith, c.if-budget-rounds.true, rounds_is) })

pub returns-then-budget-rounds-2 : goal.returns-then-budget-rounds-2
returns-then-budget-rounds-2 c = λ setup w d sound has at step_is rounds_is below.
    record {
      below = below;
      made = omega (arith, c.if-budget-rounds-2.true, rounds_is);
      first = c.in-Some.ensures.first setup w has sound at;
      step_is = sym step_is;
      rounds_is = sym rounds_is;
    }
