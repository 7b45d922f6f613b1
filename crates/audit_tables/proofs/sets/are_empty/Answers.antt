use Rattle.std.proofs.Common.{◌≡◌, true, false, is_some, refl, arith, below_more}
use Rattle.rib_stages.specs.Values.{table_at}
use Rattle.audit_tables.proofs.Emptied.{IsEmptied, all_emptied, emptied, not_emptied}
use Rattle.audit_tables.proofs.sets.are_empty.Goals as goal

pub returns-then-is_some : goal.returns-then-is_some
returns-then-is_some c =
    let some : is_some c.first.result ≡ true = cc in (
      λ t. absurd cc,
      λ empty. absurd (not_emptied (table_at c.args.due.now c.loop-n.n) c.first.result c.first.ensures some (empty c.loop-n.n)),
    )

pub loop-n-preserved : goal.loop-n-preserved
loop-n-preserved c =
    let none : is_some c.first.result ≡ false = cc in
    below_more (λ k. IsEmptied (table_at c.args.due.now k)) c.loop-n.n c.loop-n.invariant
    (emptied (table_at c.args.due.now c.loop-n.n) c.first.result c.first.ensures none)

pub returns : goal.returns
returns c = (λ t. all_emptied c.args.due.now c.loop-n.n (omega (arith, c.loop-n-test.false)) c.loop-n.invariant, λ empty. refl)
