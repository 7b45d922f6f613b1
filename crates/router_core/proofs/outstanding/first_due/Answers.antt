use Rattle.std.proofs.Common.{rules, ◌≡◌, true, false, is_some, arith}
use Rattle.settled_check.specs.Left.{HasSome}
use Rattle.rib_stages.specs.Values.{table_at}
use Rattle.router_core.proofs.RestSteps.{lowest_is, lowest_none, none_behind, none_due, none_next, some_due}
use Rattle.router_core.proofs.outstanding.first_due.Goals as goal

pub returns-then-is_some : goal.returns-then-is_some
returns-then-is_some c =
    let there : is_some c.first.result ≡ true = search rules in
    lowest_is (λ n. HasSome (table_at c.args.due.now n)) c.loop-number.number c.loop-number.invariant
    (some_due (table_at c.args.due.now c.loop-number.number) c.first.result c.first.ensures there)

pub loop-number-preserved : goal.loop-number-preserved
loop-number-preserved c =
    let none : is_some c.first.result ≡ false = search rules in
    none_next (λ n. HasSome (table_at c.args.due.now n)) c.loop-number.number c.loop-number.invariant
    (none_due (table_at c.args.due.now c.loop-number.number) c.first.result c.first.ensures none)

pub returns : goal.returns
returns c = lowest_none (λ n. HasSome (table_at c.args.due.now n)) c.loop-number.number c.loop-number.invariant
    (λ k from. none_behind c.args.due.now c.loop-number.number k (omega (arith, c.loop-number-test.false, c.len-number-end.ensures)) from)
