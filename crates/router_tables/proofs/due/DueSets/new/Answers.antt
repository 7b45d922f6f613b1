use Rattle.std.proofs.Common.{◌≡◌, ◌++◌, ◌∷◌, [], List, length, arith, ap, ◌∙◌, sym, add-one, replicate, ℕ}
use Rattle.std.specs.FinMap as map
use Rattle.session_value.specs.Sets.{Prefixes}
use Rattle.rib_stages.specs.Values.{table_at}
use Rattle.rib_stages.proofs.Tables.{empty_at, length_replicate, one_more}
use Rattle.router_tables.proofs.due.DueSets.new.Goals as goal

pub loop-n-preserved : goal.loop-n-preserved
loop-n-preserved c =
    c.in_ok-push.ensures.items
    ∙ (λ i. c.loop-n.invariant i ++ c.new.ensures i ∷ [])
    ∙ one_more c.loop-n._n
    ∙ ap (λ (k : ℕ). replicate k map.empty) (sym (add-one c.loop-n._n))

pub returns-clause-count : goal.returns-clause-count
returns-clause-count c =
    let all : length c.loop-n.sets.items ≡ c.loop-n._n = ap (λ (ts : List Prefixes). length ts) c.loop-n.invariant ∙ length_replicate c.loop-n._n map.empty in
    omega (arith, all, c.loop-n-test.false, c.loop-n.auto._n-end)

pub returns-clause-empty : goal.returns-clause-empty
returns-clause-empty c = λ n. ap (λ (ts : List Prefixes). table_at ts n) c.loop-n.invariant ∙ empty_at c.loop-n._n n
