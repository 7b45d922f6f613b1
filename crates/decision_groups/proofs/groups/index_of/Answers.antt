use Rattle.std.proofs.Common.{rules}
use Rattle.std.proofs.lemmas.Cmp.{nat_cmp_total}
use Rattle.std.proofs.lemmas.List.Sorted.{answers_always}
use Rattle.decision_groups.proofs.Indices.{searched}
use Rattle.decision_groups.proofs.groups.index_of.Goals as goal

-- the closure gives an entry's number
pub returns-clause-found : goal.returns-clause-found
returns-clause-found c =
    let facts = c.binary_search_by_key.ensures in
    let by_key = facts.position (λ e. e.0) (answers_always _ _ _ (λ f a r h called. search rules)) in
    (searched nat_cmp_total c.args.neighbour c.args.entries.now c.requires _ facts.bound by_key).found

pub returns-clause-absent : goal.returns-clause-absent
returns-clause-absent c =
    let facts = c.binary_search_by_key.ensures in
    let by_key = facts.position (λ e. e.0) (answers_always _ _ _ (λ f a r h called. search rules)) in
    (searched nat_cmp_total c.args.neighbour c.args.entries.now c.requires _ facts.bound by_key).absent
