use Rattle.std.proofs.Common.{rules}
use Rattle.std.proofs.lemmas.List.Sorted.{answers_always}
use Rattle.prefix_table.proofs.Indices.{searched}
use Rattle.prefix_table.proofs.sorted.index_of.Goals as goal

-- the closure gives an entry's prefix
pub returns-clause-found : goal.returns-clause-found
returns-clause-found g c =
    let facts = c.binary_search_by_key.ensures in
    let by_key = facts.position (λ e. e.0) (answers_always _ _ _ (λ f a r h called. search rules)) in
    (searched _ c.requires c.args.prefix _ facts.bound by_key).found

pub returns-clause-absent : goal.returns-clause-absent
returns-clause-absent g c =
    let facts = c.binary_search_by_key.ensures in
    let by_key = facts.position (λ e. e.0) (answers_always _ _ _ (λ f a r h called. search rules)) in
    (searched _ c.requires c.args.prefix _ facts.bound by_key).absent
