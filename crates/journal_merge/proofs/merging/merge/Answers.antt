use Rattle.std.proofs.Common.{◌∙◌, Result, Ok, Err, sym, subst}
use Rattle.std.specs.Prelude.{IfOk, IsPermutation, slice_index_or, []}
use Rattle.journal_merge.specs.Merges.{AllOrdered, IsMerged, Interleaves, NoneBefore}
use Rattle.journal_merge.proofs.Joined.{joined, is_merged, merged_each}
use Rattle.journal_merge.proofs.TwoRuns.{journals_ordered}
use Rattle.journal_merge.proofs.merging.merge.Goals as goal
use Rattle.journal_merge.proofs.merging.merge.Goals.{After-merge_all}

both : {T E : Type 0} (P Q R : T → Type 0) (r : Result T E) → ((x : T) → P x → Q x → R x) → IfOk r P → IfOk r Q → IfOk r R
both P Q R (Ok x) f p q = f x p q
both P Q R (Err e) f p q = tt

pub merge_all-requires : goal.merge_all-requires
merge_all-requires c = subst (λ zs. AllOrdered zs) (sym (c.into_vec.ensures ∙ c.into_items.ensures.value))
    (journals_ordered c.args.journals c.into_items.ensures.journals)

merged : (c : After-merge_all) → IfOk c.merge_all.result (IsMerged c.args.journals)
merged c = both (IsPermutation (joined c.into_vec.result.items)) NoneBefore (IsMerged c.args.journals) c.merge_all.result
    (λ es all order. is_merged c.args.journals es c.into_items.ensures.journals
    (subst (λ zs. IsPermutation (joined zs) es) (c.into_vec.ensures ∙ c.into_items.ensures.value) all) order)
    c.merge_all.ensures.all c.merge_all.ensures.order

pub returns-clause-merged : goal.returns-clause-merged
returns-clause-merged c = merged c

pub returns-clause-each : goal.returns-clause-each
returns-clause-each c = both (IsMerged c.args.journals) (IsMerged c.args.journals) (Interleaves (λ k. slice_index_or c.args.journals k [])) c.merge_all.result
    (λ es h _. merged_each c.args.journals es c.into_items.ensures.journals h) (merged c) (merged c)
