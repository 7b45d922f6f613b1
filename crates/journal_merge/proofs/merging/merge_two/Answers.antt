use Rattle.std.proofs.Common.{◌≡◌, ◌≤◌, ◌++◌, ◌∙◌, ◌⊎◌, ap, drop, inl, inr, length, subst, sym}
use Rattle.std.specs.Prelude.{IsPermutation}
use Rattle.journal_merge.specs.Merges.{NoneBefore}
use Rattle.journal_merge.proofs.TwoRuns.{all_left, merged, merged_all, merged_order, merging_done}
use Rattle.journal_merge.proofs.merging.merge_two.Goals as goal
use Rattle.journal_merge.proofs.merging.merge_two.Goals.{After-from_vec, then-loop-i-test+else-j-second, else-loop-i-test}

ended : (c : After-from_vec) → (length c.args.first.now ≤ c.loop-i.i) ⊎ (length c.args.second.now ≤ c.loop-i.j)
ended c = elim c.loop-i-test.branch [ then-loop-i-test+else-j-second w ↦ inr w.if-j-second.false | else-loop-i-test w ↦ inl w.loop-i-test.false ]

whole : (c : After-from_vec) → c.from_vec.result ≡ merged c.args.first.now c.args.second.now
whole c = c.from_vec.ensures ∙ c.in_ok-extend_from_slice-2.ensures.items
    ∙ ap (λ zs. c.extend_from_slice.new.self.items ++ zs) (all_left c.loop-i.j c.args.second.now)
    ∙ ap (λ zs. zs ++ drop c.loop-i.j c.args.second.now)
    (c.in_ok-extend_from_slice.ensures.items ∙ ap (λ zs. c.loop-i.merged.items ++ zs) (all_left c.loop-i.i c.args.first.now))
    ∙ merging_done c.args.first.now c.args.second.now c.loop-i.i c.loop-i.j c.loop-i.merged.items (ended c) c.loop-i.invariant.merging

pub returns-clause-all : goal.returns-clause-all
returns-clause-all c = subst (λ zs. IsPermutation (c.args.first.now ++ c.args.second.now) zs) (sym (whole c)) (merged_all c.args.first.now c.args.second.now)

pub returns-clause-order : goal.returns-clause-order
returns-clause-order c = subst (λ zs. NoneBefore zs) (sym (whole c)) (merged_order c.args.first.now c.args.second.now c.requires.first c.requires.second)
