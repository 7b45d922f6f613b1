use Rattle.std.proofs.Common.{◌≡◌, ◌∷◌, ◌++◌, List, [], subst, sym}
use Rattle.std.specs.Prelude.{IsPermutation}
use Rattle.ring_net.specs.declared.entry.JournalEntry.{JournalEntry}
use Rattle.journal_merge.specs.Merges.{AllOrdered}
use Rattle.journal_merge.proofs.Joined.{joined}
use Rattle.journal_merge.proofs.TwoRuns.{joined_more, ordered_more}
use Rattle.journal_merge.proofs.merging.merge_all.Goals as goal

pub loop-runs-preserved : goal.loop-runs-preserved
loop-runs-preserved c =
    let x : List JournalEntry = c.take_shortest-first.result in
    let y : List JournalEntry = c.take_shortest-second.result in
    let m : List JournalEntry = c.in_ok-merge_two.field-0 in
    let two : List (List JournalEntry) = c.loop-runs.runs.items in
    let one : List (List JournalEntry) = c.take_shortest-first.new.runs.items in
    let rest : List (List JournalEntry) = c.take_shortest-second.new.runs.items in
    let both : IsPermutation (x ++ y) m = subst (λ zs. IsPermutation (x ++ zs) m) c.as_slice-in-loop-runs.ensures
    (subst (λ zs. IsPermutation (zs ++ c.as_slice-in-loop-runs.result.now) m) c.as_slice.ensures c.in_ok-merge_two.ensures.all) in
    let ordered = c.take_shortest-first.ensures.order c.loop-runs.invariant.order in
    let pushed : c.push.new.self.items ≡ rest ++ m ∷ [] = c.in_ok-push.ensures.items in
    record {
      all = subst (λ zs. IsPermutation (joined c.args.runs.items) (joined zs)) (sym pushed)
          (joined_more (joined c.args.runs.items) x y m two one rest c.take_shortest-first.ensures.all
          c.take_shortest-second.ensures.all both c.loop-runs.invariant.all);
      order = subst (λ zs. AllOrdered zs) (sym pushed) (ordered_more rest m (c.take_shortest-second.ensures.order ordered.1).1 c.in_ok-merge_two.ensures.order);
    }
