use Rattle.std.proofs.Common.{◌++◌, ◌<◌, List, length, sym, subst, ap, arith}
use Rattle.std.specs.Prelude.{IsPermutation}
use Rattle.ring_net.specs.declared.entry.JournalEntry.{JournalEntry}
use Rattle.journal_merge.proofs.Joined.{joined}
use Rattle.journal_merge.proofs.TwoRuns.{pulled}
use Rattle.journal_merge.proofs.merging.take_shortest.Goals as goal

pub returns-clause-all : goal.returns-clause-all
returns-clause-all c =
    let runs : List (List JournalEntry) = c.args.runs.now.items in
    let within : c.shortest-at.result < length runs =
    omega (arith, c.shortest-at.ensures, ap (λ (rs : List (List JournalEntry)). length rs) c.deref.ensures.value) in
    subst (λ (rs : List (List JournalEntry)). IsPermutation (joined runs) (c.remove.result ++ joined rs)) (sym c.remove.ensures.items)
    (pulled runs c.shortest-at.result c.remove.result within c.remove.ensures.value)
