use Rattle.std.proofs.Common.{◌∙◌, sym}
use Rattle.journal_merge.proofs.Orders.{sorted_once}
use Rattle.journal_merge.proofs.Joined.{merged_once}
use Rattle.journal_merge.proofs.laws.one_merge.Goals as goal

pub returns-clause-merged : goal.returns-clause-merged
returns-clause-merged c = merged_once

pub returns-clause-each : goal.returns-clause-each
returns-clause-each c = λ journals xs ys h k. sorted_once xs ys h.sorted k.sorted (λ n. h.each n ∙ sym (k.each n))
