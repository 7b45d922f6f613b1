use Rattle.journal_merge.proofs.Orders.{merged_upto}
use Rattle.journal_merge.proofs.laws.entries_before_a_mark.Goals as goal

pub returns : goal.returns
returns c = merged_upto
