use Rattle.journal_merge.proofs.Joined.{merged_each, each_merged}
use Rattle.journal_merge.proofs.laws.each_actor_has_its_journal.Goals as goal

pub returns : goal.returns
returns c = λ journals merged own. (merged_each journals merged own, each_merged journals merged)
