use Rattle.journal_form.proofs.OneReading.{Divides-journal, one_journal}
use Rattle.journal_form.proofs.laws.journals_read_back.Goals as goal

pub returns-clause-divides : goal.returns-clause-divides
returns-clause-divides c = Divides-journal

pub returns-clause-different : goal.returns-clause-different
returns-clause-different c = one_journal
