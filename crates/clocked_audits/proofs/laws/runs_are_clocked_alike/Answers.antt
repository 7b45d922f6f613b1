use Rattle.clocked_audits.proofs.Folds.{run_longer, run_goes_on, one_clocked}
use Rattle.clocked_audits.proofs.laws.runs_are_clocked_alike.Goals as goal

pub returns-clause-longer : goal.returns-clause-longer
returns-clause-longer c = run_longer

pub returns-clause-on : goal.returns-clause-on
returns-clause-on c setup events entries event entry later rest w u v last sound = run_goes_on setup sound events entries event entry later rest w u v last

pub returns-clause-alike : goal.returns-clause-alike
returns-clause-alike c setup events others entries w u v sound =
    one_clocked setup sound c.an_entry_is_of_one_event.ensures.all events others entries w u v
