use Rattle.session_value.proofs.GotTies.{gets_tied}
use Rattle.session_value.proofs.PutTies.{puts_tied}
use Rattle.session_value.proofs.RoundTies.{passes_tied}
use Rattle.session_value.proofs.Ties.{emits_tied, takes_tied}
use Rattle.session_value.proofs.laws.sessions_stay_tied.Goals as goal

pub returns-clause-gets : goal.returns-clause-gets
returns-clause-gets c = λ before after bytes tied g. gets_tied before after bytes g tied

pub returns-clause-puts : goal.returns-clause-puts
returns-clause-puts c = λ before after u tied g. puts_tied before after u g tied

pub returns-clause-passes : goal.returns-clause-passes
returns-clause-passes c = λ before after round tied g. passes_tied before after round g tied

pub returns-clause-emits : goal.returns-clause-emits
returns-clause-emits c = emits_tied

pub returns-clause-takes : goal.returns-clause-takes
returns-clause-takes c = takes_tied
