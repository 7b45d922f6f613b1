use Rattle.session_value.proofs.GotTies.{gets_of_story}
use Rattle.session_value.proofs.PutTies.{puts_of_story}
use Rattle.session_value.proofs.RoundTies.{passes_of_story}
use Rattle.session_value.proofs.Ties.{emits_of_story, takes_of_story}
use Rattle.session_value.proofs.laws.sessions_stay_of_their_story.Goals as goal

pub returns-clause-gets : goal.returns-clause-gets
returns-clause-gets c = λ before after bytes is g. gets_of_story before after bytes g is

pub returns-clause-puts : goal.returns-clause-puts
returns-clause-puts c = λ before after u is g. puts_of_story before after u g is

pub returns-clause-passes : goal.returns-clause-passes
returns-clause-passes c = λ before after round is g. passes_of_story before after round g is

pub returns-clause-emits : goal.returns-clause-emits
returns-clause-emits c = emits_of_story

pub returns-clause-takes : goal.returns-clause-takes
returns-clause-takes c = takes_of_story
