-- The law of sure results.
use Rattle.sure_results.specs.Laws.{SureLaboratoriesHaveResults}
use Rattle.sure_results.proofs.Outcomes.{has_results}
use Rattle.sure_results.proofs.Up.{up_while_busy}

pub results_are_sure : SureLaboratoriesHaveResults
results_are_sure setup w ok sure reached settled = has_results setup ok sure (up_while_busy setup ok sure) w reached settled
