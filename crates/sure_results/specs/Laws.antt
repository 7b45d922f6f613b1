-- The law of sure results.
use Rattle.graft_model.specs.Setups.{Setup, IsSetup}
use Rattle.graft_model.specs.Parts.{World}
use Rattle.graft_laws.specs.Keeps.{Reached}
use Rattle.one_answer.specs.Settled.{IsSettled}
use Rattle.sure_results.specs.Results.{IsSure, HasResults}

-- Whatever events led there and in whatever order, the log of a settled run has the results that the script says.
abbrev pub SureLaboratoriesHaveResults : Type 0
SureLaboratoriesHaveResults = (setup : Setup) (w : World) → IsSetup setup → IsSure setup → Reached setup w → IsSettled setup w → HasResults setup w.operator
