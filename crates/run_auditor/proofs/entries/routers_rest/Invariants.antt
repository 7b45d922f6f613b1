use Rattle.std.proofs.Common.{take}
use Rattle.std.specs.Prelude.{All}
use Rattle.run_auditor.specs.Rests.{RouterRests}
use Rattle.run_auditor.proofs.entries.routers_rest.Given as goal

abbrev pub invariant-loop-router : goal.invariant-loop-router
invariant-loop-router l = All RouterRests (take l.router-index l.routers)
