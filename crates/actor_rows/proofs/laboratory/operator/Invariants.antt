use Rattle.std.specs.Prelude.{[]}
use Rattle.actor_rows.specs.Laboratory.{laboratory}
use Rattle.actor_rows.proofs.laboratory.operator.Given as goal

-- the operator knows nothing of what remotes say
abbrev pub ghost-new : goal.ghost-new
ghost-new a = laboratory [] [] [] []
