use Rattle.router_rows.specs.Laboratory.{laboratory}
use Rattle.router_rows.proofs.laboratory.router_1.Given as goal

abbrev pub ghost-new : goal.ghost-new
ghost-new a = laboratory
