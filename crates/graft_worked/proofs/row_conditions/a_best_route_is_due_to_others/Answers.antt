use Rattle.graft_worked.proofs.Due.{not_to_itself, not_on_vacant, decides_early, not_too_early}
use Rattle.graft_worked.proofs.GraftRows.{b_decides}
use Rattle.graft_worked.proofs.row_conditions.a_best_route_is_due_to_others.Goals as goal

pub returns : goal.returns
returns c = record { due = b_decides; itself = not_to_itself; vacant = not_on_vacant; early = decides_early; too_early = not_too_early }
