use Rattle.std.proofs.Common.{refl}
use Rattle.picture_view.specs.Positions.{eighth, column_x, round_x, point_x, end_x, graft_x, next_leave_x, width_of}
use Rattle.picture_view.proofs.laws.worked_columns.Goals as goal

pub returns-clause-left : goal.returns-clause-left
unfolding eighth column_x round_x point_x end_x graft_x next_leave_x width_of
returns-clause-left c = refl

pub returns-clause-arrives : goal.returns-clause-arrives
unfolding eighth column_x round_x point_x end_x graft_x next_leave_x width_of
returns-clause-arrives c = refl

pub returns-clause-back : goal.returns-clause-back
unfolding eighth column_x round_x point_x end_x graft_x next_leave_x width_of
returns-clause-back c = refl

pub returns-clause-leaves : goal.returns-clause-leaves
unfolding eighth column_x round_x point_x end_x graft_x next_leave_x width_of
returns-clause-leaves c = refl

pub returns-clause-stays : goal.returns-clause-stays
unfolding eighth column_x round_x point_x end_x graft_x next_leave_x width_of
returns-clause-stays c = refl

pub returns-clause-end : goal.returns-clause-end
unfolding eighth column_x round_x point_x end_x graft_x next_leave_x width_of
returns-clause-end c = refl

pub returns-clause-width : goal.returns-clause-width
unfolding eighth column_x round_x point_x end_x graft_x next_leave_x width_of
returns-clause-width c = refl
