use Rattle.std.proofs.Common.{refl}
use Rattle.picture_view.specs.Positions.{lane_height, lane_y, bottom_y, row_y, height_of}
use Rattle.picture_view.proofs.laws.worked_rows.Goals as goal

pub returns-clause-source : goal.returns-clause-source
unfolding lane_height lane_y bottom_y row_y height_of
returns-clause-source c = refl

pub returns-clause-target : goal.returns-clause-target
unfolding lane_height lane_y bottom_y row_y height_of
returns-clause-target c = refl

pub returns-clause-other : goal.returns-clause-other
unfolding lane_height lane_y bottom_y row_y height_of
returns-clause-other c = refl

pub returns-clause-bottom : goal.returns-clause-bottom
unfolding lane_height lane_y bottom_y row_y height_of
returns-clause-bottom c = refl

pub returns-clause-height : goal.returns-clause-height
unfolding lane_height lane_y bottom_y row_y height_of
returns-clause-height c = refl
