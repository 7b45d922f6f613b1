-- A worked picture: of two routers and two peerings, of which the first, at the first router, is to move to the second router, which turns its
-- session back in round 8. In round 9 it is back. The second group of the script began in round 7.
use Rattle.std.specs.Prelude.{ℕ, [], ◌∷◌}
use Rattle.picture_view.specs.declared.plan.Change.{Change}
use Rattle.picture_view.specs.declared.plan.Change.TheVariants.{Left, TurnedBack, CameBack}
use Rattle.picture_view.specs.declared.plan.GraftPoint.{GraftPoint}
use Rattle.picture_view.specs.declared.plan.Plan.{Plan}

abbrev pub worked_point : (round : ℕ) → Change → GraftPoint
worked_point round change = record { round = round; change = change; graft = 1; peering = 0; source = 0; target = 1 }

abbrev pub worked_plan : Plan
worked_plan = record {
  points = worked_point 8 Left ∷ worked_point 8 TurnedBack ∷ worked_point 9 CameBack ∷ [];
  starts = (record { round = 0; group = 1 }) ∷ (record { round = 7; group = 2 }) ∷ [];
  shown = 0 ∷ 7 ∷ 8 ∷ 9 ∷ [];
  lanes = (0 ∷ []) ∷ (0 ∷ 1 ∷ []) ∷ [];
}
