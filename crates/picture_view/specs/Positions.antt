-- Where things stand in the picture, in pixels. Rounds go from the left to the right, and lanes stand below one another.
use Rattle.std.specs.Prelude.{ℕ, ◌+◌, ◌-◌, ◌*◌, ◌/◌, ◌==◌, Bool, true, false, List, [], length, take, count_by, sum_by, Option, Some, None, get_or, nat_lt}
use Rattle.std.specs.Prelude.{min, max, ◌&&◌}
use Rattle.std.specs.List.{find}
use Rattle.picture_view.specs.declared.plan.Change.{Change}
use Rattle.picture_view.specs.declared.plan.Change.TheVariants.{Left, Landed, TurnedBack, CameBack, Cleared, Refused}
use Rattle.picture_view.specs.declared.plan.GraftPoint.{GraftPoint}
use Rattle.picture_view.specs.declared.plan.Plan.{Plan}
use Rattle.picture_view.specs.Plans.{is_left}

-- ---- from the left to the right

-- an eighth of the width of a round: the fewer rounds are shown, the wider each is
unfoldable pub eighth : Plan → ℕ
eighth plan = max 8 (min 20 (160 / max 1 (length plan.shown)))

-- Where the n-th round that is shown begins. In front of each sixteen there are 128 pixels for names.
unfoldable pub column_x : Plan → (n : ℕ) → ℕ
column_x plan n = 128 * (n / 16 + 1) + 8 * eighth plan * n

unfoldable pub round_x : Plan → (round : ℕ) → ℕ
round_x plan round = column_x plan (count_by (λ r. nat_lt r round) plan.shown)

-- Where within its round, in eighths, a point is: what leaves stands in front of what arrives, and behind it what a graft ends with.
abbrev pub eighths : Change → ℕ
eighths Left = 1
eighths Refused = 1
eighths Landed = 5
eighths TurnedBack = 5
eighths CameBack = 7
eighths Cleared = 7

unfoldable pub point_x : Plan → GraftPoint → ℕ
point_x plan p = round_x plan p.round + eighth plan * eighths p.change

-- behind the last round
unfoldable pub end_x : Plan → ℕ
end_x plan = column_x plan (length plan.shown - 1) + 8 * eighth plan

-- how often names stand in front of rounds
unfoldable pub name_columns : Plan → ℕ
name_columns plan = (length plan.shown - 1) / 16 + 1

-- ---- points of the same graft or session

abbrev pub x_of : Plan → Option GraftPoint → ℕ
x_of plan None = end_x plan
x_of plan (Some p) = point_x plan p

abbrev pub arrives : Change → Bool
arrives Landed = true
arrives TurnedBack = true
arrives change = false

abbrev pub is_back : Change → Bool
is_back CameBack = true
is_back change = false

-- the source keeps the place of a session no longer
abbrev pub frees : Change → Bool
frees CameBack = true
frees Cleared = true
frees change = false

-- Where the first such point of a graft is, or the end of the picture.
unfoldable pub graft_x : Plan → (Change → Bool) → (graft : ℕ) → ℕ
graft_x plan is_such graft = x_of plan (find (λ p. is_such p.change && (p.graft == graft)) plan.points)

-- where the session of a peering next leaves after a round, or the end of the picture
unfoldable pub next_leave_x : Plan → (peering round : ℕ) → ℕ
next_leave_x plan peering round = x_of plan (find (λ p. is_left p.change && ((p.peering == peering) && nat_lt round p.round)) plan.points)

-- ---- from the top down

-- sixteen pixels for each row, and above them the name of the router
unfoldable pub lane_height : List ℕ → ℕ
lane_height lane = 16 * length lane + 32

unfoldable pub lane_y : Plan → (router : ℕ) → ℕ
lane_y plan router = 136 + sum_by lane_height (take router plan.lanes)

unfoldable pub bottom_y : Plan → ℕ
bottom_y plan = 136 + sum_by lane_height plan.lanes

-- the row of a peering in the lane of a router
unfoldable pub row_y : Plan → (router peering : ℕ) → ℕ
row_y plan router peering = lane_y plan router + 32 + 16 * count_by (λ q. nat_lt q peering) (get_or plan.lanes router [])

-- ---- the whole

unfoldable pub width_of : Plan → ℕ
width_of plan = max 960 (end_x plan + 24)

-- there is a line for each refused graft
unfoldable pub height_of : Plan → (refused : ℕ) → ℕ
height_of plan refused = bottom_y plan + 40 + 16 * refused
