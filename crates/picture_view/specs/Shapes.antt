-- The shapes of sessions and grafts.
use Rattle.std.specs.Prelude.{ℕ, ◌+◌, ◌-◌, ◌/◌, List, [], ◌++◌, codes, decimal}
use Rattle.lab_tables.specs.declared.input.LabInput.{LabInput}
use Rattle.lab_tables.specs.declared.input.PeeringInput.{PeeringInput}
use Rattle.lab_report.specs.Report.{router_name, peering_name}
use Rattle.picture_view.specs.declared.plan.Change.{Change}
use Rattle.picture_view.specs.declared.plan.Change.TheVariants.{Left, Landed, TurnedBack, CameBack, Refused}
use Rattle.picture_view.specs.declared.plan.GraftPoint.{GraftPoint}
use Rattle.picture_view.specs.declared.plan.Plan.{Plan}
use Rattle.picture_view.specs.Elements.{escaped, colour, number_at, path_start, titled_end, plain_end, row_line}
use Rattle.picture_view.specs.Positions.{point_x, graft_x, next_leave_x, round_x, row_y, arrives, is_back, frees}

-- ---- titles

unfoldable pub stay_title : LabInput → (router peering : ℕ) → List ℕ
stay_title input router peering = escaped (peering_name input peering) ++ codes " at " ++ escaped (router_name input router)

unfoldable pub graft_title : LabInput → GraftPoint → List ℕ
graft_title input p = codes "graft " ++ decimal p.graft ++ codes " of " ++ escaped (peering_name input p.peering)
    ++ codes " from " ++ escaped (router_name input p.source) ++ codes " to " ++ escaped (router_name input p.target)

-- ---- where sessions stay

-- A session is at a router from a place in a round until it next leaves in a later round.
unfoldable pub stay : LabInput → Plan → (router peering round x : ℕ) → List ℕ
stay input plan router peering round x =
    row_line (codes "s") peering x (row_y plan router peering) (next_leave_x plan peering round) ++ titled_end (stay_title input router peering)

-- from the beginning, where its peering starts
abbrev pub first_stay : LabInput → Plan → ℕ × PeeringInput → List ℕ
first_stay input plan p = stay input plan p.1.at.0 p.0 0 (round_x plan 0)

-- from its landing at the target, and from its coming back at the source
abbrev pub stay_by : LabInput → Plan → GraftPoint → Change → List ℕ
stay_by input plan p Landed = stay input plan p.target p.peering p.round (point_x plan p)
stay_by input plan p CameBack = stay input plan p.source p.peering p.round (point_x plan p)
stay_by input plan p change = []

abbrev pub stay_from : LabInput → Plan → GraftPoint → List ℕ
stay_from input plan p = stay_by input plan p p.change

-- ---- where its place is kept for it

-- from its leaving until the source clears it, or the session is back
abbrev pub kept_by : Plan → GraftPoint → Change → List ℕ
kept_by plan p Left =
    row_line (codes "k") p.peering (point_x plan p) (row_y plan p.source p.peering) (graft_x plan frees p.graft) ++ plain_end
kept_by plan p change = []

abbrev pub kept_from : Plan → GraftPoint → List ℕ
kept_from plan p = kept_by plan p p.change

-- ---- where a session is on its way

-- a bow from one place to another
unfoldable pub bow : (peering x y to_x to_y : ℕ) → List ℕ
bow peering x y to_x to_y = path_start (codes "w" ++ colour peering) x y
    ++ codes "C" ++ decimal ((x + to_x) / 2) ++ codes " " ++ decimal y
    ++ codes " " ++ decimal ((x + to_x) / 2) ++ codes " " ++ decimal to_y
    ++ codes " " ++ decimal to_x ++ codes " " ++ decimal to_y

-- to the target until it is taken or turned back, and from there until it is back
abbrev pub bow_by : LabInput → Plan → GraftPoint → Change → List ℕ
bow_by input plan p Left =
    bow p.peering (point_x plan p) (row_y plan p.source p.peering) (graft_x plan arrives p.graft) (row_y plan p.target p.peering)
    ++ titled_end (graft_title input p)
bow_by input plan p TurnedBack =
    bow p.peering (point_x plan p) (row_y plan p.target p.peering) (graft_x plan is_back p.graft) (row_y plan p.source p.peering)
    ++ titled_end (graft_title input p)
bow_by input plan p change = []

abbrev pub bow_from : LabInput → Plan → GraftPoint → List ℕ
bow_from input plan p = bow_by input plan p p.change

-- ---- marks, with the number of the graft

unfoldable pub graft_number : (x y graft : ℕ) → List ℕ
graft_number x y graft = number_at (codes "g") (x + 7) (y - 4) graft

-- a dot where a session has landed
unfoldable pub dot : GraftPoint → (x y : ℕ) → List ℕ
dot p x y = path_start (codes "d" ++ colour p.peering) x y ++ codes "h0" ++ plain_end ++ graft_number x y p.graft

-- a cross where a graft was refused
unfoldable pub cross : LabInput → GraftPoint → (x y : ℕ) → List ℕ
cross input p x y = path_start (codes "x") (x - 5) (y - 5) ++ codes "l10 10m0 -10l-10 10" ++ titled_end (graft_title input p)
    ++ graft_number x y p.graft

-- at the target, where it landed or was turned back, or at the source, which refused it itself
abbrev pub mark_by : LabInput → Plan → GraftPoint → Change → List ℕ
mark_by input plan p Landed = dot p (point_x plan p) (row_y plan p.target p.peering)
mark_by input plan p TurnedBack = cross input p (point_x plan p) (row_y plan p.target p.peering)
mark_by input plan p Refused = cross input p (point_x plan p) (row_y plan p.source p.peering)
mark_by input plan p change = []

abbrev pub mark_from : LabInput → Plan → GraftPoint → List ℕ
mark_from input plan p = mark_by input plan p p.change
