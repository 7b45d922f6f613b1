-- What the picture of a run shows: points of grafts, beginnings of groups, rounds, and which peerings have a row in the lane of which router.
use Rattle.std.specs.Prelude.{ℕ, ◌-◌, ◌==◌, Bool, true, false, List, [], ◌∷◌, length, map, filter, Option, Some, None, ◌&&◌, ◌||◌, if◌then◌else◌}
use Rattle.std.specs.List.{flat_map, enumerate_from, range_with_len, list_any}
use Rattle.graft_edge.specs.declared.ids.RouterId.{RouterId}
use Rattle.graft_steps.specs.declared.log.GraftEntry.{GraftEntry}
use Rattle.lab_tables.specs.declared.input.PeeringInput.{PeeringInput}
use Rattle.lab_report.specs.declared.lab.Lab.{Lab}
use Rattle.timeline_view.specs.declared.event.Event.{Event}
use Rattle.timeline_view.specs.declared.event.Event.TheVariants.{Refuse, Leave, Land, TurnBack, Return, Clear, Begin}
use Rattle.timeline_view.specs.declared.event.Happening.{Happening}
use Rattle.timeline_view.specs.Events.{happenings}
use Rattle.timeline_view.specs.Numbers.{graft_in}
use Rattle.picture_view.specs.declared.plan.Change.{Change}
use Rattle.picture_view.specs.declared.plan.Change.TheVariants.{Left, Landed, TurnedBack, CameBack, Cleared, Refused}
use Rattle.picture_view.specs.declared.plan.GraftPoint.{GraftPoint}
use Rattle.picture_view.specs.declared.plan.GroupStart.{GroupStart}
use Rattle.picture_view.specs.declared.plan.Plan.{Plan}

-- ---- points of grafts

-- a point of a graft that was ordered at a source
abbrev pub point_from : (round : ℕ) → Change → GraftEntry → Option RouterId → List GraftPoint
point_from round change g None = []
point_from round change g (Some source) =
    record { round = round; change = change; graft = g.graft; peering = g.peering.0; source = source.0; target = g.target.0 } ∷ []

abbrev pub point_of : (round : ℕ) → Change → Option GraftEntry → List GraftPoint
point_of round change None = []
point_of round change (Some g) = point_from round change g g.source

-- what an event is to its graft
abbrev pub points_in : (round : ℕ) → List GraftEntry → Event → List GraftPoint
points_in round log (Leave graft) = point_of round Left (graft_in log graft)
points_in round log (Land graft) = point_of round Landed (graft_in log graft)
points_in round log (TurnBack graft) = point_of round TurnedBack (graft_in log graft)
points_in round log (Return graft) = point_of round CameBack (graft_in log graft)
points_in round log (Clear graft) = point_of round Cleared (graft_in log graft)
points_in round log (Refuse graft) = point_of round Refused (graft_in log graft)
points_in round log event = []

-- the points of all grafts, in the order of the journal
unfoldable pub points_of : List GraftEntry → List Happening → List GraftPoint
points_of log all = flat_map (λ h. points_in h.round log h.event) all

-- ---- groups of the script

abbrev pub starts_in : (round : ℕ) → Event → List GroupStart
starts_in round (Begin group) = (record { round = round; group = group }) ∷ []
starts_in round event = []

-- the first group is at work from the beginning
unfoldable pub starts_of : List Happening → List GroupStart
starts_of all = (record { round = 0; group = 1 }) ∷ flat_map (λ h. starts_in h.round h.event) all

-- ---- rounds

-- behind each round stands a mark, and one in front of the first
abbrev pub last_round : (marks : ℕ) → ℕ
last_round marks = marks - 1

-- A round has room in the picture where there is a point of a graft in it, where a group begins, and if it is the last one.
abbrev pub is_shown : List GraftPoint → List GroupStart → (last round : ℕ) → Bool
is_shown points starts last round =
    (round == last) || (list_any (λ p. p.round == round) points || list_any (λ s. s.round == round) starts)

unfoldable pub rounds_shown : List GraftPoint → List GroupStart → (marks : ℕ) → List ℕ
rounds_shown points starts marks = filter (is_shown points starts (last_round marks)) (range_with_len 0 marks)

-- ---- lanes

abbrev pub is_left : Change → Bool
is_left Left = true
is_left change = false

-- a session of the peering left for the router
abbrev pub leaves_for : (router peering : ℕ) → GraftPoint → Bool
leaves_for router peering p = is_left p.change && ((p.peering == peering) && (p.target == router))

-- the session of a peering starts at the router, or was sent there
abbrev pub comes_to : List GraftPoint → (router : ℕ) → ℕ × PeeringInput → Bool
comes_to points router p = (p.1.at.0 == router) || list_any (leaves_for router p.0) points

abbrev pub row_in : List GraftPoint → (router : ℕ) → ℕ × PeeringInput → List ℕ
row_in points router p = if comes_to points router p then p.0 ∷ [] else []

-- the peerings that have a row in the lane of a router
unfoldable pub lane_of : List PeeringInput → List GraftPoint → (router : ℕ) → List ℕ
lane_of peerings points router = flat_map (row_in points router) (enumerate_from 0 peerings)

unfoldable pub lanes_of : (routers : ℕ) → List PeeringInput → List GraftPoint → List (List ℕ)
lanes_of routers peerings points = map (lane_of peerings points) (range_with_len 0 routers)

-- ---- all

unfoldable pub plan_by : Lab → List GraftPoint → List GroupStart → Plan
plan_by lab points starts = record {
  points = points;
  starts = starts;
  shown = rounds_shown points starts (length lab.marks);
  lanes = lanes_of (length lab.input.routers) lab.input.peerings points;
}

unfoldable pub plan_of : Lab → Plan
plan_of lab = plan_by lab (points_of lab.log (happenings lab)) (starts_of (happenings lab))
