-- How sessions are found, and the actors by their numbers.
use Rattle.std.specs.Prelude.{ℕ, ◌==◌, List, [], ◌∷◌, map, Option, Some, None}
use Rattle.std.specs.List.{flat_map, find}
use Rattle.ring_net.specs.declared.parts.Left.{Left}
use Rattle.graft_steps.specs.declared.item.Item.TheVariants.{Moved, Back}
use Rattle.graft_steps.specs.declared.log.GraftEntry.{GraftEntry}
use Rattle.bgp_session.specs.Running.{RunningSession}
use Rattle.graft_model.specs.Setups.{Setup}
use Rattle.router_core.specs.Places.{sessions_in}
use Rattle.router_core.specs.Routers as routers
use Rattle.router_core.specs.declared.router as router_types
use Rattle.far_side.specs.Fars as fars
use Rattle.far_side.specs.declared.far.Far.{Far as TheFar}
use Rattle.operator_state.specs.Grafts.{log_of}
use Rattle.operator_core.specs.Operators.{operator_setup, operator_part}
use Rattle.operator_core.specs.declared.operator.Operator.{Operator as TheOperator}
use Rattle.lab_report.specs.declared.lab.FarView.{FarView}
use Rattle.lab_report.specs.declared.lab.Place.{Place}
use Rattle.lab_report.specs.declared.lab.Place.TheVariants.{Held, Moving}
use Rattle.lab_report.specs.declared.lab.RouterTable.{RouterTable}
use Rattle.lab_report.specs.declared.lab.SessionView.{SessionView}
use Rattle.world_nodes.specs.declared.node.Node.{Node}
use Rattle.world_nodes.specs.declared.node.Node.TheVariants.{Router, Far, Operator}
use Rattle.world_nodes.specs.Nodes.{Mail}
use Rattle.lab_seen.specs.Seen.{session_view, far_view, router_table_of}
use Rattle.lab_seen.specs.declared.found.Found.{Found}

-- ---- actors

-- the actor, if it is a router
abbrev pub router_in : Option Node → Option router_types.Router.Router
router_in (Some (Router router)) = Some router
router_in _ = None

abbrev pub far_in : Option Node → Option TheFar
far_in (Some (Far far)) = Some far
far_in _ = None

abbrev pub operator_in : Option Node → Option TheOperator
operator_in (Some (Operator operator)) = Some operator
operator_in _ = None

-- what is seen of it
abbrev pub router_tables_of : Setup → Option router_types.Router.Router → List RouterTable
router_tables_of setup None = []
router_tables_of setup (Some router) = router_table_of setup (routers.part_of_router router) ∷ []

abbrev pub fars_of : Option TheFar → List FarView
fars_of None = []
fars_of (Some far) = far_view (fars.part_of_far far) ∷ []

abbrev pub log_in : Option TheOperator → List GraftEntry
log_in None = []
log_in (Some operator) = log_of (operator_setup operator) (operator_part operator)

-- ---- sessions

-- a session at its place, as it is seen
abbrev pub found_at : Place → RunningSession → Found
found_at place running = record { peering = running.session.config.peering; place = place; view = session_view running.session }

abbrev pub running_sessions : Option router_types.Router.Router → List RunningSession
running_sessions None = []
running_sessions (Some router) = sessions_in router.fields.places.places

-- the sessions that the actor of this number holds
abbrev pub held_by : ℕ → Option Node → List Found
held_by r node = map (found_at (Held (record { 0 = r }))) (running_sessions (router_in node))

-- the session that an item carries
abbrev pub carried_by : Mail → List Found
carried_by (Moved graft capsule) = found_at Moving capsule ∷ []
carried_by (Back graft capsule refusal) = found_at Moving capsule ∷ []
carried_by _ = []

abbrev pub carried_in : Left Mail → List Found
carried_in channel = flat_map carried_by channel.items

-- ---- by peering

-- the first session of a peering that was found
abbrev pub first_on : List Found → ℕ → Option Found
first_on found p = find (λ one. one.peering.0 == p) found

abbrev pub places_in : Option Found → List Place
places_in None = []
places_in (Some one) = one.place ∷ []

abbrev pub views_in : Option Found → List SessionView
views_in None = []
views_in (Some one) = one.view ∷ []
