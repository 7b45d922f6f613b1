-- What a `Lab` says of the world in which its run ended.
use Rattle.std.specs.Prelude.{ℕ, ◌≡◌, ◌≢◌, ◌<◌, [], ◌∷◌, map, length, Some, slice_get}
use Rattle.std.specs.List.{flat_map}
use Rattle.std.specs.FinMap as table
use Rattle.tcp_seq.specs.Endpoint.{received_bytes}
use Rattle.bgp_types.specs.Prefixes.{PrefixValue}
use Rattle.bgp_types.specs.declared.attrs.Route.{Route}
use Rattle.route_policy.specs.declared.best.Best.{Best}
use Rattle.session_value.specs.Sessions.{SessionValue}
use Rattle.graft_model.specs.Setups.{Setup, router_numbers, peering_numbers, peerings_in}
use Rattle.graft_model.specs.Parts.{RouterPart, FarPart, World}
use Rattle.graft_model.specs.Claims.{sessions_at, sessions_of}
use Rattle.operator_state.specs.Grafts.{log_of}
use Rattle.lab_report.specs.declared.lab.BestEntry.{BestEntry}
use Rattle.lab_report.specs.declared.lab.FarView.{FarView}
use Rattle.lab_report.specs.declared.lab.Lab.{Lab}
use Rattle.lab_report.specs.declared.lab.Place.{Place}
use Rattle.lab_report.specs.declared.lab.Place.TheVariants.{Held, Moving}
use Rattle.lab_report.specs.declared.lab.RouterTable.{RouterTable}
use Rattle.lab_report.specs.declared.lab.SessionView.{SessionView}
use Rattle.lab_report.specs.declared.lab.ToldEntry.{ToldEntry}

-- ---- sessions

-- a session's story, and the sizes of its tables
abbrev pub session_view : SessionValue → SessionView
session_view s = record { story = record { lines = s.story; remote_as = s.config.remote_as }; heard = table.len s.adj_rib_in; told = table.len s.adj_rib_out }

-- where the session of a peering is: held by that router, or by none
abbrev pub IsSessionPlace : World → ℕ → Place → Type 0
IsSessionPlace w p (Held router) = sessions_at ((w.router router.0).places p) ≢ []
IsSessionPlace w p Moving = (r : ℕ) → sessions_at ((w.router r).places p) ≡ []

-- A peering's session is where the `Lab` says, and has the view that it says.
pub record SeesSession (setup : Setup) (w : World) (lab : Lab) (p : ℕ) : Type 0 where
  pub session : SessionValue
  pub one : sessions_of setup w p ≡ session ∷ []
  pub view : slice_get lab.sessions p ≡ Some (session_view session)
  pub place : Place
  pub placed : slice_get lab.placement p ≡ Some place
  pub is : IsSessionPlace w p place

-- ---- remotes and routers

abbrev pub far_view : FarPart → FarView
far_view far = record { said = far.end.stream; received = received_bytes far.end; pointer = record { 0 = far.pointer } }

abbrev pub best_entry : PrefixValue × Best → BestEntry
best_entry e = record { prefix = e.0; from = e.1.from; route = e.1.route }

abbrev pub told_entry : ℕ → PrefixValue × Route → ToldEntry
told_entry q e = record { router = record { 0 = q }; prefix = e.0; route = e.1 }

-- the best routes in ascending order of prefix, and what the other routers told in ascending order of router and prefix
abbrev pub router_table_of : Setup → RouterPart → RouterTable
router_table_of setup part = record {
  best = map best_entry (table.entries part.best);
  heard = flat_map (λ q. map (told_entry q) (table.entries (part.tellings q))) (router_numbers setup);
}

-- ---- the whole

pub record Observed (setup : Setup) (w : World) (lab : Lab) : Type 0 where
  pub log : lab.log ≡ log_of setup w.operator
  pub placed : length lab.placement ≡ peerings_in setup
  pub viewed : length lab.sessions ≡ peerings_in setup
  pub sessions : (p : ℕ) → p < peerings_in setup → SeesSession setup w lab p
  pub far : lab.far ≡ map (λ p. far_view (w.far p)) (peering_numbers setup)
  pub tables : lab.tables ≡ map (λ r. router_table_of setup (w.router r)) (router_numbers setup)
