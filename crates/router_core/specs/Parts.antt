-- A router as the model has it, and the invariant of its fields.
use Rattle.std.specs.Prelude.{ℕ, ◌≡◌, ◌≢◌, ◌<◌, ◌≤◌, Option, Some, None, true, false, is_some, length}
use Rattle.std.specs.FinMap as map
use Rattle.bgp_types.specs.Prefixes.{PrefixValue}
use Rattle.bgp_types.specs.declared.message.SessionState.TheVariants.{Established, Closed}
use Rattle.session_value.specs.Fronts.{BeginsNothing}
use Rattle.session_value.specs.Sessions.{SessionValue, state, unread}
use Rattle.session_value.specs.Sets.{Entries, Prefixes, has}
use Rattle.rib_stages.specs.Values.{rib_of, table_at}
use Rattle.graft_model.specs.Setups.{Setup, peerings_in, room_of, routers_in}
use Rattle.graft_model.specs.Parts.{RouterPart}
use Rattle.graft_actors.specs.Actors.{Router, RouterIs}
use Rattle.graft_actors.specs.Acts.{OwnPart}
use Rattle.actor_configs.specs.Configs.{ArePoliciesOf, AreFirstsOf, IsRibOf}
use Rattle.router_tables.specs.Owned.{IsOfPeering, IsGraftOf, IsLandingOf, HasNoEntry}
use Rattle.router_core.specs.Places.{place_of, place_at}
use Rattle.router_core.specs.declared.fields.Fields.{Fields}
use Rattle.router_core.specs.declared.place.Errand.{Errand}
use Rattle.router_core.specs.declared.place.Errand.TheVariants.{Leaving, Owing, Asking}
use Rattle.router_core.specs.declared.place.Place.{Place}
use Rattle.router_core.specs.declared.place.Place.TheVariants.{Live, Shadow}

abbrev pub router_part : Fields → RouterPart
router_part f = record {
  places = λ p. place_of (place_at f.places.places p);
  entries = (rib_of f.rib).entries;
  tellings = (rib_of f.rib).tellings;
  best = f.rib.best;
  dirty = f.rib.dirty;
  due_in = table_at f.due_in;
  due_out = table_at f.due_out;
}

abbrev pub own_part : Fields → OwnPart
own_part f = record { setup = f.known.setup; name = Router f.number.0; part = RouterIs (router_part f) }

-- ---- what a place keeps

-- A session has read all that it can.
abbrev pub HasReadAll : SessionValue → Type 0
HasReadAll session = state session ≢ Closed → BeginsNothing (unread session)

abbrev pub IsErrandOf : Setup → ℕ → ℕ → Option Errand → Type 0
IsErrandOf setup r p None = Unit {0}
IsErrandOf setup r p (Some (Leaving ids)) = IsGraftOf setup r p ids
IsErrandOf setup r p (Some (Owing landing)) = IsLandingOf setup r p landing.ids
IsErrandOf setup r p (Some (Asking landing)) = IsLandingOf setup r p landing.ids × (landing.next < routers_in setup)

abbrev pub IsNothingDue : Prefixes → Type 0
IsNothingDue due = (x : PrefixValue) → has due x ≡ false

-- Something is due on a session only while it is established.
abbrev pub IsDueWhileUp : SessionValue → Prefixes → Type 0
IsDueWhileUp session due = (x : PrefixValue) → has due x ≡ true → state session ≡ Established

-- A vacant place has no entries and nothing is due on it. Nothing is due on a shadow.
abbrev pub KeepsPlace : Setup → ℕ → ℕ → Entries → Prefixes → Option Place → Type 0
KeepsPlace setup r p entries due None = HasNoEntry entries × IsNothingDue due
KeepsPlace setup r p entries due (Some (Live running errand)) =
    IsOfPeering setup p running.session × HasReadAll running.session × IsErrandOf setup r p errand × IsDueWhileUp running.session due
KeepsPlace setup r p entries due (Some (Shadow away)) = IsGraftOf setup r p away × IsNothingDue due

-- ---- what the fields keep

-- what the fields keep beside their places, and a part for each peering
pub record KeepsWith (Each : ℕ → Type 0) (f : Fields) : Type 0 where
  -- the configuration is its laboratory's
  pub there : f.number.0 < routers_in f.known.setup
  pub routers : f.routers ≡ routers_in f.known.setup
  pub few_routers : f.routers ≤ 256
  pub few_peerings : peerings_in f.known.setup ≤ 256
  pub room : f.room ≡ room_of f.known.setup f.number.0
  pub reserved : f.places.room ≡ f.room
  pub home_as : f.home_as ≡ f.known.setup.home_as
  pub policies : ArePoliciesOf f.known.setup f.number.0 f.policies
  pub firsts : AreFirstsOf f.known.setup f.firsts
  pub rib : IsRibOf f.known.setup f.number.0 f.rib.config
  -- there is a place, and a set of what is due, for each peering, and a set of what is due for each router; nothing is kept for routers that don't
  -- exist
  pub places : length f.places.places ≡ peerings_in f.known.setup
  pub due_in : length f.due_in ≡ routers_in f.known.setup
  pub due_out : length f.due_out ≡ peerings_in f.known.setup
  pub tellings : (q : ℕ) → routers_in f.known.setup ≤ q → (x : PrefixValue) → is_some (map.get ((rib_of f.rib).tellings q) x) ≡ false
  pub each : (p : ℕ) → Each p

-- what is kept at the place for a peering
abbrev pub KeepsAt : Fields → ℕ → Type 0
KeepsAt f p = KeepsPlace f.known.setup f.number.0 p ((rib_of f.rib).entries p) (table_at f.due_out p) (place_at f.places.places p)

abbrev pub RouterInvariant : Fields → Type 0
RouterInvariant f = KeepsWith (KeepsAt f) f
