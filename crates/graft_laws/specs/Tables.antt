-- Invariants of the tables of routers (RFC 4271, section 9.1).
use Rattle.std.specs.Prelude.{ℕ, ◌==◌, ◌≡◌, ◌≢◌, ◌<◌, Bool, true, false, List, [], ◌∷◌, Option, None, if◌then◌else◌}
use Rattle.std.specs.FinMap as map
use Rattle.bgp_types.specs.declared.attrs.Route.{Route}
use Rattle.bgp_types.specs.declared.message.SessionState.TheVariants.{Established}
use Rattle.bgp_types.specs.Prefixes.{PrefixValue, same_prefix}
use Rattle.route_policy.specs.Telling.{tell_in}
use Rattle.session_value.specs.Sessions.{SessionValue, state}
use Rattle.session_value.specs.Sets.{has}
use Rattle.graft_model.specs.Decisions.{chosen, to_tell}
use Rattle.graft_model.specs.Parts.{Errand, Live, RouterPart, Mesh, Told, Moved, Back, Asked, Answered as AnswerTo, Done, World}
use Rattle.graft_model.specs.RouterRows.{BringsIn}
use Rattle.graft_model.specs.Setups.{Setup, routers_in}
use Rattle.graft_model.specs.TableRows.{holds_established}
use Rattle.graft_laws.specs.Phases.{Landed, Asking, Confirmed, Cleared, Phase, Idle, Busy}
use Rattle.graft_laws.specs.Streams.{IsUnbroken}

-- ---- entries

-- the router r has the entries of the peering
abbrev pub has_entries : Phase → ℕ → Bool
has_entries (Idle q) r = r == q
has_entries (Busy q k t (Landed n)) r = r == t
has_entries (Busy q k t (Asking n)) r = r == t
has_entries (Busy q k t Confirmed) r = r == t
has_entries (Busy q k t Cleared) r = r == t
has_entries (Busy q k t stage) r = r == q

-- the router r is the old place of a session that has landed, and doesn't know that yet
abbrev pub is_late : Phase → ℕ → Bool
is_late (Busy q k t (Landed n)) r = r == q
is_late (Busy q k t (Asking n)) r = r == q
is_late (Busy q k t Confirmed) r = r == q
is_late phase r = false

-- A router's entries of a peering are what its session brings in, at the router that holds it or keeps its routes while it is away; all others have
-- none. The old place of a session that has landed is exempt until it clears its shadow.
pub record Entered (setup : Setup) (w : World) (p : ℕ) (phase : Phase) (session : SessionValue) : Type 0 where
  pub here : (r : ℕ) → has_entries phase r ≡ true → BringsIn setup r session ((w.router r).entries p)
  pub elsewhere : (r : ℕ) → has_entries phase r ≡ false → is_late phase r ≡ false → (w.router r).entries p ≡ map.empty

-- ---- best routes

-- The best route to a prefix that isn't dirty is the choice between the router's candidates.
pub record Decided (setup : Setup) (r : ℕ) (part : RouterPart) : Type 0 where
  pub best : (x : PrefixValue) → has part.dirty x ≡ false → map.get part.best x ≡ chosen setup r part x

-- ---- between routers

-- the last that is told of a prefix in a channel, or else what was heard before
abbrev pub last_told : PrefixValue → List Mesh → Option Route → Option Route
last_told x [] before = before
last_told x (Told y route ∷ items) before = last_told x items (if same_prefix x y then route else before)
last_told x (Moved graft p session ∷ items) before = last_told x items before
last_told x (Back graft p session refusal ∷ items) before = last_told x items before
last_told x (Asked graft p ∷ items) before = last_told x items before
last_told x (AnswerTo graft p ∷ items) before = last_told x items before
last_told x (Done graft p ∷ items) before = last_told x items before

-- what the router b will have heard from the router a for a prefix, once all that is on its way has arrived
abbrev pub heard_then : World → ℕ → ℕ → PrefixValue → Option Route
heard_then w a b x = last_told x (w.mesh a b) (map.get ((w.router b).tellings a) x)

-- For each prefix that isn't due from a to b, b has, or will have, what a tells of its best route. A router has heard nothing from itself.
pub record Informed (setup : Setup) (a b : ℕ) (w : World) : Type 0 where
  pub others : a ≢ b → b < routers_in setup → (x : PrefixValue) → has ((w.router a).due_in b) x ≡ false
      → heard_then w a b x ≡ tell_in (map.get (w.router a).best x)
  pub itself : a ≡ b → (x : PrefixValue) → (has ((w.router a).due_in a) x ≡ false) × (heard_then w a a x ≡ None)

-- ---- on sessions

-- For each prefix that isn't due on a live established session, what was told on it is what is to be told of the best route.
pub record Answered (setup : Setup) (r : ℕ) (part : RouterPart) : Type 0 where
  pub adj_rib_out : (p : ℕ) (session : SessionValue) (errand : Option Errand) → part.places p ≡ Live session errand → state session ≡ Established
      → (x : PrefixValue) → has (part.due_out p) x ≡ false → map.get session.adj_rib_out x ≡ to_tell setup r part session x

-- What is due on a peering is due at a place where an established session is held, live or frozen.
pub record DueIsHeld (part : RouterPart) : Type 0 where
  pub held : (p : ℕ) (x : PrefixValue) → has (part.due_out p) x ≡ true → holds_established (part.places p) ≡ true

-- ---- a peering as a whole

pub record IsWhole (setup : Setup) (w : World) (p : ℕ) (phase : Phase) (session : SessionValue) : Type 0 where
  pub unbroken : IsUnbroken setup w p phase session
  pub entered : Entered setup w p phase session
