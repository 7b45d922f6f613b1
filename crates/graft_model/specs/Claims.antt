-- What is claimed of worlds and of runs.
use Rattle.std.specs.Prelude.{ℕ, ◌≡◌, ◌≢◌, ◌<◌, List, [], ◌∷◌, ◌++◌, length, Option, Some, None, ◌⊎◌, filter, map, if◌then◌else◌, ◌==◌, not}
use Rattle.std.specs.FinMap as map
use Rattle.std.specs.List.{AllByRecursion, flat_map}
use Rattle.bgp_types.specs.declared.message.SessionState.TheVariants.{Closed}
use Rattle.bgp_types.specs.Prefixes.{PrefixValue}
use Rattle.bgp_types.specs.declared.attrs.Route.{Route}
use Rattle.bgp_story.specs.Laws.{IsGotLine}
use Rattle.bgp_story.specs.Readings.{IsLegal, put_bytes, got_bytes, heard, told}
use Rattle.decision_core.specs.Choice.{choice}
use Rattle.graft_steps.specs.declared.refusal.Refusal.{Refusal}
use Rattle.route_policy.specs.Candidates.{SessionRoute, RouterRoute, candidates}
use Rattle.route_policy.specs.Telling.{tell_in}
use Rattle.tcp_seq.specs.Endpoint.{received_bytes}
use Rattle.session_value.specs.Sessions.{SessionValue, peering_of, state, while_established}
use Rattle.session_value.specs.Fronts.{AreFirst, BeginsNothing}
use Rattle.graft_model.specs.Setups.{Setup, routers_in, peerings_in, router_numbers, peering_numbers, identifier_of, cost_between, has_network, config_of}
use Rattle.graft_model.specs.Parts.{Place, Vacant, Live, Frozen, Shadow, Leaving, Owing, Mesh, Told, Moved, Back, Asked, Answered, Done, World}
use Rattle.graft_model.specs.Decisions.{chosen, session_route, to_tell}
use Rattle.graft_model.specs.OperatorRows.{placement}
use Rattle.graft_model.specs.Steps.{RouterEvent, Tell, Refuse, Freeze, Land, Return, Clear, Ask, Confirm, Event, ByRouter, Step, Run}

-- ---- where a session is

abbrev pub sessions_at : Place → List SessionValue
sessions_at Vacant = []
sessions_at (Live session errand) = session ∷ []
sessions_at (Frozen session order) = session ∷ []
sessions_at (Shadow graft) = []

-- the session of this peering that an item carries
abbrev pub sessions_on : ℕ → Mesh → List SessionValue
sessions_on p (Told prefix route) = []
sessions_on p (Moved graft q session) = if q == p then session ∷ [] else []
sessions_on p (Back graft q session refusal) = if q == p then session ∷ [] else []
sessions_on p (Asked graft q) = []
sessions_on p (Answered graft q) = []
sessions_on p (Done graft q) = []

-- All sessions of a peering: those that routers hold, and those on their way between routers.
abbrev pub sessions_of : Setup → World → ℕ → List SessionValue
sessions_of setup w p =
    flat_map (λ r. sessions_at ((w.router r).places p)) (router_numbers setup)
    ++ flat_map (λ a. flat_map (λ b. flat_map (sessions_on p) (w.mesh a b)) (router_numbers setup)) (router_numbers setup)

-- the number of holders of a peering's session, including moving capsules
abbrev pub holders : Setup → World → ℕ → ℕ
holders setup w p = length (sessions_of setup w p)

-- ---- transparent

-- The peering has one session, which is the peering's own, with a legal story (RFC 4271, sections 6 and 8.2.2). The remote received the first bytes
-- of what that story put, and the story got the first bytes of what the remote said. Its tables are those of the story (section 3.1).
pub record Transparent (setup : Setup) (w : World) (p : ℕ) : Type 0 where
  pub session : SessionValue
  pub one : sessions_of setup w p ≡ session ∷ []
  pub own : config_of setup p ≡ Some session.config
  pub legal : IsLegal (peering_of session.config) session.story (state session)
  pub received : AreFirst (received_bytes (w.far p).end) (put_bytes (peering_of session.config) session.story)
  pub got : AreFirst (got_bytes session.story) (w.far p).end.stream
  pub adj_rib_in : session.adj_rib_in ≡ heard (peering_of session.config) session.story
  pub adj_rib_out : session.adj_rib_out ≡ told session.story

-- ---- unchanged

-- Among the events, the graft k froze this session of p at r, and later an event of the router s takes this item, which came to it from q.
pub record FrozenBefore (setup : Setup) (first : World) (events : List Event) (r k p target : ℕ)
    (found : SessionValue) (s q : ℕ) (event : RouterEvent) (item : Mesh) (after : World) : Type 0 where
  pub begun : List Event
  pub away : List Event
  pub rest : List Event
  pub among : events ≡ begun ++ ByRouter r (Freeze k) ∷ (away ++ ByRouter s event ∷ rest)
  pub w₁ : World
  pub w₂ : World
  pub w₃ : World
  pub before : Run setup first begun w₁
  pub was : (w₁.router r).places p ≡ Live found (Some (Leaving (record { graft = k; target = target })))
  pub freezes : Step setup (ByRouter r (Freeze k)) w₁ w₂
  pub meanwhile : Run setup w₂ away w₃
  pub items : List Mesh
  pub comes : w₃.mesh q s ≡ item ∷ items
  pub step : Step setup (ByRouter s event) w₃ after

-- A graft that is turned back leaves the session at the router that froze it, as it was there; one that lands leaves it at its target, as it was, and
-- the target owes word of the landing to the router that froze it. A graft that the source refuses changes no session and moves none.
pub record Unchanged (setup : Setup) (first : World) (events : List Event) : Type 0 where
  pub returned : (r k p target s q : ℕ) (found session : SessionValue) (refusal : Refusal) (after : World)
      → FrozenBefore setup first events r k p target found s q (Return q) (Back k p session refusal) after
      → (s ≡ r) × ((after.router s).places p ≡ Live found None)
  pub landed : (r k p target s q : ℕ) (found session : SessionValue) (after : World)
      → FrozenBefore setup first events r k p target found s q (Land q) (Moved k p session) after
      → (s ≡ target) × ((after.router s).places p ≡ Live found (Some (Owing (record { graft = k; source = r; next = 0 }))))
  pub refused : (begun rest : List Event) (r k p : ℕ) (w₁ w₂ : World)
      → events ≡ begun ++ ByRouter r (Refuse k) ∷ rest
      → Run setup first begun w₁ → Step setup (ByRouter r (Refuse k)) w₁ w₂
      → (sessions_of setup w₂ p ≡ sessions_of setup w₁ p) × ((q : ℕ) → sessions_at ((w₂.router q).places p) ≡ sessions_at ((w₁.router q).places p))

-- ---- made before broken

-- Among the events from one world to another there is one by which the router t told x this about the prefix, from the best route that it had then,
-- which was its choice.
pub record IsToldIn (setup : Setup) (t x : ℕ) (prefix : PrefixValue) (first : World) (events : List Event) (route : Option Route) : Type 0 where
  pub begun : List Event
  pub rest : List Event
  pub among : events ≡ begun ++ ByRouter t (Tell x prefix) ∷ rest
  pub telling : World
  pub before : Run setup first begun telling
  pub decided : map.get (telling.router t).best prefix ≡ chosen setup t (telling.router t) prefix
  pub told : route ≡ tell_in (map.get (telling.router t).best prefix)

-- Among the events that lead to the world `now`, there is one by which the router t asked x in graft k, in the world `asking`. The best routes of t
-- were then the choices between all that it had; and what x has heard from t in the world `now` is, for each prefix, what t tells of the best route
-- that it had then, or what it has told x since.
pub record HasHeard (setup : Setup) (first : World) (events : List Event) (t x k : ℕ) (now : World) : Type 0 where
  pub begun : List Event
  pub since : List Event
  pub among : events ≡ begun ++ ByRouter t (Ask k x) ∷ since
  pub asking : World
  pub asked : World
  pub before : Run setup first begun asking
  pub asks : Step setup (ByRouter t (Ask k x)) asking asked
  pub meanwhile : Run setup asked since now
  pub decided : (prefix : PrefixValue) → map.get (asking.router t).best prefix ≡ chosen setup t (asking.router t) prefix
  pub heard : (prefix : PrefixValue)
      → (map.get ((now.router x).tellings t) prefix ≡ tell_in (map.get (asking.router t).best prefix))
      ⊎ IsToldIn setup t x prefix asked since (map.get ((now.router x).tellings t) prefix)

-- Among the events that lead to the world `clearing` there is one by which the router t gave word that the session of graft k has landed there, in the
-- world `giving`. Its best routes were then the choices between all that it had, with the routes of that session; and what the router s has heard from t in the
-- world `clearing` is, for each prefix, what t tells of the best route that it had then. All other routers have heard such routes of t too.
pub record IsMadeBefore (setup : Setup) (first : World) (events : List Event) (s t k : ℕ) (clearing : World) : Type 0 where
  pub begun : List Event
  pub since : List Event
  pub among : events ≡ begun ++ ByRouter t (Confirm k) ∷ since
  pub giving : World
  pub given : World
  pub before : Run setup first begun giving
  pub gives : Step setup (ByRouter t (Confirm k)) giving given
  pub meanwhile : Run setup given since clearing
  pub decided : (x : PrefixValue) → map.get (giving.router t).best x ≡ chosen setup t (giving.router t) x
  pub heard : (x : PrefixValue) → map.get ((clearing.router s).tellings t) x ≡ tell_in (map.get (giving.router t).best x)
  pub others : (x : ℕ) → x < routers_in setup → x ≢ s → x ≢ t → HasHeard setup first events t x k clearing

-- Whenever a router s clears its shadow of graft k, after word from the router t, it has the routes that t told before it gave word, and every other
-- router has those that t told before it asked that router, or later ones. So a route that t tells is known everywhere before the route of s is
-- removed.
abbrev pub MadeBeforeBroken : Setup → World → List Event → Type 0
MadeBeforeBroken setup first events = (begun rest : List Event) (s t k p : ℕ) (items : List Mesh) (before after : World)
    → events ≡ begun ++ ByRouter s (Clear t) ∷ rest
    → Run setup first begun before → Step setup (ByRouter s (Clear t)) before after → before.mesh t s ≡ Done k p ∷ items
    → IsMadeBefore setup first begun s t k before

-- ---- solves

-- what the sessions that a router holds bring in for a prefix, in ascending order of peering
abbrev pub session_routes : Setup → World → ℕ → PrefixValue → List SessionRoute
session_routes setup w r prefix =
    flat_map (λ p. map (λ session. session_route setup r session prefix) (sessions_at ((w.router r).places p))) (peering_numbers setup)

-- what the other routers tell it, in ascending order of number: each its best route if that is own or external
abbrev pub router_routes : Setup → World → ℕ → PrefixValue → List RouterRoute
router_routes setup w r prefix = map
    (λ q. record {
      router = record { 0 = q };
      identifier = identifier_of setup q;
      cost = cost_between setup r q;
      told = tell_in (map.get (w.router q).best prefix);
    })
    (filter (λ q. not (q == r)) (router_numbers setup))

-- All that the remote said was got, message by message, up to the end of the session or up to a rest that begins with no whole message.
pub record GotAll (session : SessionValue) (said : List ℕ) : Type 0 where
  pub rest : List ℕ
  pub is : said ≡ got_bytes session.story ++ rest
  pub whole : AllByRecursion IsGotLine session.story
  pub end : (state session ≡ Closed) ⊎ BeginsNothing rest

-- The session of a peering is live where it belongs by the log, and the link points there. What was told on it is what is to be told, the remote
-- received all of it, and all that the remote said was got. No other router has anything of it.
pub record SolvesOn (setup : Setup) (w : World) (p : ℕ) : Type 0 where
  pub session : SessionValue
  pub placed : (w.router (placement setup w.operator p)).places p ≡ Live session None
  pub linked : (w.far p).pointer ≡ placement setup w.operator p
  pub adj_rib_out : (prefix : PrefixValue) → map.get session.adj_rib_out prefix
      ≡ while_established (state session) (to_tell setup (placement setup w.operator p) (w.router (placement setup w.operator p)) session prefix)
  pub received : received_bytes (w.far p).end ≡ put_bytes (peering_of session.config) session.story
  pub got : GotAll session (w.far p).end.stream
  pub elsewhere : (r : ℕ) → r < routers_in setup → r ≢ placement setup w.operator p → ((w.router r).places p ≡ Vacant) × ((w.router r).entries p ≡ map.empty)

-- The tables of all routers solve the decision equations (RFC 4271, section 9.1) for the placement by the log: each best route is the choice between
-- the router's own network, what the sessions that it holds heard, and what the other routers tell; what a router heard from another is what that one
-- tells now; and each peering is solved.
pub record Solves (setup : Setup) (w : World) : Type 0 where
  pub best : (r : ℕ) (prefix : PrefixValue) → r < routers_in setup → map.get (w.router r).best prefix
      ≡ choice (candidates setup.home_as prefix (has_network setup r prefix) (session_routes setup w r prefix) (router_routes setup w r prefix))
  pub tellings : (r q : ℕ) (prefix : PrefixValue) → r < routers_in setup → q < routers_in setup → r ≢ q
      → map.get ((w.router q).tellings r) prefix ≡ tell_in (map.get (w.router r).best prefix)
  pub peerings : (p : ℕ) → p < peerings_in setup → SolvesOn setup w p
