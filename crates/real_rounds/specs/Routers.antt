-- A router's round, and the operator's.
use Rattle.std.specs.Prelude.{ℕ, ◌≡◌, ◌<◌, ◌≤◌, List, [], ◌∷◌, ◌++◌, length, map, Option, true}
use Rattle.std.specs.List.{AllByRecursion}
use Rattle.ring_net.specs.Deeds.{Climbs}
use Rattle.bgp_story.specs.Legal.{is_up}
use Rattle.session_value.specs.Sessions.{SessionValue, state, hold_time}
use Rattle.graft_model.specs.Setups.{Setup}
use Rattle.graft_model.specs.Parts.{Errand, RouterPart, OperatorPart}
use Rattle.graft_model.specs.OperatorRows.{OperatorTaken, OperatorSent}
use Rattle.graft_model.specs.RouterRows.{IsLive}
use Rattle.graft_model.specs.declared.event.RouterEvent.{RouterEvent}
use Rattle.graft_model.specs.declared.event.OperatorEvent.{OperatorEvent}
use Rattle.graft_model.specs.Steps.{operator_row}
use Rattle.operator_state.specs.Holds.{NothingToOrder}
use Rattle.router_core.specs.Rested.{RestedRouter}
use Rattle.router_core.specs.Rounds.{RouterRetransmits, IsNewWork, RouterGoes}
use Rattle.router_core.specs.Turned.{IsRouterTake, stage_of, rounds_on, emits_on}
use Rattle.real_rounds.specs.Ends.{AcksOrResends}

-- a session of the peering is live at the router
abbrev pub HasLive : ℕ → RouterPart → Type 0
HasLive p part = (s : SessionValue) × (o : Option Errand) × IsLive part p s o

-- The session of a peering stays at a router through these parts: it is live in each, with the one value in the first, and with the other in the
-- last.
pub record StaysLive (p : ℕ) (start : RouterPart) (parts : List RouterPart) (end : RouterPart) (first last : SessionValue) : Type 0 where
  pub first_order : Option Errand
  pub last_order : Option Errand
  pub starts : IsLive start p first first_order
  pub ends : IsLive end p last last_order
  pub throughout : AllByRecursion (HasLive p) (start ∷ parts)

-- its hold time runs
pub record HoldRuns (s : SessionValue) : Type 0 where
  pub up : is_up (state s) ≡ true
  pub runs : 0 < hold_time s

-- The events of a router's round, in this order: those of its takes; the first outstanding slices, sent again; and its work, stage by stage: rounds
-- pass on sessions, grafts begin, prefixes are decided, routers are told, then asked or given word, UPDATEs are put, and segments are emitted. Each
-- is by its row; after the old slices only new ones and owed acknowledgements are emitted; and each UPDATE is the next one of its session. At the end
-- the router is at rest. Rounds are counted from 1.
pub record RealRouter (setup : Setup) (r round : ℕ) (start : RouterPart) (events : List RouterEvent) (end : RouterPart) : Type 0 where
  pub taken : List RouterEvent
  pub again : List RouterEvent
  pub work : List RouterEvent
  pub is : events ≡ taken ++ (again ++ work)
  -- the parts after its takes and after what is sent again, and the parts after each event
  pub turning : RouterPart
  pub sent : RouterPart
  pub first : List RouterPart
  pub second : List RouterPart
  pub third : List RouterPart
  pub takes : RouterGoes setup r IsRouterTake start taken first turning
  pub sends : RouterGoes setup r RouterRetransmits turning again second sent
  pub works : RouterGoes setup r (IsNewWork setup r) sent work third end
  pub in_order : Climbs 1 (map stage_of work)
  pub rested : RestedRouter setup r end
  -- of each session at most one old slice is sent again
  pub few : (p : ℕ) → emits_on p again ≤ 1
  pub goes_on : (p : ℕ) (s u : SessionValue) → StaysLive p start (first ++ (second ++ third)) end s u → AcksOrResends s.end u.end (emits_on p again)
  -- a round that passes on a session has the number of this one; and it passes once if a hold time runs throughout and the stream had room for the
  -- answer
  pub numbered : (p : ℕ) → AllByRecursion (λ n. n ≡ round) (rounds_on p work)
  pub ticks : (p : ℕ) (s u : SessionValue) → StaysLive p start (first ++ (second ++ third)) end s u → HoldRuns s → HoldRuns u
      → length s.end.stream ≤ 1044461 → rounds_on p work ≡ round ∷ []

-- ---- the operator

-- events that lead from one part to another, each by its row
abbrev pub OperatorRound : Setup → OperatorPart → List OperatorEvent → OperatorPart → Type 0
OperatorRound setup start [] end = end ≡ start
OperatorRound setup start (event ∷ events) end =
    (taken : Option OperatorTaken) × (sent : List OperatorSent) × (mid : OperatorPart)
    × operator_row setup event start taken sent mid × OperatorRound setup mid events end

-- The operator's events in a round, including a Go at the start. At the end no further step of the current group may be issued.
pub record RealOperator (setup : Setup) (start : OperatorPart) (events : List OperatorEvent) (end : OperatorPart) : Type 0 where
  pub goes : OperatorRound setup start events end
  pub issued : NothingToOrder setup end
