-- Rounds of a router and of the operator: `RealRouter` without one field, and cases in which only that field is false.
use Rattle.std.specs.Prelude.{ℕ, ◌≡◌, ◌≢◌, ◌≤◌, List, [], ◌∷◌, ◌++◌, length, map, false}
use Rattle.std.specs.List.{AllByRecursion}
use Rattle.ring_net.specs.Deeds.{Climbs}
use Rattle.session_value.specs.Sessions.{SessionValue}
use Rattle.graft_model.specs.Setups.{Setup}
use Rattle.graft_model.specs.Parts.{RouterPart, OperatorPart}
use Rattle.graft_model.specs.declared.event.RouterEvent.{RouterEvent}
use Rattle.graft_model.specs.declared.event.RouterEvent.TheVariants.{Emit, Stray}
use Rattle.graft_model.specs.declared.event.OperatorEvent.{OperatorEvent}
use Rattle.operator_state.specs.Holds.{NothingToOrder}
use Rattle.router_core.specs.Rested.{RestedRouter}
use Rattle.router_core.specs.Rounds as rounds
use Rattle.router_core.specs.Turned as turned
use Rattle.router_core.specs.Turned.{stage_of, rounds_on, emits_on}
use Rattle.real_rounds.specs.Ends as ends
use Rattle.real_rounds.specs.Routers.{StaysLive, HoldRuns, RealRouter, OperatorRound, RealOperator}
use Rattle.graft_worked.specs.Places.{idle_router}
use Rattle.graft_worked.specs.First.{session_first}
use Rattle.graft_worked.specs.Graft.{ten_alone}
use Rattle.graft_worked.specs.Others.{session_timed}
use Rattle.graft_worked.specs.Start.{a_with}

-- ---- a router: all fields but one

pub data RouterField : Type 0 where
  Is : RouterField
  Takes : RouterField
  Sends : RouterField
  Works : RouterField
  InOrder : RouterField
  Rested : RouterField
  Few : RouterField
  GoesOn : RouterField
  Numbered : RouterField
  Ticks : RouterField
  -- no field is left out
  NoField : RouterField

pub record RealRouterBut (but : RouterField) (setup : Setup) (r round : ℕ) (start : RouterPart) (events : List RouterEvent) (end : RouterPart) : Type 0 where
  pub taken : List RouterEvent
  pub again : List RouterEvent
  pub work : List RouterEvent
  pub is : but ≢ Is → events ≡ taken ++ (again ++ work)
  pub turning : RouterPart
  pub sent : RouterPart
  pub first : List RouterPart
  pub second : List RouterPart
  pub third : List RouterPart
  pub takes : but ≢ Takes → rounds.RouterGoes setup r turned.IsRouterTake start taken first turning
  pub sends : but ≢ Sends → rounds.RouterGoes setup r rounds.RouterRetransmits turning again second sent
  pub works : but ≢ Works → rounds.RouterGoes setup r (rounds.IsNewWork setup r) sent work third end
  pub in_order : but ≢ InOrder → Climbs 1 (map stage_of work)
  pub rested : but ≢ Rested → RestedRouter setup r end
  pub few : but ≢ Few → (p : ℕ) → emits_on p again ≤ 1
  pub goes_on : but ≢ GoesOn → (p : ℕ) (s u : SessionValue) → StaysLive p start (first ++ (second ++ third)) end s u
      → ends.AcksOrResends s.end u.end (emits_on p again)
  pub numbered : but ≢ Numbered → (p : ℕ) → AllByRecursion (λ n. n ≡ round) (rounds_on p work)
  pub ticks : but ≢ Ticks → (p : ℕ) (s u : SessionValue) → StaysLive p start (first ++ (second ++ third)) end s u → HoldRuns s → HoldRuns u
      → length s.end.stream ≤ 1044461
      → rounds_on p work ≡ round ∷ []

-- this field is false of a round, and all others hold
abbrev pub FalseAloneInRouter : RouterField → Setup → ℕ → RouterPart → List RouterEvent → RouterPart → Type 0
FalseAloneInRouter but setup round start events end = RealRouterBut but setup 0 round start events end × ¬ RealRouter setup 0 round start events end

-- ---- routers

-- nothing happened to the router, and a prefix is dirty
abbrev pub undecided : RouterPart
undecided = record idle_router { dirty = ten_alone }

-- the OPEN of 29 octets is put, and none of it emitted; all of it is emitted, and none acknowledged
abbrev pub open_unsent : RouterPart
open_unsent = a_with session_first

abbrev pub waiting_session : SessionValue
waiting_session = record session_first { end = record session_first.end { emitted = 29 } }

abbrev pub waiting : RouterPart
waiting = a_with waiting_session

-- the session is established and has nothing outstanding, and its hold time of 90 seconds runs
abbrev pub timed_session : SessionValue
timed_session = record session_timed { end = record session_timed.end { owed = false } }

abbrev pub timed : RouterPart
timed = a_with timed_session

-- ---- events

-- all of the OPEN; its first 10 octets; and the remaining ones
abbrev pub all_octets : RouterEvent
all_octets = Emit 0 0 29

abbrev pub ten_octets : RouterEvent
ten_octets = Emit 0 0 10

abbrev pub other_octets : RouterEvent
other_octets = Emit 0 10 19

-- a segment of another peering, whose session isn't here
abbrev pub stray : RouterEvent
stray = Stray 1

-- ---- the operator: all fields but one

pub data OperatorField : Type 0 where
  Goes : OperatorField
  Issued : OperatorField
  NoOperatorField : OperatorField

pub record RealOperatorBut (but : OperatorField) (setup : Setup) (start : OperatorPart) (events : List OperatorEvent) (end : OperatorPart) : Type 0 where
  pub goes : but ≢ Goes → OperatorRound setup start events end
  pub issued : but ≢ Issued → NothingToOrder setup end

abbrev pub OperatorFalseAlone : OperatorField → Setup → OperatorPart → List OperatorEvent → OperatorPart → Type 0
OperatorFalseAlone but setup start events end = RealOperatorBut but setup start events end × ¬ RealOperator setup start events end
