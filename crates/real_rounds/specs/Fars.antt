-- A far side's round: what its links deliver by the plan of faults, and what the remote sends.
use Rattle.std.specs.Prelude.{ℕ, ◌≡◌, ◌<◌, ◌≤◌, ◌+◌, ◌%◌, ◌^◌, ◌⊎◌, Bool, true, false, List, [], ◌∷◌, ◌++◌, length, map, filter, Some, option_map, slice_get}
use Rattle.std.specs.List.{AllByRecursion, range_with_len}
use Rattle.link_bag.specs.declared.plan.Fault.{Fault}
use Rattle.link_bag.specs.declared.plan.Fate.{Fate}
use Rattle.link_bag.specs.Planned.{fate_of}
use Rattle.tcp_seq.specs.declared.segment.Way.{Way}
use Rattle.tcp_seq.specs.declared.segment.Way.TheVariants.{Home, Remote}
use Rattle.graft_model.specs.Setups.{Setup, keepalive_interval_of}
use Rattle.graft_model.specs.Parts.{FarPart}
use Rattle.graft_model.specs.declared.event.FarEvent.{FarEvent}
use Rattle.graft_model.specs.declared.event.FarEvent.TheVariants.{Say, Take, Point, Beat}
use Rattle.graft_actors.specs.Emissions.{IsRested}
use Rattle.far_side.specs.Links.{home_events, remote_events, left_in_link}
use Rattle.far_side.specs.Turns.{FarRetransmits, SendsNew, SendsAnswer, SendsNone, FarGoes}
use Rattle.far_side.specs.declared.link.InLink.{InLink}
use Rattle.real_rounds.specs.Ends.{AcksOrResends}

-- ---- kinds of events

abbrev pub is_take : FarEvent → Bool
is_take (Take router) = true
is_take event = false

-- the event takes an item
abbrev pub IsFarTake : FarPart → FarEvent → Type 0
IsFarTake part (Say step) = Unit {0}
IsFarTake part (Take router) = Unit {0}
IsFarTake part (Point router) = Unit {0}
IsFarTake part event = ⊥

-- ---- the content of a link

-- What the plan still holds for each segment in a link, and how many were put there so far.
pub record Lying : Type 0 where
  pub plans : List InLink
  pub put : ℕ

abbrev pub nothing_lies : Lying
nothing_lies = record { plans = []; put = 0 }

pub record Links : Type 0 where
  pub home : Lying
  pub remote : Lying

abbrev pub empty_links : Links
empty_links = record { home = nothing_lies; remote = nothing_lies }

-- the fates, by the plan of faults, of the next n segments of a link after `from` others, each put now
abbrev pub fates_put : List Fault → ℕ → Way → (from n : ℕ) → List (Fate × ℕ)
fates_put faults p way from n = map (λ k. (fate_of faults (record { 0 = p }) way k, 0)) (range_with_len (from + 1) n)

-- n more segments are in a link, each with the fate of its number
pub record ArePut (faults : List Fault) (p : ℕ) (way : Way) (from n : ℕ) (new : List InLink) : Type 0 where
  pub fates : map (λ x. (x.fate, x.turns)) new ≡ fates_put faults p way from n

-- each of them was put while the link pointed at this router
abbrev pub PointAt : ℕ → List InLink → Type 0
PointAt router plans = AllByRecursion (λ x. x.pointed.0 ≡ router) plans

-- ---- the timer

-- A KEEPALIVE of the remote is due in this round, and there is room for it.
pub record IsKeepaliveDue (setup : Setup) (p round : ℕ) (part : FarPart) : Type 0 where
  pub keepalive_interval : ℕ
  pub is : option_map keepalive_interval_of (slice_get setup.peerings p) ≡ Some keepalive_interval
  pub some : 0 < keepalive_interval
  pub multiple : round % keepalive_interval ≡ 0
  pub later : part.last_keepalive < round
  pub few : part.keepalives < 27594
  pub fits : length part.end.stream + 19 ≤ 2 ^ 20

-- the remote says one exactly if it is due
abbrev pub BeatsIfDue : Setup → ℕ → ℕ → FarPart → List FarEvent → Type 0
BeatsIfDue setup p round part events =
    (IsKeepaliveDue setup p round part × (events ≡ Beat round ∷ [])) ⊎ ((¬ IsKeepaliveDue setup p round part) × (events ≡ []))

-- ---- a round

-- The events of a far side's round, in this order: those of its takes; the links deliver, keep and lose by the plan; an old slice is sent again; the
-- timer has the remote say a KEEPALIVE; all that is new is sent; and an owed acknowledgement is sent. Each is by its row. At the end all that may be
-- sent is sent. Rounds are counted from 1.
pub record RealFar (setup : Setup) (faults : List Fault) (p round : ℕ) (start : FarPart)
    (before : Links) (events : List FarEvent) (end : FarPart) (after : Links) : Type 0 where
  pub taken : List FarEvent
  pub again : List FarEvent
  pub keepalives : List FarEvent
  pub fresh : List FarEvent
  pub answers : List FarEvent
  -- segments that were taken in are put into the link to the remote before the turn, and those that the remote sends into the link to home during it
  pub took : List InLink
  pub sent : List InLink
  pub is : events ≡ taken
      ++ (home_events end.pointer before.home.plans ++ (remote_events (before.remote.plans ++ took) ++ (again ++ (keepalives ++ (fresh ++ answers)))))
  -- the parts after its takes, and after each piece of its turn
  pub turning : FarPart
  pub delivered : FarPart
  pub resent : FarPart
  pub said : FarPart
  pub level : FarPart
  pub takes : FarGoes setup p IsFarTake start taken turning
  pub delivers : FarGoes setup p SendsNone turning (home_events end.pointer before.home.plans ++ remote_events (before.remote.plans ++ took)) delivered
  pub resends : FarGoes setup p FarRetransmits delivered again resent
  pub says : FarGoes setup p SendsNone resent keepalives said
  pub sends : FarGoes setup p SendsNew said fresh level
  pub replies : FarGoes setup p SendsAnswer level answers end
  pub due : BeatsIfDue setup p round turning keepalives
  pub rested : IsRested end.end
  pub few : length again ≤ 1
  pub goes_on : AcksOrResends start.end end.end (length again)
  -- each segment has the fate of its number, and one that goes home records the router at which the link points at the end of the round
  pub are_taken : ArePut faults p Remote before.remote.put (length (filter is_take taken)) took
  pub are_sent : ArePut faults p Home before.home.put (length again + (length fresh + length answers)) sent × PointAt end.pointer sent
  -- what is left of each link
  pub home : after.home ≡ record { plans = left_in_link before.home.plans ++ sent; put = before.home.put + (length again + (length fresh + length answers)) }
  pub remote : after.remote ≡ record { plans = left_in_link (before.remote.plans ++ took); put = before.remote.put + length (filter is_take taken) }
