-- Rounds of a far side: `RealFar` without one field, and cases in which only that field is false.
use Rattle.std.specs.Prelude.{ℕ, ◌≡◌, ◌≢◌, ◌≤◌, ◌+◌, List, [], ◌∷◌, ◌++◌, length, filter, max, false}
use Rattle.link_bag.specs.declared.plan.Fault.{Fault}
use Rattle.link_bag.specs.declared.plan.Fate.{Fate}
use Rattle.link_bag.specs.declared.plan.Fate.TheVariants as fate
use Rattle.tcp_seq.specs.declared.segment.Way.TheVariants as way
use Rattle.tcp_seq.specs.Endpoint.{PlacedSegment, fresh_endpoint, slice_at}
use Rattle.graft_model.specs.Setups.{Setup}
use Rattle.graft_model.specs.Parts.{FarPart}
use Rattle.graft_model.specs.declared.event.FarEvent.{FarEvent}
use Rattle.graft_model.specs.declared.event.FarEvent.TheVariants.{Send, Take, Pass, Lose, Point, Beat}
use Rattle.graft_actors.specs.Emissions.{IsRested}
use Rattle.far_side.specs.Links.{home_events, remote_events, left_in_link, put_now}
use Rattle.far_side.specs.Turns.{FarRetransmits, SendsNew, SendsAnswer, SendsNone, FarGoes}
use Rattle.far_side.specs.declared.link.InLink.{InLink}
use Rattle.real_rounds.specs.Ends as ends
use Rattle.real_rounds.specs.Fars as fars
use Rattle.real_rounds.specs.Fars.{is_take, Lying, Links, nothing_lies, ArePut, PointAt, RealFar}
use Rattle.graft_worked.specs.Places.{idle_far}

-- ---- all fields but one

pub data FarField : Type 0 where
  Is : FarField
  Takes : FarField
  Delivers : FarField
  Resends : FarField
  Says : FarField
  Sends : FarField
  Replies : FarField
  Due : FarField
  Rested : FarField
  Few : FarField
  GoesOn : FarField
  AreTaken : FarField
  AreSent : FarField
  Home : FarField
  Remote : FarField
  -- no field is left out
  NoField : FarField

pub record RealFarBut (but : FarField) (setup : Setup) (faults : List Fault) (p round : ℕ) (start : FarPart) (before : Links) (events : List FarEvent)
    (end : FarPart) (after : Links) : Type 0 where
  pub taken : List FarEvent
  pub again : List FarEvent
  pub keepalives : List FarEvent
  pub fresh : List FarEvent
  pub answers : List FarEvent
  pub took : List InLink
  pub sent : List InLink
  pub is : but ≢ Is → events ≡ taken ++ (home_events end.pointer before.home.plans
      ++ (remote_events (before.remote.plans ++ took) ++ (again ++ (keepalives ++ (fresh ++ answers)))))
  pub turning : FarPart
  pub delivered : FarPart
  pub resent : FarPart
  pub said : FarPart
  pub level : FarPart
  pub takes : but ≢ Takes → FarGoes setup p fars.IsFarTake start taken turning
  pub delivers : but ≢ Delivers → FarGoes setup p SendsNone turning (home_events end.pointer before.home.plans
      ++ remote_events (before.remote.plans ++ took)) delivered
  pub resends : but ≢ Resends → FarGoes setup p FarRetransmits delivered again resent
  pub says : but ≢ Says → FarGoes setup p SendsNone resent keepalives said
  pub sends : but ≢ Sends → FarGoes setup p SendsNew said fresh level
  pub replies : but ≢ Replies → FarGoes setup p SendsAnswer level answers end
  pub due : but ≢ Due → fars.BeatsIfDue setup p round turning keepalives
  pub rested : but ≢ Rested → IsRested end.end
  pub few : but ≢ Few → length again ≤ 1
  pub goes_on : but ≢ GoesOn → ends.AcksOrResends start.end end.end (length again)
  pub are_taken : but ≢ AreTaken → ArePut faults p way.Remote before.remote.put (length (filter is_take taken)) took
  pub are_sent : but ≢ AreSent → ArePut faults p way.Home before.home.put (length again + (length fresh + length answers)) sent × PointAt end.pointer sent
  pub home : but ≢ Home → after.home ≡ record {
    plans = left_in_link before.home.plans ++ sent;
    put = before.home.put + (length again + (length fresh + length answers));
  }
  pub remote : but ≢ Remote
      → after.remote ≡ record { plans = left_in_link (before.remote.plans ++ took); put = before.remote.put + length (filter is_take taken) }

-- this field is false of a round, with no planned faults, and all others hold
abbrev pub FalseAloneInFar : FarField → Setup → ℕ → FarPart → Links → List FarEvent → FarPart → Links → Type 0
FalseAloneInFar but setup round start before events end after = RealFarBut but setup [] 0 round start before events end after
    × ¬ RealFar setup [] 0 round start before events end after

-- ---- far sides, and their links

-- the remote has said two octets, and sent this many of them
abbrev pub saying : ℕ → FarPart
saying emitted = record idle_far { end = record fresh_endpoint { stream = 1 ∷ 2 ∷ []; emitted = emitted } }

-- and it has sent `len` more octets from an offset on, which are in the link to home
abbrev pub with_slice_sent : FarPart → (from len : ℕ) → FarPart
with_slice_sent part from len = record part {
  end = record part.end { emitted = max part.end.emitted (from + len) };
  homeward = part.homeward ++ slice_at part.end from len ∷ [];
}

-- this many segments were put into a link, and these are in it, each with this fate, put while the link pointed at this router
abbrev pub lying : ℕ → Fate → ℕ → List InLink → Lying
lying put fate router others = record { plans = put_now fate router ∷ others; put = put }

abbrev pub home_links : Lying → Links
home_links home = record { home = home; remote = nothing_lies }

-- the segment that was sent last, or two of them, are in the link to home
abbrev pub one_put : Links
one_put = home_links (lying 1 fate.Pass 0 [])

abbrev pub two_put : Links
two_put = home_links (lying 2 fate.Pass 0 (put_now fate.Pass 0 ∷ []))

-- it is there to be lost, or records another router, or was never put; or the link to the remote holds a segment that was never put
abbrev pub one_to_lose : Links
one_to_lose = home_links (lying 1 fate.Lose 0 [])

abbrev pub one_elsewhere : Links
one_elsewhere = home_links (lying 1 fate.Pass 1 [])

abbrev pub one_never_put : Links
one_never_put = home_links (lying 0 fate.Pass 0 [])

abbrev pub one_to_remote : Links
one_to_remote = record { home = nothing_lies; remote = lying 0 fate.Pass 0 [] }

-- what was put into the link to home was delivered
abbrev pub one_gone : Links
one_gone = home_links (record { plans = []; put = 1 })

-- a segment of a router is in the link to the remote; and one was put there and lost
abbrev pub a_segment : PlacedSegment
a_segment = record { offset = 0; bytes = []; ack = 0 }

abbrev pub with_taken : FarPart
with_taken = record idle_far { remoteward = a_segment ∷ [] }

abbrev pub one_taken : Links
one_taken = record { home = nothing_lies; remote = record { plans = []; put = 1 } }

-- ---- events

abbrev pub both_octets : FarEvent
both_octets = Send 0 2

abbrev pub one_octet : FarEvent
one_octet = Send 0 1

abbrev pub other_octet : FarEvent
other_octet = Send 1 1

abbrev pub an_answer : FarEvent
an_answer = Send 0 0

abbrev pub a_delivery : FarEvent
a_delivery = Pass 0 false 0

abbrev pub a_take : FarEvent
a_take = Take 0

abbrev pub a_loss : FarEvent
a_loss = Lose way.Remote 0

abbrev pub a_point : FarEvent
a_point = Point 0

abbrev pub a_beat : FarEvent
a_beat = Beat 30
