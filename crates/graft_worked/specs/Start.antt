-- The worked laboratory from its first world to the quiet world before the graft: the session comes up, the remote announces, and all settles.
use Rattle.std.specs.Prelude.{ℕ, List, [], ◌∷◌, ◌++◌, None, true, false}
use Rattle.std.specs.FinMap as map
use Rattle.tcp_seq.specs.Endpoint.{Endpoint, PlacedSegment}
use Rattle.bgp_story.specs.WorkedSessions.{ten, confirmed_lines, joined_lines}
use Rattle.session_value.specs.Sessions.{SessionValue}
use Rattle.graft_model.specs.Points.{at}
use Rattle.graft_model.specs.Parts.{Live, RouterPart, FarPart, World}
use Rattle.graft_model.specs.declared.event.RouterEvent.TheVariants.{Arrive, Got, Emit, Decide, Put, Tell, Hear}
use Rattle.graft_model.specs.declared.event.FarEvent.TheVariants.{Say, Send, Pass, Take, Reach}
use Rattle.graft_model.specs.declared.event.OperatorEvent.TheVariants.{Order}
use Rattle.graft_model.specs.Steps.{Event, ByRouter, ByFar, ByOperator}
use Rattle.graft_worked.specs.Places.{idle_router, holding, idle_far, nothing_on_the_way, world_of}
use Rattle.graft_worked.specs.First.{home_open_bytes, session_first}
use Rattle.graft_worked.specs.Graft.{put_all, said_all, from_zero, at_ten, ten_alone, entry, route, session}
use Rattle.graft_worked.specs.Graft.{home_end, remote_end, a_before, b_before, far_before, operator_before}

-- ---- segments: all that the remote said, all that home put, and the remote's acknowledgement

abbrev pub said_segment : PlacedSegment
said_segment = record { offset = 0; bytes = said_all; ack = 0 }

abbrev pub put_segment : PlacedSegment
put_segment = record { offset = 0; bytes = put_all; ack = 91 }

abbrev pub ack_segment : PlacedSegment
ack_segment = record { offset = 91; bytes = []; ack = 48 }

-- ---- the far side

abbrev pub far_said : FarPart
far_said = record idle_far { end = record { stream = said_all; emitted = 0; acked = 0; arrived = map.empty; read = 0; owed = false } }

abbrev pub far_emitted : FarPart
far_emitted = record idle_far { end = record { stream = said_all; emitted = 91; acked = 0; arrived = map.empty; read = 0; owed = false } }

abbrev pub far_sent : FarPart
far_sent = record far_emitted { homeward = said_segment ∷ [] }

abbrev pub far_taken : FarPart
far_taken = record far_emitted { remoteward = put_segment ∷ [] }

abbrev pub far_reached : FarPart
far_reached = record idle_far { end = record remote_end { owed = true } }

abbrev pub far_answered : FarPart
far_answered = record far_before { homeward = ack_segment ∷ [] }

-- ---- the session at router a

abbrev pub end_with : List ℕ → ℕ → Endpoint
end_with stream read = record { stream = stream; emitted = 0; acked = 0; arrived = from_zero said_all; read = read; owed = true }

abbrev pub session_arrived : SessionValue
session_arrived = record session_first { end = end_with home_open_bytes 0 }

abbrev pub session_confirmed : SessionValue
session_confirmed = record session_first { story = confirmed_lines 0; end = end_with put_all 29 }

abbrev pub session_joined : SessionValue
session_joined = record session_first { story = joined_lines 0; end = end_with put_all 48 }

abbrev pub session_heard : SessionValue
session_heard = record session { end = end_with put_all 91 }

abbrev pub session_emitted : SessionValue
session_emitted = record session { end = record home_end { acked = 0 } }

-- ---- the routers

abbrev pub a_with : SessionValue → RouterPart
a_with held = holding idle_router (Live held None)

-- the UPDATE was got
abbrev pub a_got : SessionValue → RouterPart
a_got held = record (a_with held) { entries = at (λ p. map.empty) 0 (at_ten entry); dirty = ten_alone }

abbrev pub a_chosen : RouterPart
a_chosen = record a_before { due_in = at (λ q. map.empty) 1 ten_alone; due_out = at (λ p. map.empty) 0 ten_alone }

abbrev pub a_put : RouterPart
a_put = record a_before { due_in = at (λ q. map.empty) 1 ten_alone }

abbrev pub b_dirty : RouterPart
b_dirty = record idle_router { tellings = at (λ q. map.empty) 0 (at_ten route); dirty = ten_alone }

abbrev pub b_chosen : RouterPart
b_chosen = record b_before { due_in = at (λ q. map.empty) 0 ten_alone }

-- ---- the world in which the session is established, and none of the UPDATE was got

abbrev pub joined_world : World
joined_world = world_of (a_with session_joined) idle_router far_emitted operator_before nothing_on_the_way

-- ---- the events

-- the session is established
abbrev pub joining_events : List Event
joining_events =
    ByOperator (Order 0 0)
    ∷ ByFar 0 (Say 0)
    ∷ ByFar 0 (Send 0 91)
    ∷ ByFar 0 (Pass 0 false 0)
    ∷ ByRouter 0 (Arrive 0)
    ∷ ByRouter 0 (Got 0)
    ∷ ByRouter 0 (Got 0)
    ∷ []

-- what the remote announces is got, decided and told, and all is acknowledged
abbrev pub settling_events : List Event
settling_events =
    ByRouter 0 (Got 0)
    ∷ ByRouter 0 (Emit 0 0 48)
    ∷ ByFar 0 (Take 0)
    ∷ ByFar 0 (Reach 0 false)
    ∷ ByFar 0 (Send 91 0)
    ∷ ByFar 0 (Pass 0 false 0)
    ∷ ByRouter 0 (Arrive 0)
    ∷ ByRouter 0 (Decide ten)
    ∷ ByRouter 0 (Put 0 0)
    ∷ ByRouter 0 (Tell 1 ten)
    ∷ ByRouter 1 (Hear 0)
    ∷ ByRouter 1 (Decide ten)
    ∷ ByRouter 1 (Tell 0 ten)
    ∷ ByRouter 0 (Hear 1)
    ∷ []

abbrev pub start_events : List Event
start_events = joining_events ++ settling_events
