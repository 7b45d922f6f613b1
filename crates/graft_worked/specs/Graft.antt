-- The graft of the worked laboratory, from the quiet world before it to the quiet world after it.
use Rattle.std.specs.Prelude.{ℕ, List, [], ◌∷◌, ◌++◌, Some, None, true, false}
use Rattle.std.specs.FinMap as map
use Rattle.std.specs.List.{enumerate_from}
use Rattle.bgp_types.specs.declared.attrs.Route.{Route}
use Rattle.bgp_types.specs.declared.rank.From.TheVariants as from
use Rattle.bgp_types.specs.Spelling.{framed}
use Rattle.bgp_types.specs.Tables.{prefix_cmp}
use Rattle.route_policy.specs.declared.best.Best.{Best}
use Rattle.tcp_seq.specs.Endpoint.{Bytes, Endpoint}
use Rattle.graft_steps.specs.declared.refusal.Outcome.TheVariants.{Accepted}
use Rattle.bgp_story.specs.WorkedSessions.{ten, open_bytes, keepalive_bytes, update_bytes, heard_lines, heard_attrs}
use Rattle.session_value.specs.Sessions.{SessionValue}
use Rattle.session_value.specs.Sets.{Prefixes}
use Rattle.graft_model.specs.Points.{at}
use Rattle.graft_model.specs.Parts.{Order as StoredOrder, Vacant, Live, Frozen, Shadow, Unmade, Entry}
use Rattle.graft_model.specs.Parts.{RouterPart, FarPart, OperatorPart, World, Word, Leaving, Owing}
use Rattle.graft_model.specs.declared.event.RouterEvent.TheVariants.{Admit, Freeze, Leave, Land, Confirm, Clear, Decide, Put, Tell, Hear}
use Rattle.graft_model.specs.declared.event.FarEvent.TheVariants.{Point}
use Rattle.graft_model.specs.declared.event.OperatorEvent.TheVariants.{Go, Order, Note}
use Rattle.graft_model.specs.Steps.{Event, ByRouter, ByFar, ByOperator}
use Rattle.graft_model.specs.SmallWorlds.{config}
use Rattle.graft_worked.specs.Places.{holding, nothing_on_the_way, world_of}

-- ---- what both sides said

-- home: its OPEN, without a hold time, and a KEEPALIVE
abbrev pub put_all : List ℕ
put_all = framed 1 (0x04 ∷ 0xFD ∷ 0xE8 ∷ 0x00 ∷ 0x00 ∷ 0x0A ∷ 0xFF ∷ 0x00 ∷ 0x01 ∷ 0x00 ∷ []) ++ keepalive_bytes

-- the remote: its OPEN, a KEEPALIVE, and the UPDATE that announces 10.0.0.0/8
abbrev pub said_all : List ℕ
said_all = open_bytes ++ (keepalive_bytes ++ update_bytes)

-- bytes from offset 0 on
abbrev pub from_zero : List ℕ → Bytes
from_zero bytes = map.from_sorted (enumerate_from 0 bytes)

-- Each has received all that the other sent, 91 and 48 bytes, and knows that the other has received all.
abbrev pub home_end : Endpoint
home_end = record { stream = put_all; emitted = 48; acked = 48; arrived = from_zero said_all; read = 91; owed = true }

abbrev pub remote_end : Endpoint
remote_end = record { stream = said_all; emitted = 91; acked = 91; arrived = from_zero put_all; read = 0; owed = false }

-- ---- tables with one prefix, 10.0.0.0/8

abbrev pub at_ten : {A : Type 0} → A → map.FinMap prefix_cmp A
at_ten value = map.insert map.empty ten value

abbrev pub ten_alone : Prefixes
ten_alone = at_ten tt

abbrev pub route : Route
route = record { attrs = heard_attrs; pref = 100 }

abbrev pub entry : Entry
entry = record { route = route; identifier = 0xC0000201; address = 0xC0000201 }

abbrev pub over_peering : Best
over_peering = record { from = from.Peering (record { 0 = 0 }); route = route }

abbrev pub over_router : ℕ → Best
over_router r = record { from = from.Router (record { 0 = r }); route = route }

-- the established session, which heard one route and told none
abbrev pub session : SessionValue
session = record { config = config; story = heard_lines 0; adj_rib_in = at_ten heard_attrs; adj_rib_out = map.empty; end = home_end }

-- ---- the parts

-- router a holds the session, has its route, and has the best route from it
abbrev pub a_before : RouterPart
a_before = record {
  places = at (λ p. Vacant) 0 (Live session None);
  entries = at (λ p. map.empty) 0 (at_ten entry);
  tellings = λ q. map.empty;
  best = at_ten over_peering;
  dirty = map.empty;
  due_in = λ q. map.empty;
  due_out = λ p. map.empty;
}

-- router b has the route that a told
abbrev pub b_before : RouterPart
b_before = record {
  places = λ p. Vacant;
  entries = λ p. map.empty;
  tellings = at (λ q. map.empty) 0 (at_ten route);
  best = at_ten (over_router 0);
  dirty = map.empty;
  due_in = λ q. map.empty;
  due_out = λ p. map.empty;
}

abbrev pub far_before : FarPart
far_before = record { end = remote_end; homeward = []; remoteward = []; pointer = 0; followed = 0; keepalives = 0; last_keepalive = 0 }

-- the first step, that the remote is to announce, was ordered
abbrev pub operator_before : OperatorPart
operator_before = record { group = 0; issued = at (λ n. false) 0 true; given = λ k. Unmade; source = λ k. None; outcome = λ k. None }

abbrev pub before_graft : World
before_graft = world_of a_before b_before far_before operator_before nothing_on_the_way

-- the graft: number 1, to router b
abbrev pub to_b : StoredOrder
to_b = record { graft = 1; target = 1 }

abbrev pub a_ordered : RouterPart
a_ordered = holding a_before (Live session (Some (Leaving to_b)))

abbrev pub a_frozen : RouterPart
a_frozen = holding a_before (Frozen session to_b)

abbrev pub a_left : RouterPart
a_left = holding a_before (Shadow 1)

-- router a has heard from b before the shadow goes, and keeps its own best route until then
abbrev pub a_heard : RouterPart
a_heard = record a_left { tellings = at (λ q. map.empty) 1 (at_ten route); dirty = ten_alone }

abbrev pub a_kept : RouterPart
a_kept = record a_heard { dirty = map.empty }

abbrev pub a_cleared : RouterPart
a_cleared = record a_kept { places = λ p. Vacant; entries = λ p. map.empty; dirty = ten_alone }

abbrev pub a_decided : RouterPart
a_decided = record a_cleared { best = at_ten (over_router 1); dirty = map.empty; due_in = at (λ q. map.empty) 1 ten_alone }

abbrev pub a_after : RouterPart
a_after = record a_decided { due_in = λ q. map.empty }

-- the word that b owes to a
abbrev pub to_a : Word
to_a = record { graft = 1; source = 0; next = 0 }

abbrev pub b_landed : RouterPart
b_landed = record b_before {
  places = at (λ p. Vacant) 0 (Live session (Some (Owing to_a)));
  entries = at (λ p. map.empty) 0 (at_ten entry);
  dirty = ten_alone;
  due_out = at (λ p. map.empty) 0 ten_alone;
}

abbrev pub b_decided : RouterPart
b_decided = record b_landed { best = at_ten over_peering; dirty = map.empty; due_in = at (λ q. map.empty) 0 ten_alone }

abbrev pub b_told : RouterPart
b_told = record b_decided { due_in = λ q. map.empty }

abbrev pub b_confirmed : RouterPart
b_confirmed = holding b_told (Live session None)

abbrev pub b_put : RouterPart
b_put = record b_confirmed { due_out = λ p. map.empty }

abbrev pub b_heard : RouterPart
b_heard = record b_put { tellings = λ q. map.empty; dirty = ten_alone }

abbrev pub b_after : RouterPart
b_after = record b_put { tellings = λ q. map.empty }

abbrev pub far_after : FarPart
far_after = record far_before { pointer = 1; followed = 1 }

abbrev pub operator_begun : OperatorPart
operator_begun = record operator_before { group = 1 }

abbrev pub operator_ordered : OperatorPart
operator_ordered = record operator_begun { source = at (λ k. None) 1 (Some 0) }

abbrev pub operator_after : OperatorPart
operator_after = record operator_ordered { outcome = at (λ k. None) 1 (Some Accepted) }

abbrev pub after_graft : World
after_graft = world_of a_after b_after far_after operator_after nothing_on_the_way

-- ---- the events

abbrev pub graft_events : List Event
graft_events =
    ByOperator Go
    ∷ ByOperator (Order 2 0)
    ∷ ByRouter 0 (Admit 1)
    ∷ ByRouter 0 (Freeze 1)
    ∷ ByRouter 0 (Leave 1)
    ∷ ByRouter 1 (Land 0)
    ∷ ByFar 0 (Point 1)
    ∷ ByRouter 1 (Decide ten)
    ∷ ByRouter 1 (Tell 0 ten)
    ∷ ByRouter 1 (Confirm 1)
    ∷ ByRouter 1 (Put 0 0)
    ∷ ByRouter 0 (Hear 1)
    ∷ ByRouter 0 (Decide ten)
    ∷ ByRouter 0 (Clear 1)
    ∷ ByOperator (Note 0)
    ∷ ByRouter 0 (Decide ten)
    ∷ ByRouter 0 (Tell 1 ten)
    ∷ ByRouter 1 (Hear 0)
    ∷ ByRouter 1 (Decide ten)
    ∷ []

-- the last world, with the source's entry kept: the shadow's routes were never removed
abbrev pub with_entry_kept : World
with_entry_kept = world_of (record a_after { entries = at (λ p. map.empty) 0 (at_ten entry) }) b_after far_after operator_after nothing_on_the_way
