-- Segments that the sessions at places emit.
use Rattle.std.specs.Prelude.{ℕ, ◌≡◌, ◌⊎◌, ◌<◌, ◌≤◌, ◌+◌, ◌↔◌, true, length, Option, None, IsNone, IfNone, IsSome, Some}
use Rattle.tcp_seq.specs.declared.segment.Segment.{Segment}
use Rattle.tcp_seq.specs.Endpoint.{EmitsNext, EmitsAgain, EmitsAnswer, EmitsSlice, again_length, next_length}
use Rattle.bgp_session.specs.Running.{RunningSession}
use Rattle.bgp_session.specs.Steps.{SessionEmitsIfAny}
use Rattle.graft_actors.specs.Emissions.{reach_of}
use Rattle.graft_actors.specs.Items.{home_first}
use Rattle.graft_model.specs.Setups.{routers_in}
use Rattle.router_core.specs.declared.fields.Fields.{Fields}
use Rattle.router_core.specs.declared.place.Place.{Place}
use Rattle.router_core.specs.declared.place.Place.TheVariants.{Live, Shadow}
use Rattle.router_core.specs.declared.stages.send.Outlet.{Outlet}

-- What the live session at a place does, with its result. Without a live session there is no result.
abbrev pub AtPlace : {A : Type 0} → (RunningSession → Option A → RunningSession → Type 0) → Option Place → Option A → Option Place → Type 0
AtPlace Does None answer new = (answer ≡ None) × (new ≡ None)
AtPlace Does (Some (Live s errand)) answer new = (u : RunningSession) × (new ≡ Some (Live u errand)) × Does s answer u
AtPlace Does (Some (Shadow away)) answer new = (answer ≡ None) × (new ≡ Some (Shadow away))

-- the retransmission turn
pub record SessionSentAgain (s : RunningSession) (answer : Option Segment) (u : RunningSession) : Type 0 where
  pub none : IsNone answer ↔ ((again_length s.session.end ≡ 0) ⊎ (s.acked_at_turn < s.session.end.acked))
  pub within : s.session.end.emitted ≤ length s.session.end.stream
  pub step : SessionEmitsIfAny EmitsAgain s.session answer u.session
  pub slice : SessionEmitsIfAny EmitsSlice s.session answer u.session
  pub turned : u.acked_at_turn ≡ s.session.end.acked

-- the next new slice, if there is one
pub record SentNext (s : RunningSession) (answer : Option Segment) (u : RunningSession) : Type 0 where
  pub none : IsNone answer ↔ (next_length s.session.end ≡ 0)
  pub all : IfNone answer (s.session.end.emitted ≡ reach_of s.session.end)
  pub step : SessionEmitsIfAny EmitsNext s.session answer u.session
  pub slice : SessionEmitsIfAny EmitsSlice s.session answer u.session
  pub same_turn : u.acked_at_turn ≡ s.acked_at_turn

-- the acknowledgement, if one is owed
pub record SessionSentAnswer (s : RunningSession) (answer : Option Segment) (u : RunningSession) : Type 0 where
  pub some : IsSome answer ↔ (s.session.end.owed ≡ true)
  pub step : SessionEmitsIfAny EmitsAnswer s.session answer u.session
  pub same_turn : u.acked_at_turn ≡ s.acked_at_turn

-- where the segments emitted on a peering go, and the initial sequence number of its home side
pub record IsOutletOf (f : Fields) (p : ℕ) (outlet : Outlet) : Type 0 where
  pub place : outlet.place ≡ p
  pub to : outlet.to ≡ routers_in f.known.setup + p
  pub first : outlet.first.0 ≡ home_first f.known.setup p
