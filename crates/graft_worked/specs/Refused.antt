-- A laboratory in which each graft is refused: router b has no room, and the graft is in the first group. If it is ordered at once, it is refused at
-- the source, whose session isn't established yet. If it is ordered once the session is established, the session is frozen with bytes that it hasn't
-- got, leaves, and router b turns it back.
use Rattle.std.specs.Prelude.{ℕ, List, [], ◌∷◌, ◌++◌, Bool, Some, None, true, false}
use Rattle.bgp_types.specs.declared.message.SessionState.TheVariants.{OpenSent}
use Rattle.bgp_story.specs.WorkedSessions.{update_bytes}
use Rattle.graft_steps.specs.declared.refusal.Refusal.{Refusal}
use Rattle.graft_steps.specs.declared.refusal.Refusal.TheVariants.{NotEstablished, RouterFull}
use Rattle.graft_steps.specs.declared.refusal.Outcome.TheVariants.{Refused}
use Rattle.graft_model.specs.Points.{at}
use Rattle.graft_model.specs.Setups.{Setup, SayStep, MoveStep, SettleStep}
use Rattle.graft_model.specs.Parts.{Unmade, OperatorPart, Report, World}
use Rattle.graft_model.specs.declared.event.RouterEvent.TheVariants.{Admit, Refuse, Freeze, Leave, TurnBack, Return}
use Rattle.graft_model.specs.declared.event.OperatorEvent.TheVariants.{Order}
use Rattle.graft_model.specs.Steps.{Event, ByRouter, ByOperator}
use Rattle.graft_worked.specs.Base.{router_a, router_b, base}
use Rattle.graft_worked.specs.Places.{idle_router, nothing_on_the_way, world_of}
use Rattle.graft_worked.specs.First.{a_first, far_first}
use Rattle.graft_worked.specs.Start.{a_with, session_joined, far_emitted, joining_events}

abbrev pub refusing : Setup
refusing = record base { routers = router_a ∷ record router_b { room = 0 } ∷ []; steps = SayStep 0 update_bytes ∷ MoveStep 0 1 ∷ SettleStep ∷ [] }

-- the operator, with these says ordered besides the graft
abbrev pub operator_moved : (ℕ → Bool) → OperatorPart
operator_moved issued = record { group = 0; issued = issued; given = λ k. Unmade; source = at (λ k. None) 1 (Some 0); outcome = λ k. None }

abbrev pub refusal_report : Refusal → Report
refusal_report refusal = record { graft = 1; outcome = Refused refusal }

-- ---- at the source

abbrev pub refused_events : List Event
refused_events = ByOperator (Order 1 0) ∷ ByRouter 0 (Admit 1) ∷ ByRouter 0 (Refuse 1) ∷ []

abbrev pub with_refusal : World
with_refusal = world_of a_first idle_router far_first (operator_moved (λ n. false))
    (record nothing_on_the_way { reported = refusal_report (NotEstablished OpenSent) ∷ [] })

-- ---- at the target

abbrev pub away_events : List Event
away_events = ByOperator (Order 1 0) ∷ ByRouter 0 (Admit 1) ∷ ByRouter 0 (Freeze 1)
    ∷ ByRouter 0 (Leave 1) ∷ ByRouter 1 (TurnBack 0) ∷ ByRouter 0 (Return 1) ∷ []

abbrev pub returned_events : List Event
returned_events = joining_events ++ away_events

abbrev pub with_returned : World
with_returned = world_of (a_with session_joined) idle_router far_emitted (operator_moved (at (λ n. false) 0 true))
    (record nothing_on_the_way { reported = refusal_report (RouterFull 0) ∷ [] })
