-- Grafts that are refused, from the first world on.
use Rattle.std.proofs.Common.{◌≡◌, ℕ, zero, suc, ◌≤◌, ◌||◌, Bool, true, false, List, [], ◌∷◌, ◌++◌, Some}
use Rattle.std.proofs.Common.{None, is_some, refl, sym, ap, ◌∙◌, subst, inr, lit<, lit≤}
use Rattle.std.specs.Prelude.{All, slice_get}
use Rattle.std.specs.FinMap as map
use Rattle.std.proofs.lemmas.List.Elements.{All-from_recursion, All-nil}
use Rattle.bgp_types.specs.declared.message.SessionState.TheVariants.{OpenSent}
use Rattle.bgp_types.specs.FirstFault.{body_of, message_of}
use Rattle.bgp_types.specs.Header.{header_fault, frame_at}
use Rattle.bgp_types.specs.Many.{many, many_within}
use Rattle.bgp_types.specs.OpenBody.{cap_at, caps_of, params_of, open_of}
use Rattle.bgp_types.specs.Prefixes.{PrefixValue, IsPrefix}
use Rattle.bgp_story.proofs.WorkedStories.{peering_is}
use Rattle.graft_steps.specs.declared.refusal.Refusal.TheVariants.{NotEstablished, RouterFull}
use Rattle.graft_steps.specs.Refusals.{freeze_refusal}
use Rattle.session_value.specs.Sessions.{state, hold_time}
use Rattle.session_value.specs.Sets.{has}
use Rattle.graft_model.specs.Setups.{IsSetup, IsStep, starting_at, room_of}
use Rattle.graft_model.specs.First.{first_router, first_operator, first_world}
use Rattle.graft_model.specs.Points.{at}
use Rattle.graft_model.specs.Parts.{Vacant, Live, Frozen, Shadow, OperatorPart, Moved, Back, World, Leaving}
use Rattle.graft_model.specs.RouterRows.{MeshIn, MeshTo, ReportOut}
use Rattle.graft_model.specs.GraftRows.{Refuses, TurnsBack, Returns}
use Rattle.graft_model.specs.OperatorRows.{OrderTo, OrdersGraft}
use Rattle.graft_model.specs.declared.event.RouterEvent.TheVariants.{Admit, Refuse, Freeze, Leave, TurnBack, Return}
use Rattle.graft_model.specs.declared.event.OperatorEvent.TheVariants.{Order}
use Rattle.graft_model.specs.Steps.{Event, ByRouter, ByOperator, Step, Run}
use Rattle.graft_worked.specs.Base.{base}
use Rattle.graft_worked.specs.Places.{idle_router, holding, nothing_on_the_way, world_of}
use Rattle.graft_worked.specs.First.{session_first, a_first, far_first, operator_first, first_worked}
use Rattle.graft_worked.specs.Graft.{to_b, operator_before}
use Rattle.graft_worked.specs.Start.{a_with, session_joined, far_emitted, joined_world, joining_events}
use Rattle.graft_worked.specs.Refused.{refusing, operator_moved, refusal_report, refused_events, with_refusal, returned_events, with_returned}
use Rattle.graft_worked.proofs.Points.{at-at, at-same}
use Rattle.graft_worked.proofs.Tens.{empty, some_in_none}
use Rattle.graft_worked.proofs.Setup.{below_two, peering_is_sound, one_peering}
use Rattle.graft_worked.proofs.First.{base_empties, first_is}
use Rattle.graft_worked.proofs.Ungiven.{empties, nothing_given, none_before}
use Rattle.graft_worked.proofs.Moves.{IsSmall, a_alone, a_to_b, a_ordered_by, a_ends, a_reports, b_sends_back, operator_orders}
use Rattle.graft_worked.proofs.GraftRows.{orders_first, admits, freezes, leaves}
use Rattle.graft_worked.proofs.StartRun.{joins, joined}

-- ---- the laboratory

small : IsSmall refusing
small = record { a = lit< tt; b = lit< tt; c = lit< tt }

pub refusing_is_sound : IsSetup refusing
refusing_is_sound = record {
  peerings = one_peering refusing (peering_is_sound refusing 0 0 0x0AFF0001 (lit< tt) refl refl (peering_is 0 (lit< tt) refl) (lit≤ tt));
  room = below_two (λ r. starting_at refusing r ≤ room_of refusing r) (lit≤ tt) (lit≤ tt);
  networks = All-from_recursion (λ router. All IsPrefix router.networks) refusing.routers (All-nil IsPrefix, (All-nil IsPrefix, tt));
  steps = All-from_recursion (IsStep refusing) refusing.steps (lit< tt, ((lit< tt, lit< tt), (tt, tt)));
  ended = refl;
}

-- it begins as the one with room
same_router : (r : ℕ) → first_router refusing r ≡ first_router base r
same_router zero = refl
same_router (suc zero) = refl
same_router (suc (suc r)) = refl

refusing_empties : (n : ℕ) → empties (slice_get refusing.steps n) ≡ false
refusing_empties zero = refl
refusing_empties (suc zero) = refl
refusing_empties (suc (suc zero)) = refl
refusing_empties (suc (suc (suc n))) = refl

same_operator : first_operator refusing ≡ first_operator base
same_operator = nothing_given refusing operator_first refusing_empties ∙ sym (nothing_given base operator_first base_empties)

begins : first_world refusing ≡ first_worked
begins = (λ i. record (first_world base) { router = λ r. same_router r i; operator = same_operator i }) ∙ first_is

-- ---- the order

orders : (issued : ℕ → Bool)
    → OrdersGraft refusing 1 0 (record operator_first { issued = issued }) None
    (OrderTo 0 (record { graft = 1; peering = 0; target = 1 }) ∷ []) (operator_moved issued)
orders issued = orders_first refusing 0 (record { graft = 1; peering = 0; step = 1 }) 1 (record operator_first { issued = issued })
    refl refl refl refl refl refl (λ other known peering before. none_before refusing other known before)

-- ---- refused at the source

not_up : freeze_refusal (record { 0 = 0 }) (record { 0 = 1 }) (state session_first) (hold_time session_first) ≡ Some (NotEstablished OpenSent)
unfolding message_of header_fault frame_at body_of open_of many many_within cap_at caps_of params_of
not_up = refl

refuses : Refuses 0 1 (holding idle_router (Live session_first (Some (Leaving to_b)))) None (ReportOut (refusal_report (NotEstablished OpenSent)) ∷ []) a_first
refuses = record {
  peering = 0;
  target = 1;
  session = session_first;
  live = record { is = refl };
  refusal = NotEstablished OpenSent;
  cause = not_up;
  takes = refl;
  sends = refl;
  effect = λ i. record a_first { places = sym (at-at (λ p. Vacant) 0 (Live session_first (Some (Leaving to_b))) (Live session_first None)) i };
}

refused : Run refusing first_worked refused_events with_refusal
refused = (
  _,
  operator_orders refusing small a_first idle_router far_first operator_first nothing_on_the_way (Order 1 0)
      (operator_moved (λ n. false)) (record { graft = 1; peering = 0; target = 1 }) tt (inr (orders (λ n. false))),
  (
    _,
    a_ordered_by refusing small a_first idle_router far_first (operator_moved (λ n. false)) nothing_on_the_way
        (Admit 1) (holding idle_router (Live session_first (Some (Leaving to_b))))
        (record { graft = 1; peering = 0; target = 1 }) [] (admits refusing (lit< tt) idle_router session_first),
    (
      _,
      a_reports refusing small (holding idle_router (Live session_first (Some (Leaving to_b)))) idle_router far_first
          (operator_moved (λ n. false)) nothing_on_the_way (Refuse 1) a_first (refusal_report (NotEstablished OpenSent)) refuses,
      refl,
    ),
  ),
)

pub refused_from_first : Run refusing (first_world refusing) refused_events with_refusal
refused_from_first = subst (λ (w : World). Run refusing w refused_events with_refusal) (sym begins) refused

-- ---- turned back by the target

may_freeze : freeze_refusal (record { 0 = 0 }) (record { 0 = 1 }) (state session_joined) (hold_time session_joined) ≡ None
unfolding message_of header_fault frame_at body_of open_of many many_within cap_at caps_of params_of
may_freeze = refl

turns_back : TurnsBack refusing 1 0 idle_router (Some (MeshIn 0 (Moved 1 0 session_joined)))
    (MeshTo 0 (Back 1 0 session_joined (RouterFull 0)) ∷ []) idle_router
turns_back = record {
  comes = record { graft = 1; peering = 0; session = session_joined; takes = refl; known = lit< tt; vacant = refl };
  refusal = RouterFull 0;
  cause = refl;
  sends = refl;
  stays = refl;
}

-- nothing was told on it, and there is no best route
nothing_due : (x : PrefixValue) → has empty x ≡ (is_some (map.get session_joined.adj_rib_out x) || is_some (map.get idle_router.best x))
nothing_due x = some_in_none _ x ∙ sym (ap (λ told. told || is_some (map.get idle_router.best x)) (some_in_none _ x) ∙ some_in_none _ x)

returns : Returns 1 (holding idle_router (Shadow 1)) (Some (MeshIn 1 (Back 1 0 session_joined (RouterFull 0))))
    (ReportOut (refusal_report (RouterFull 0)) ∷ []) (a_with session_joined)
returns = record {
  graft = 1;
  peering = 0;
  session = session_joined;
  refusal = RouterFull 0;
  takes = refl;
  shadow = refl;
  sends = refl;
  due = record { members = nothing_due };
  effect = λ i.
      record (a_with session_joined) { places = sym (at-at (λ p. Vacant) 0 (Shadow 1) (Live session_joined None)) i; due_out = sym (at-same empty 0) i };
}

abbrev pub moved : OperatorPart
moved = operator_moved (at (λ n. false) 0 true)

-- the graft up to its freeze, from there to its return, and the worlds there
abbrev pub ordering_events : List Event
ordering_events = ByOperator (Order 1 0) ∷ ByRouter 0 (Admit 1) ∷ []

abbrev pub away : List Event
away = ByRouter 0 (Leave 1) ∷ ByRouter 1 (TurnBack 0) ∷ []

abbrev pub with_order : World
with_order = world_of (holding idle_router (Live session_joined (Some (Leaving to_b)))) idle_router far_emitted moved nothing_on_the_way

abbrev pub with_freeze : World
with_freeze = world_of (holding idle_router (Frozen session_joined to_b)) idle_router far_emitted moved nothing_on_the_way

abbrev pub with_session_back : World
with_session_back = world_of (holding idle_router (Shadow 1)) idle_router far_emitted moved
    (record nothing_on_the_way { to_a = Back 1 0 session_joined (RouterFull 0) ∷ [] })

ordered : Run refusing joined_world ordering_events with_order
ordered = (
  _,
  operator_orders refusing small (a_with session_joined) idle_router far_emitted operator_before nothing_on_the_way
      (Order 1 0) moved (record { graft = 1; peering = 0; target = 1 }) tt (inr (orders (at (λ n. false) 0 true))),
  (
    _,
    a_ordered_by refusing small (a_with session_joined) idle_router far_emitted moved nothing_on_the_way
        (Admit 1) (holding idle_router (Live session_joined (Some (Leaving to_b))))
        (record { graft = 1; peering = 0; target = 1 }) [] (admits refusing (lit< tt) idle_router session_joined),
    refl,
  ),
)

pub ordered_from_first : Run refusing (first_world refusing) (joining_events ++ ordering_events) with_order
ordered_from_first = subst (λ (w : World). Run refusing w (joining_events ++ ordering_events) with_order) (sym begins)
    (joined refusing first_worked joined_world with_order joining_events ordering_events (joins refusing small refl) ordered)

pub frozen : Step refusing (ByRouter 0 (Freeze 1)) with_order with_freeze
frozen = a_alone refusing small (holding idle_router (Live session_joined (Some (Leaving to_b)))) idle_router far_emitted moved nothing_on_the_way
    (Freeze 1) (holding idle_router (Frozen session_joined to_b)) (freezes 0 1 idle_router session_joined may_freeze)

pub goes_away : Run refusing with_freeze away with_session_back
goes_away = (
  _,
  a_to_b refusing small (holding idle_router (Frozen session_joined to_b)) idle_router far_emitted moved nothing_on_the_way
      (Leave 1) (holding idle_router (Shadow 1)) (Moved 1 0 session_joined) (leaves idle_router session_joined (at-same empty 0)),
  (
    _,
    b_sends_back refusing small (holding idle_router (Shadow 1)) idle_router far_emitted moved nothing_on_the_way
        (TurnBack 0) idle_router (Moved 1 0 session_joined) (Back 1 0 session_joined (RouterFull 0)) [] turns_back,
    refl,
  ),
)

pub comes_back : Step refusing (ByRouter 0 (Return 1)) with_session_back with_returned
comes_back = a_ends refusing small (holding idle_router (Shadow 1)) idle_router far_emitted moved nothing_on_the_way
    (Return 1) (a_with session_joined) (Back 1 0 session_joined (RouterFull 0)) [] (refusal_report (RouterFull 0)) returns

pub returned_from_first : Run refusing (first_world refusing) returned_events with_returned
returned_from_first = joined refusing (first_world refusing) with_order with_returned
    (joining_events ++ ordering_events) (ByRouter 0 (Freeze 1) ∷ (away ++ ByRouter 0 (Return 1) ∷ [])) ordered_from_first (
      with_freeze,
      frozen,
      joined refusing with_freeze with_session_back with_returned away (ByRouter 0 (Return 1) ∷ []) goes_away (with_returned, comes_back, refl),
    )
