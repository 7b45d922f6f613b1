-- What is said of frozen sessions can be false, field by field.
use Rattle.std.proofs.Common.{◌≡◌, ◌≢◌, ℕ, List, [], ◌∷◌, ◌++◌, Some, None, refl, sym, ap, subst, lit<}
use Rattle.std.specs.List.{AllByRecursion}
use Rattle.std.specs.FinMap as map
use Rattle.graft_steps.specs.declared.refusal.Refusal.TheVariants.{RouterFull}
use Rattle.graft_steps.specs.Refusals.{freeze_refusal}
use Rattle.session_value.specs.Sessions.{SessionValue, state, hold_time}
use Rattle.tcp_seq.specs.Endpoint.{Endpoint}
use Rattle.graft_model.specs.Claims.{FrozenBefore, Unchanged}
use Rattle.graft_model.specs.Points.{at}
use Rattle.graft_model.specs.Setups.{Setup}
use Rattle.graft_model.specs.Parts.{Vacant, Live, Frozen, Shadow, Leaving, Owing, Mesh, Moved, Back, PointAt, RouterPart, World}
use Rattle.graft_model.specs.RouterRows.{MeshIn, ReportOut}
use Rattle.graft_model.specs.GraftRows.{Returns}
use Rattle.graft_model.specs.declared.event.RouterEvent.{RouterEvent}
use Rattle.graft_model.specs.declared.event.RouterEvent.TheVariants.{Freeze, Leave, Land, Return}
use Rattle.graft_model.specs.Steps.{Event, ByRouter, Step, Run}
use Rattle.graft_worked.specs.Base.{base}
use Rattle.graft_worked.specs.Places.{OnTheWay, holding, nothing_on_the_way}
use Rattle.graft_worked.specs.Graft.{ten_alone, over_peering, session, home_end, a_before, b_before, far_before}
use Rattle.graft_worked.specs.Graft.{operator_ordered, to_a, a_ordered, a_frozen, a_left, b_landed}
use Rattle.graft_worked.specs.Refused.{refusal_report}
use Rattle.graft_worked.specs.Start.{session_emitted}
use Rattle.graft_worked.specs.Unchanged.{UnchangedField, Returned, Landed, Refused, UnchangedBut, before_freeze}
use Rattle.graft_worked.specs.Unchanged.{leaving_for, landing_events, returning_events, straying_events}
use Rattle.graft_worked.specs.Unchanged.{with_another_moved, with_another_target, with_another_back, with_another_source}
use Rattle.graft_worked.proofs.Points.{at-at, at-same}
use Rattle.graft_worked.proofs.Tens.{empty}
use Rattle.graft_worked.proofs.Moves.{base_small, a_alone, a_to_b, a_ends, b_alone, b_takes_in}
use Rattle.graft_worked.proofs.GraftRows.{due_again, freezes, may_freeze, leaves, lands}
use Rattle.graft_worked.proofs.Sends.{same_session}
use Rattle.graft_worked.proofs.SourceRefusals.{places_stay, sessions_stay}
use Rattle.graft_worked.proofs.Weaker.{other_number}

-- ---- events among which there is none of a kind

-- of each of some events this holds: so of the one among them, and of those behind it
among : (P : Event → Type 0) (begun rest : List Event) (event : Event) → AllByRecursion P (begun ++ event ∷ rest) → P event × AllByRecursion P rest
among P [] rest event all = all
among P (other ∷ begun) rest event all = among P begun rest event all.1

abbrev IsNoReturn : Event → Type 0
IsNoReturn (ByRouter r (Return q)) = ⊥
IsNoReturn event = Unit {0}

abbrev IsNoLanding : Event → Type 0
IsNoLanding (ByRouter r (Land q)) = ⊥
IsNoLanding event = Unit {0}

-- the event that takes the item is one of them
taking : (P : Event → Type 0) (setup : Setup) (first after : World) (events : List Event) (r k p target s q : ℕ) (found : SessionValue)
    (event : RouterEvent) (item : Mesh)
    → FrozenBefore setup first events r k p target found s q event item after → AllByRecursion P events → P (ByRouter s event)
taking P setup first after events r k p target s q found event item f all =
    let later = (among P f.begun (f.away ++ ByRouter s event ∷ f.rest) (ByRouter r (Freeze k)) (subst (AllByRecursion P) f.among all)).1 in
    (among P f.away f.rest (ByRouter s event) later).0

-- ---- the fields

-- where no session comes back, or none lands, but for a field that may be false
still_but : (but : UnchangedField) (setup : Setup) (first : World) (events : List Event)
    → (but ≢ Returned → AllByRecursion IsNoReturn events) → (but ≢ Landed → AllByRecursion IsNoLanding events) → UnchangedBut but setup first events
still_but but setup first events no_return no_landing = record {
  returned = λ other r k p target s q found session refusal after f.
      absurd (taking IsNoReturn setup first after events r k p target s q found (Return q) (Back k p session refusal) f (no_return other));
  landed = λ other r k p target s q found session after f.
      absurd (taking IsNoLanding setup first after events r k p target s q found (Land q) (Moved k p session) f (no_landing other));
  refused = λ other begun rest r k p w v among run step. (sessions_stay setup w v r k p step, places_stay setup w v r k p step);
}

pub of_unchanged : (but : UnchangedField) (setup : Setup) (first : World) (events : List Event) → Unchanged setup first events
    → UnchangedBut but setup first events
of_unchanged but setup first events u = record { returned = λ other. u.returned; landed = λ other. u.landed; refused = λ other. u.refused }

-- what is refused at its source needn't be said
pub unchanged_of : (setup : Setup) (first : World) (events : List Event) → UnchangedBut Refused setup first events → Unchanged setup first events
unchanged_of setup first events b = record {
  returned = b.returned (λ e. cc);
  landed = b.landed (λ e. cc);
  refused = λ begun rest r k p w v among run step. (sessions_stay setup w v r k p step, places_stay setup w v r k p step);
}

-- ---- the freeze, and what comes then

-- of events that begin with the freeze
taken_later : (setup : Setup) (first u w after : World) (away : List Event) (r k p target s q : ℕ) (found : SessionValue) (event : RouterEvent) (item : Mesh)
    → (first.router r).places p ≡ Live found (Some (Leaving (record { graft = k; target = target })))
    → Step setup (ByRouter r (Freeze k)) first u → Run setup u away w → w.mesh q s ≡ item ∷ [] → Step setup (ByRouter s event) w after
    → FrozenBefore setup first (ByRouter r (Freeze k) ∷ (away ++ ByRouter s event ∷ [])) r k p target found s q event item after
taken_later setup first u w after away r k p target s q found event item was freezes meanwhile comes step = record {
  begun = [];
  away = away;
  rest = [];
  among = refl;
  w₁ = first;
  w₂ = u;
  w₃ = w;
  before = refl;
  was = was;
  freezes = freezes;
  meanwhile = meanwhile;
  items = [];
  comes = comes;
  step = step;
}

not_another : session_emitted ≡ session → ⊥
not_another e = other_number 0 48 (lit< tt) (ap (λ (s : SessionValue). s.end.acked) e)

-- a router that has frozen the session for this target
abbrev frozen_for : RouterPart → ℕ → RouterPart
frozen_for part target = holding part (Frozen session (record { graft = 1; target = target }))

-- the session with another endpoint, on its way to b, and on its way back to a
abbrev with_end : Endpoint → SessionValue
with_end end = record session { end = end }

abbrev moved : Endpoint → Mesh
moved end = Moved 1 0 (with_end end)

abbrev back : Endpoint → Mesh
back end = Back 1 0 (with_end end) (RouterFull 0)

-- ---- landed

abbrev moving : Endpoint → OnTheWay
moving end = record nothing_on_the_way { to_b = moved end ∷ [] }

abbrev landed_with : Endpoint → RouterPart
landed_with end = holding b_landed (Live (with_end end) (Some (Owing to_a)))

-- frozen for this target, and landed at b with this endpoint
lands_there : (target : ℕ) (end : Endpoint) → freeze_refusal (record { 0 = 0 }) (record { 0 = target }) (state session) (hold_time session) ≡ None
    → FrozenBefore base (before_freeze (holding a_before (leaving_for target)) b_before (moving end)) landing_events 0 1 0 target session 1 0
    (Land 0) (moved end)
    (before_freeze (frozen_for a_before target) (landed_with end) (record nothing_on_the_way { out_b = PointAt 1 ∷ [] }))
lands_there target end may =
    taken_later base _ (before_freeze (frozen_for a_before target) b_before (moving end)) _ _ [] 0 1 0 target 1 0 session (Land 0) (moved end)
    refl
    (
    a_alone base base_small (holding a_before (leaving_for target)) b_before far_before operator_ordered (moving end)
    (Freeze 1) (frozen_for a_before target) (freezes 0 target a_before session may)
    )
    refl
    refl
    (
    b_takes_in base base_small (frozen_for a_before target) b_before far_before operator_ordered nothing_on_the_way
    (Land 0) (landed_with end) (moved end) [] (PointAt 1) (lands end)
    )

pub another_lands : Unchanged base with_another_moved landing_events → ⊥
another_lands u =
    let after = u.landed 0 1 0 1 1 0 session session_emitted _ (lands_there 1 session_emitted.end may_freeze) in
    not_another (same_session session_emitted session _ _ after.1)

pub lands_elsewhere : Unchanged base with_another_target landing_events → ⊥
lands_elsewhere u = other_number 1 2 (lit< tt) (u.landed 0 1 0 2 1 0 session session _ (lands_there 2 home_end may_freeze)).0

pub landed_alone : UnchangedBut Landed base with_another_moved landing_events
landed_alone = still_but Landed base with_another_moved landing_events (λ other. (tt, (tt, tt))) (λ other. absurd (other refl))

pub target_alone : UnchangedBut Landed base with_another_target landing_events
target_alone = still_but Landed base with_another_target landing_events (λ other. (tt, (tt, tt))) (λ other. absurd (other refl))

-- ---- returned

-- on its way: what goes to b, and what comes back to a
abbrev coming : List Mesh → Endpoint → OnTheWay
coming to_b end = record nothing_on_the_way { to_b = to_b; to_a = back end ∷ [] }

abbrev reported : List Mesh → OnTheWay
reported to_b = record nothing_on_the_way { to_b = to_b; reported = refusal_report (RouterFull 0) ∷ [] }

-- router a, with the session back
abbrev returned_with : Endpoint → RouterPart
returned_with end = record (holding a_before (Live (with_end end) None)) { due_out = at (λ p. empty) 0 ten_alone }

comes_back : (end : Endpoint) → Returns 1 a_left (Some (MeshIn 1 (back end))) (ReportOut (refusal_report (RouterFull 0)) ∷ []) (returned_with end)
comes_back end = record {
  graft = 1;
  peering = 0;
  session = with_end end;
  refusal = RouterFull 0;
  takes = refl;
  shadow = refl;
  sends = refl;
  due = record { members = due_again over_peering };
  effect = λ i. record (returned_with end) { places = sym (at-at (λ p. Vacant) 0 (Shadow 1) (Live (with_end end) None)) i };
}

returns_here : (b : RouterPart) (end : Endpoint) (to_b : List Mesh)
    → Step base (ByRouter 0 (Return 1)) (before_freeze a_left b (coming to_b end)) (before_freeze (returned_with end) b (reported to_b))
returns_here b end to_b =
    a_ends base base_small a_left b far_before operator_ordered (record nothing_on_the_way { to_b = to_b })
    (Return 1) (returned_with end) (back end) [] (refusal_report (RouterFull 0)) (comes_back end)

abbrev other_end : Endpoint
other_end = session_emitted.end

another_back : FrozenBefore base with_another_back returning_events 0 1 0 1 session 0 1 (Return 1) (back other_end)
    (before_freeze (returned_with other_end) b_before (reported (Moved 1 0 session ∷ [])))
another_back = taken_later base _ (before_freeze a_frozen b_before (coming [] other_end))
    (before_freeze a_left b_before (coming (Moved 1 0 session ∷ []) other_end)) _
    (ByRouter 0 (Leave 1) ∷ []) 0 1 0 1 0 1 session (Return 1) (back other_end)
    refl
    (a_alone base base_small a_ordered b_before far_before operator_ordered
    (coming [] other_end) (Freeze 1) a_frozen (freezes 0 1 a_before session may_freeze)) (
      before_freeze a_left b_before (coming (Moved 1 0 session ∷ []) other_end),
      a_to_b base base_small a_frozen b_before far_before operator_ordered (coming [] other_end)
          (Leave 1) a_left (Moved 1 0 session) (leaves a_before session (at-same map.empty 0)),
      refl,
    )
    refl
    (returns_here b_before other_end (Moved 1 0 session ∷ []))

pub another_returns : Unchanged base with_another_back returning_events → ⊥
another_returns u =
    let after = u.returned 0 1 0 1 0 1 session session_emitted (RouterFull 0) _ another_back in
    not_another (same_session session_emitted session _ _ after.1)

pub returned_alone : UnchangedBut Returned base with_another_back returning_events
returned_alone = still_but Returned base with_another_back returning_events (λ other. absurd (other refl)) (λ other. (tt, (tt, (tt, tt))))

another_source : FrozenBefore base with_another_source straying_events 1 1 0 0 session 0 1 (Return 1) (back home_end)
    (before_freeze (returned_with home_end) (frozen_for b_before 0) (reported []))
another_source = taken_later base _ (before_freeze a_left (frozen_for b_before 0) (coming [] home_end)) _ _ [] 1 1 0 0 0 1 session (Return 1) (back home_end)
    refl
    (
    b_alone base base_small a_left (holding b_before (leaving_for 0)) far_before operator_ordered (coming [] home_end)
    (Freeze 1) (frozen_for b_before 0) (freezes 1 0 b_before session may_freeze)
    )
    refl
    refl
    (returns_here (frozen_for b_before 0) home_end [])

pub returns_elsewhere : Unchanged base with_another_source straying_events → ⊥
returns_elsewhere u = other_number 0 1 (lit< tt) (u.returned 1 1 0 0 0 1 session session (RouterFull 0) _ another_source).0

pub source_alone : UnchangedBut Returned base with_another_source straying_events
source_alone = still_but Returned base with_another_source straying_events (λ other. absurd (other refl)) (λ other. (tt, (tt, tt)))
