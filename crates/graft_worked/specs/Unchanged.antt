-- `Unchanged` without one field, and worlds from which events lead to a session other than the frozen one, or to another place. No run of the
-- laboratory leads to these worlds: a capsule for the graft is on its way in them before the freeze.
use Rattle.std.specs.Prelude.{ℕ, ◌≡◌, ◌≢◌, List, [], ◌∷◌, ◌++◌, Some, None}
use Rattle.graft_steps.specs.declared.refusal.Refusal.{Refusal}
use Rattle.graft_steps.specs.declared.refusal.Refusal.TheVariants.{RouterFull}
use Rattle.session_value.specs.Sessions.{SessionValue}
use Rattle.graft_model.specs.Claims.{sessions_at, sessions_of, FrozenBefore}
use Rattle.graft_model.specs.Setups.{Setup}
use Rattle.graft_model.specs.Parts.{Place, Live, Leaving, Owing, Moved, Back, PointAt, RouterPart, World}
use Rattle.graft_model.specs.declared.event.RouterEvent.TheVariants.{Refuse, Freeze, Leave, Land, Return}
use Rattle.graft_model.specs.Steps.{Event, ByRouter, Step, Run}
use Rattle.graft_worked.specs.Places.{OnTheWay, holding, nothing_on_the_way, world_of}
use Rattle.graft_worked.specs.Graft.{session, a_before, a_ordered, a_left, b_before, b_landed, far_before, operator_ordered}
use Rattle.graft_worked.specs.Start.{session_emitted}

-- the fields that may be false
pub data UnchangedField : Type 0 where
  Returned : UnchangedField
  Landed : UnchangedField
  Refused : UnchangedField

-- `Unchanged`
pub record UnchangedBut (but : UnchangedField) (setup : Setup) (first : World) (events : List Event) : Type 0 where
  pub returned : but ≢ Returned → (r k p target s q : ℕ) (found session : SessionValue) (refusal : Refusal) (after : World)
      → FrozenBefore setup first events r k p target found s q (Return q) (Back k p session refusal) after
      → (s ≡ r) × ((after.router s).places p ≡ Live found None)
  pub landed : but ≢ Landed → (r k p target s q : ℕ) (found session : SessionValue) (after : World)
      → FrozenBefore setup first events r k p target found s q (Land q) (Moved k p session) after
      → (s ≡ target) × ((after.router s).places p ≡ Live found (Some (Owing (record { graft = k; source = r; next = 0 }))))
  pub refused : but ≢ Refused → (begun rest : List Event) (r k p : ℕ) (w₁ w₂ : World)
      → events ≡ begun ++ ByRouter r (Refuse k) ∷ rest
      → Run setup first begun w₁ → Step setup (ByRouter r (Refuse k)) w₁ w₂
      → (sessions_of setup w₂ p ≡ sessions_of setup w₁ p) × ((q : ℕ) → sessions_at ((w₂.router q).places p) ≡ sessions_at ((w₁.router q).places p))

-- the worked graft once its session has landed
abbrev pub with_landing : World
with_landing = world_of a_left b_landed far_before operator_ordered (record nothing_on_the_way { out_b = PointAt 1 ∷ [] })

-- ---- a capsule is on its way before the freeze

abbrev pub before_freeze : RouterPart → RouterPart → OnTheWay → World
before_freeze a b way = world_of a b far_before operator_ordered way

abbrev pub leaving_for : ℕ → Place
leaving_for target = Live session (Some (Leaving (record { graft = 1; target = target })))

abbrev pub landing_events : List Event
landing_events = ByRouter 0 (Freeze 1) ∷ ByRouter 1 (Land 0) ∷ []

-- landed: another session, to which nothing was acknowledged, moves to b
abbrev pub with_another_moved : World
with_another_moved = before_freeze a_ordered b_before (record nothing_on_the_way { to_b = Moved 1 0 session_emitted ∷ [] })

-- landed: the session moves to b, and is to go to a third router
abbrev pub with_another_target : World
with_another_target = before_freeze (holding a_before (leaving_for 2)) b_before (record nothing_on_the_way { to_b = Moved 1 0 session ∷ [] })

-- returned: another session comes back to a
abbrev pub returning_events : List Event
returning_events = ByRouter 0 (Freeze 1) ∷ ByRouter 0 (Leave 1) ∷ ByRouter 0 (Return 1) ∷ []

abbrev pub with_another_back : World
with_another_back = before_freeze a_ordered b_before (record nothing_on_the_way { to_a = Back 1 0 session_emitted (RouterFull 0) ∷ [] })

-- returned: the session is frozen at b, and comes back to a, which has a shadow of it
abbrev pub straying_events : List Event
straying_events = ByRouter 1 (Freeze 1) ∷ ByRouter 0 (Return 1) ∷ []

abbrev pub with_another_source : World
with_another_source = before_freeze a_left (holding b_before (leaving_for 0)) (record nothing_on_the_way { to_a = Back 1 0 session (RouterFull 0) ∷ [] })
