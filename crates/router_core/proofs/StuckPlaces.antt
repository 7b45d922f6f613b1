-- Whether the session at a place is stuck: whether its next update has room, and a KEEPALIVE.
use Rattle.std.proofs.Common.{◌≡◌, ℕ, ◌+◌, ◌<◌, ◌≤◌, length, Option, option_map, Some, None, refl, sym, ap, subst, ◌∙◌, arith, inl, inr}
use Rattle.std.proofs.lemmas.Bool.{cases_lt}
use Rattle.bgp_story.specs.Legal.{is_wide}
use Rattle.graft_steps.specs.declared.order.GraftIds.{GraftIds}
use Rattle.router_tables.proofs.Points.{one_or_other}
use Rattle.router_core.specs.declared.place.Errand.{Errand}
use Rattle.session_value.specs.Sessions.{SessionValue, peering_of}
use Rattle.bgp_session.specs.Running.{RunningSession}
use Rattle.update_plan.specs.Plans.{IsWritableFor}
use Rattle.update_plan.specs.declared.batch.Batch.{Batch}
use Rattle.graft_model.specs.Decisions.{to_tell}
use Rattle.graft_model.specs.Parts as model
use Rattle.graft_model.specs.RouterRows.{IsLive, IsToTell}
use Rattle.router_core.specs.Parts.{router_part}
use Rattle.router_core.specs.Places.{errand_of, place_of, place_at}
use Rattle.router_core.specs.Putting.{NextAt, TimeAnswer}
use Rattle.router_core.specs.Updates.{IsNextUpdate, IsStuck, IsStuckAt, IsStuckInTime, HasNoRoomAt, RoomAnswer, StuckAnswer, length_with}
use Rattle.router_core.specs.declared.fields.Fields.{Fields}
use Rattle.router_core.specs.declared.place.Place.{Place}
use Rattle.router_core.specs.declared.place.Place.TheVariants.{Live, Shadow}
use Rattle.router_core.proofs.OneNext.{next_one}
use Rattle.router_core.proofs.VisitSteps.{place_at_end}

-- the session that is live at a place is the one that is there
live_is : (s t : SessionValue) (o p : Option model.Errand) → model.Live s o ≡ model.Live t p → s ≡ t
live_is s t o p e = cc

module _ (f : Fields) (n : ℕ) where
  -- what a stuck session has for its next UPDATE
  record StuckHere (s : RunningSession) (m : ℕ) : Type 0 where
    pub stuck : IsStuck f.known.setup f.number.0 (router_part f) n s.session m

  stuck_here : (s : RunningSession) (o : Option Errand) (m : ℕ) → place_at f.places.places n ≡ Some (Live s o)
      → HasNoRoomAt f.known.setup f.number.0 (router_part f) n m → IsStuck f.known.setup f.number.0 (router_part f) n s.session m
  stuck_here s o m is x =
      subst (λ (v : SessionValue). IsStuck f.known.setup f.number.0 (router_part f) n v m)
      (live_is x.session s.session x.errand (option_map errand_of o) (sym x.live.is ∙ ap place_of is)) x.stuck

  module _ (batch : Batch) where
    one : (s : RunningSession) (m : ℕ) → IsNextUpdate f.known.setup f.number.0 (router_part f) n s.session batch
        → (stuck : IsStuck f.known.setup f.number.0 (router_part f) n s.session m) → stuck.batch ≡ batch
    one s m next stuck = next_one (IsToTell f.known.setup f.number.0 (router_part f) n s.session) (to_tell f.known.setup f.number.0
        (router_part f) s.session) (is_wide (peering_of s.session.config) s.session.story) stuck.batch batch stuck.next next

    -- the next UPDATE can't be written
    pub free_unwritable : (place : Option Place) → place_at f.places.places n ≡ place → NextAt f.known.setup f.number.0 (router_part f) n place batch
        → ¬ IsWritableFor batch → RoomAnswer f.known.setup f.number.0 (router_part f) n None
    free_unwritable None is next not m x = absurd next
    free_unwritable (Some (Live s o)) is next not m x = let stuck = stuck_here s o m is x in not (subst IsWritableFor (one s m next.1 stuck) stuck.writable)
    free_unwritable (Some (Shadow away)) is next not m x = absurd next

    -- it has room
    pub free_with_room : (s : RunningSession) (o : Option Errand) → place_at f.places.places n ≡ Some (Live s o)
        → NextAt f.known.setup f.number.0 (router_part f) n (Some (Live s o)) batch → length_with s.session batch ≤ 1044480
        → RoomAnswer f.known.setup f.number.0 (router_part f) n None
    free_with_room s o is next room m x =
        let stuck = stuck_here s o m is x in
        over (length_with s.session batch) m (stuck.size ∙ ap (length_with s.session) (one s m next.1 stuck)) room stuck.above
      where
        over : (k m : ℕ) → m ≡ k → k ≤ 1044480 → 1044480 < m → ⊥
        over k m e l a = omega arith

    -- it has none
    pub stuck_there : (s : RunningSession) (o : Option Errand) → place_at f.places.places n ≡ Some (Live s o)
        → NextAt f.known.setup f.number.0 (router_part f) n (Some (Live s o)) batch → IsWritableFor batch → 1044480 < length_with s.session batch
        → RoomAnswer f.known.setup f.number.0 (router_part f) n (Some (length_with s.session batch))
    stuck_there s o is next writable above = record {
      session = s.session;
      errand = option_map errand_of o;
      live = record { is = ap place_of is };
      stuck = record { established = next.0; batch = batch; next = next.1; writable = writable; size = refl; above = above };
    }

module _ (f : Fields) (n len : ℕ) (batch : Batch)
    (lens : (s : RunningSession) (o : Option Errand) → place_at f.places.places n ≡ Some (Live s o) → len ≡ length_with s.session batch) where
  pub stuck_by_place : (place : Option Place) → place_at f.places.places n ≡ place → NextAt f.known.setup f.number.0 (router_part f) n place batch
      → IsWritableFor batch → 1044480 < len → RoomAnswer f.known.setup f.number.0 (router_part f) n (Some len)
  stuck_by_place None is next writable above = absurd next
  stuck_by_place (Some (Live s o)) is next writable above =
      let e = lens s o is in
      subst (λ (k : ℕ). RoomAnswer f.known.setup f.number.0 (router_part f) n (Some k)) (sym e)
      (stuck_there f n batch s o is next writable (subst (λ (k : ℕ). 1044480 < k) e above))
  stuck_by_place (Some (Shadow away)) is next writable above = absurd next

  pub free_by_place : (place : Option Place) → place_at f.places.places n ≡ place → NextAt f.known.setup f.number.0 (router_part f) n place batch
      → len ≤ 1044480 → RoomAnswer f.known.setup f.number.0 (router_part f) n None
  free_by_place None is next room = absurd next
  free_by_place (Some (Live s o)) is next room = free_with_room f n batch s o is next (subst (λ (k : ℕ). k ≤ 1044480) (lens s o is) room)
  free_by_place (Some (Shadow away)) is next room = absurd next

-- ---- no room for the next update, or else for a KEEPALIVE

module _ (f : Fields) (n : ℕ) where
  no_room_stuck : (m : ℕ) → HasNoRoomAt f.known.setup f.number.0 (router_part f) n m → IsStuckAt f.known.setup f.number.0 (router_part f) n m
  no_room_stuck m x = record { session = x.session; errand = x.errand; live = x.live; stuck = inl x.stuck }

  pub some_stuck : (m : ℕ) → RoomAnswer f.known.setup f.number.0 (router_part f) n (Some m) → StuckAnswer f.known.setup f.number.0 (router_part f) n (Some m)
  some_stuck m x = no_room_stuck m x

  nothing_stuck : (m : ℕ) → place_at f.places.places n ≡ None → ¬ IsStuckAt f.known.setup f.number.0 (router_part f) n m
  nothing_stuck m is x = let e : model.Vacant ≡ model.Live x.session x.errand = sym (ap place_of is) ∙ x.live.is in absurd cc

  shadow_stuck : (m : ℕ) (away : GraftIds) → place_at f.places.places n ≡ Some (Shadow away) → ¬ IsStuckAt f.known.setup f.number.0 (router_part f) n m
  shadow_stuck m away is x = let e : model.Shadow away.graft ≡ model.Live x.session x.errand = sym (ap place_of is) ∙ x.live.is in absurd cc

  module _ (room : RoomAnswer f.known.setup f.number.0 (router_part f) n None) where
    has_room : (s : SessionValue) (o : Option model.Errand) → IsLive (router_part f) n s o → (m : ℕ) → ¬ IsStuck f.known.setup f.number.0 (router_part f) n s m
    has_room s o live m x = room m (record { session = s; errand = o; live = live; stuck = x })

    late_stuck : (s : RunningSession) (o : Option Errand) (m : ℕ) → place_at f.places.places n ≡ Some (Live s o) → IsStuckInTime s.session m
        → IsStuckAt f.known.setup f.number.0 (router_part f) n m
    late_stuck s o m is late =
        let live : IsLive (router_part f) n s.session (option_map errand_of o) = record { is = ap place_of is } in
        record { session = s.session; errand = option_map errand_of o; live = live; stuck = inr (has_room s.session (option_map errand_of o) live, late) }

    in_time : (s : RunningSession) (o : Option Errand) (m : ℕ) → place_at f.places.places n ≡ Some (Live s o)
        → IsStuckAt f.known.setup f.number.0 (router_part f) n m → IsStuckInTime s.session m
    in_time s o m is x = subst (λ (v : SessionValue). IsStuckInTime v m)
        (live_is x.session s.session x.errand (option_map errand_of o) (sym x.live.is ∙ ap place_of is))
        (elim x.stuck [ inl stuck ↦ absurd (has_room x.session x.errand x.live m stuck) | inr late ↦ late.1 ])

    pub late_by_place : (place : Option Place) → place_at f.places.places n ≡ place → (answer : Option ℕ) → TimeAnswer place answer
        → StuckAnswer f.known.setup f.number.0 (router_part f) n answer
    late_by_place None is None late = λ m. nothing_stuck m is
    late_by_place None is (Some k) late = absurd (let e : ⊥ = cc in e)
    late_by_place (Some (Live s o)) is None late = λ m x. late m (in_time s o m is x)
    late_by_place (Some (Live s o)) is (Some k) late = late_stuck s o k is late
    late_by_place (Some (Shadow away)) is None late = λ m. shadow_stuck m away is
    late_by_place (Some (Shadow away)) is (Some k) late = absurd (let e : ⊥ = cc in e)

-- one place more
pub none_more : (f : Fields) (n : ℕ) → ((p m : ℕ) → p < n → ¬ IsStuckAt f.known.setup f.number.0 (router_part f) p m)
    → StuckAnswer f.known.setup f.number.0 (router_part f) n None → (p m : ℕ) → p < n + 1 → ¬ IsStuckAt f.known.setup f.number.0 (router_part f) p m
none_more f n none here p m below x = elim (one_or_other n p) [
  | inl e ↦ here m (subst (λ (k : ℕ). IsStuckAt f.known.setup f.number.0 (router_part f) k m) e x)
  | inr not ↦ none p m (lower p below not) x
]
  where
    lower : (p : ℕ) → p < n + 1 → (p ≡ n → ⊥) → p < n
    lower p below not = elim (cases_lt p n) [ inl under ↦ under | inr from ↦ absurd (not (omega (arith, from, below))) ]

-- no session is stuck behind the last place
pub none_behind : (f : Fields) (n : ℕ) → ((p m : ℕ) → p < n → ¬ IsStuckAt f.known.setup f.number.0 (router_part f) p m) → length f.places.places ≤ n
    → (p m : ℕ) → ¬ IsStuckAt f.known.setup f.number.0 (router_part f) p m
none_behind f n none last p m x = elim (cases_lt p n) [
  | inl below ↦ none p m below x
  | inr from ↦ nothing_stuck f p m (place_at_end f.places.places p (omega (arith, from, last))) x
]
