-- The rows of a graft at its source.
use Rattle.std.proofs.Common.{◌≡◌, ◌≢◌, ℕ, ◌+◌, ◌<◌, ◌==◌, List, ◌∷◌, length, Bool, true, false, Option, Some, None, is_some, refl, sym, ap, ◌∙◌, subst}
use Rattle.std.specs.Prelude.{◌↔◌, IsTrue, if◌then◌else◌, not, slice_get, slice_set}
use Rattle.std.specs.Option.{option_flatten}
use Rattle.std.proofs.lemmas.Bool.{false≢true}
use Rattle.std.proofs.lemmas.Option.{none-some, same_Some}
use Rattle.std.specs.FinMap as map
use Rattle.bgp_types.specs.Tables.{prefix_cmp}
use Rattle.bgp_types.specs.declared.message.SessionState.{SessionState}
use Rattle.bgp_types.specs.declared.message.SessionState.TheVariants.{Closed, Established, OpenConfirm, OpenSent}
use Rattle.graft_edge.specs.declared.ids.RouterId.{RouterId}
use Rattle.graft_steps.specs.declared.item.Item.TheVariants as items
use Rattle.graft_steps.specs.declared.order.GraftIds.{GraftIds}
use Rattle.graft_steps.specs.declared.refusal.Outcome.TheVariants as outcomes
use Rattle.graft_steps.specs.declared.refusal.Refusal.{Refusal}
use Rattle.graft_steps.specs.declared.refusal.Refusal.TheVariants.{SameRouter}
use Rattle.graft_steps.specs.Refusals.{freeze_refusal, session_refusal}
use Rattle.bgp_session.specs.Running.{RunningSession, carried}
use Rattle.session_value.specs.Sessions.{SessionValue, hold_time, state}
use Rattle.session_value.specs.Sets.{Entries, Marks}
use Rattle.graft_model.specs.Parts as model
use Rattle.graft_model.specs.Points.{at}
use Rattle.graft_model.specs.RouterRows.{IsLive, MeshIn, MeshTo, OrderIn, ReportOut}
use Rattle.graft_model.specs.Setups.{Setup, peerings_in, routers_in}
use Rattle.graft_model.specs.declared.event.RouterEvent.TheVariants.{Admit, Clear, Freeze, Leave, Refuse, Return}
use Rattle.graft_actors.specs.Actors.{MeshItem, Operator, Router}
use Rattle.graft_actors.specs.Items.{IsOnItsWay, home_first, remote_first, thing_of}
use Rattle.router_tables.specs.Dues.{IsDueAgain}
use Rattle.router_tables.specs.Owned.{IsOfPeering}
use Rattle.audit_ruling.specs.Rulings.{Parcel, router_takes}
use Rattle.audit_ruling.specs.declared.ruling.Ruling.TheVariants.{Refused, Silent, Sends}
use Rattle.audit_tables.specs.Changes.{ChangesDue, ChangesEntries}
use Rattle.audit_tables.specs.Parts.{IsForgotten, due_at, entries_at, part_with}
use Rattle.audit_router.specs.Decides.{Decides, DecidesTaking}
use Rattle.audit_router.specs.Grafts.{IsFrozenAt, IsLiveAgain, IsRefusedAt, MayFreezeAt}
use Rattle.audit_router.specs.Nexts.{back_in, done_in, order_in}
use Rattle.audit_router.specs.Parts.{IsErrandOf, RouterInvariant, places_of, router_part, setup_of_router}
use Rattle.audit_router.specs.Places.{BeginsAs, place_at, place_of}
use Rattle.audit_router.specs.declared.place.Errand.{Errand}
use Rattle.audit_router.specs.declared.place.Errand.TheVariants.{Leaving}
use Rattle.audit_router.specs.declared.place.Place.{Place}
use Rattle.audit_router.specs.declared.place.Place.TheVariants.{Vacant, Live, Frozen, Shadow}
use Rattle.audit_router.specs.declared.router.AuditedRouter.{AuditedRouter}
use Rattle.audit_router.proofs.Inversions.{free_as, frozen_as, leaving_as, live_as, shadow_as}
use Rattle.audit_router.proofs.Kept as kept
use Rattle.audit_router.proofs.Parcels.{IsOrderOf, first_is, ordered_is, taken_is}
use Rattle.audit_router.proofs.LiveSessions.{live_here}
use Rattle.audit_router.proofs.Searching.{there_is}

-- ---- the order

-- a live session is without an errand if the errand is none
pub free_with : (place : Place) (s : RunningSession) (errand : Option Errand) → place ≡ Live s errand → (test : Bool) → is_some errand ≡ not test
    → IsTrue test ↔ ((x : RunningSession) × (place ≡ Live x None))
free_with place s None is true e = (λ yes. (s, is), λ free. refl)
free_with place s None is false e = absurd (false≢true e)
free_with place s (Some errand) is true e = absurd (false≢true (sym e))
free_with place s (Some errand) is false e = (
  λ yes. absurd (false≢true yes),
  λ free. let both : Live s (Some errand) ≡ Live free.0 None = sym is ∙ free.1 in absurd (let no : ⊥ = cc in no),
)

-- the session that a row names is live without an errand
pub free_here : (r : AuditedRouter) (p : ℕ) (session : SessionValue) → IsLive (router_part r) p session None
    → (s : RunningSession) × (place_at r.places.items p ≡ Live s None)
free_here r p session live =
    let own = live_as (place_at r.places.items p) session None live.is in
    (own.running, own.is ∙ ap (Live own.running) (free_as own.own own.errand_is))

module _ (r : AuditedRouter) (k : RouterInvariant r) (graft : ℕ) (channel : List Parcel) where
  -- the next item isn't an order that may be stored
  pub admit_nothing : ((peering target : ℕ) → order_in (slice_get channel 0) ≡ Some (record { graft = graft; peering = peering; target = target })
      → target < routers_in (setup_of_router r) → (session : SessionValue) → ¬ IsLive (router_part r) peering session None)
      → DecidesTaking (Admit graft) Operator r channel Refused r channel
  admit_nothing never = kept.refused_taking r k (Admit graft) Operator channel (λ item more first gave after row.
      let order = ordered_is (setup_of_router r) item (record { graft = graft; peering = row.peering; target = row.target }) row.takes in
      never row.peering row.target
      (ap order_in (first_is channel item more first) ∙ (ap (λ (x : Parcel). order_in (Some x)) order.is
      ∙ (λ i. Some (record { graft = graft; peering = order.peering_is i; target = order.target_is i })))) row.known row.session row.live)

  -- it is an order of another graft, or for a router or a session that isn't there
  pub admit_other : (order : model.GraftOrder) → order_in (slice_get channel 0) ≡ Some order
      → (order.graft ≡ graft → order.target < routers_in (setup_of_router r) → (session : SessionValue) → ¬ IsLive (router_part r) order.peering session None) → DecidesTaking (Admit graft) Operator r channel Refused r channel
  admit_other order next never = admit_nothing (λ peering target is.
      let own : model.GraftOrder = record { graft = graft; peering = peering; target = target } in
      let same : order ≡ own = same_Some order own (sym next ∙ is) in
      subst (λ (o : model.GraftOrder). o.target < routers_in (setup_of_router r) → (session : SessionValue)
      → ¬ IsLive (router_part r) o.peering session None) same (never (ap (λ (o : model.GraftOrder). o.graft) same)))

  module _ (order : model.GraftOrder) (rest : List Parcel) (item : Parcel) (first : channel ≡ item ∷ rest) (of : IsOrderOf item order)
      (own : order.graft ≡ graft) (target : order.target < routers_in (setup_of_router r)) (s : RunningSession) (is : place_at r.places.items order.peering ≡ Live s None)
      (known : order.peering < length r.places.items) (ids : GraftIds) (ids_graft : ids.graft ≡ graft) (ids_peering : ids.peering.0 ≡ order.peering)
      (ids_source : ids.source ≡ r.tables.number) (ids_target : ids.target.0 ≡ order.target)
      (u : AuditedRouter) (places : u.places.items ≡ slice_set r.places.items order.peering (Live s (Some (Leaving ids))))
      (tables : u.tables ≡ r.tables) (alike : kept.IsAlike r u) where
    errand_is : IsErrandOf (setup_of_router r) r.tables.number.0 order.peering (Some (Leaving ids))
    errand_is = record {
      peering = ids_peering;
      source = ap (λ x. x.0) ids_source;
      target = subst (λ n. n < routers_in (setup_of_router r)) (sym ids_target) target;
    }

    pub admits : DecidesTaking (Admit graft) Operator r channel Silent u rest
    admits =
        let own_place = kept.keeps_here r k order.peering (Live s None) is in
        kept.silent_taking r k (Admit graft) Operator channel u
        (kept.keeps_placed r u order.peering known (Live s (Some (Leaving ids))) places k tables alike (own_place.0, errand_is, own_place.2)) item rest first
        (record {
          peering = order.peering;
          target = order.target;
          takes = ap (λ (x : Parcel). router_takes Operator (thing_of carried (setup_of_router r) x)) of.is
              ∙ (λ i. Some (OrderIn (record { graft = own i; peering = of.peering_is i; target = of.target_is i })));
          sends = refl;
          known = target;
          session = s.session;
          live = live_here r order.peering s None is;
          effect = kept.part_is r u order.peering known (Live s (Some (Leaving ids))) places k tables alike
              ∙ (λ i. record (router_part r) {
                places = at (router_part r).places order.peering
                    (model.Live s.session (Some (model.Leaving (record { graft = ids_graft i; target = ids_target i }))));
              });
        })

-- ---- it is refused, or begins

-- a session that isn't refused is established
pub unrefused : (source target : RouterId) (from : SessionState) (hold : ℕ) → freeze_refusal source target from hold ≡ None → from ≡ Established
unrefused source target from hold none = by_router (target.0 == source.0) from none
  where
    by_router : (b : Bool) (from : SessionState) → (if b then Some SameRouter else session_refusal from hold) ≡ None → from ≡ Established
    by_router true from e = absurd (let no : ⊥ = cc in no)
    by_router false OpenSent e = absurd (let no : ⊥ = cc in no)
    by_router false OpenConfirm e = absurd (let no : ⊥ = cc in no)
    by_router false Established e = refl
    by_router false Closed e = absurd (let no : ⊥ = cc in no)

-- which answer it is that there is a reason, or none
pub flat_is : (answer : Option (Option Refusal)) (refusal : Refusal) → Some refusal ≡ option_flatten answer → answer ≡ Some (Some refusal)
flat_is None refusal e = absurd (none-some refusal (sym e))
flat_is (Some cause) refusal e = ap Some (sym e)

-- the reason that was found is the one for the graft that is stored
pub begins_with : (graft : ℕ) (place : Place) (s : RunningSession) (ids : GraftIds) → place ≡ Live s (Some (Leaving ids)) → ids.graft ≡ graft
    → (answer : Option Refusal) → answer ≡ freeze_refusal ids.source ids.target (state s.session) (hold_time s.session) → (refusal : Option Refusal)
    → (Some answer ≡ Some refusal) ↔ BeginsAs graft place refusal
begins_with graft place s ids is graft_is answer cause refusal = (
  λ same. record {
    session = s;
    ids = ids;
    stored = record { is = is; graft = graft_is };
    cause = sym cause ∙ same_Some answer refusal same;
  },
  λ begins.
      let both : Live s (Some (Leaving ids)) ≡ Live begins.session (Some (Leaving begins.ids)) = sym is ∙ begins.stored.is in
      let session : s ≡ begins.session = cc in
      let order : ids ≡ begins.ids = cc in
      ap Some (cause ∙ ((λ i. freeze_refusal (order i).source (order i).target (state (session i).session) (hold_time (session i).session)) ∙ begins.cause)),
)

-- what a row says of a graft that is stored
begins_as : (r : AuditedRouter) → RouterInvariant r → (graft p target : ℕ) (session : SessionValue)
    → IsLive (router_part r) p session (Some (model.Leaving (record { graft = graft; target = target }))) → (refusal : Option Refusal)
    → freeze_refusal r.tables.number (record { 0 = target }) (state session) (hold_time session) ≡ refusal
    → BeginsAs graft (place_at r.places.items p) refusal
begins_as r k graft p target session live refusal cause =
    let own = live_as (place_at r.places.items p) session (Some (model.Leaving (record { graft = graft; target = target }))) live.is in
    let errand = leaving_as own.own (record { graft = graft; target = target }) own.errand_is in
    let is : place_at r.places.items p ≡ Live own.running (Some (Leaving errand.0)) = own.is ∙ ap (Live own.running) errand.1 in
    let source = (kept.keeps_here r k p (Live own.running (Some (Leaving errand.0))) is).1.source in
    record {
      session = own.running;
      ids = errand.0;
      stored = record { is = is; graft = ap (λ (o : model.Order). o.graft) errand.2 };
      cause = (λ i. freeze_refusal (record { 0 = source i }) (record { 0 = (ap (λ (o : model.Order). o.target) errand.2) i }) (state (own.session i))
          (hold_time (own.session i))) ∙ cause;
    }

-- the place where it is stored is there
pub begins_there : (r : AuditedRouter) (graft p : ℕ) (refusal : Option Refusal) → BeginsAs graft (place_at r.places.items p) refusal → p < length r.places.items
begins_there r graft p refusal begins = let is = begins.stored.is in there_is r.places.items p (λ vacant. let no : ⊥ = cc in no)

module _ (r : AuditedRouter) (k : RouterInvariant r) (graft : ℕ) where
  pub refuse_nothing : ((p : ℕ) (refusal : Refusal) → ¬ IsRefusedAt r graft p refusal) → Decides (Refuse graft) r Refused r
  refuse_nothing none = kept.refused r k (Refuse graft) (λ gave after row. none row.peering row.refusal
      (begins_as r k graft row.peering row.target row.session row.live (Some row.refusal) row.cause))

  pub freeze_nothing : ((p : ℕ) → ¬ MayFreezeAt r graft p) → Decides (Freeze graft) r Refused r
  freeze_nothing none = kept.refused r k (Freeze graft) (λ gave after row. none row.peering
      (begins_as r k graft row.peering row.target row.session row.live None row.no_cause))

  module _ (p : ℕ) (known : p < length r.places.items) (u : AuditedRouter) (tables : u.tables ≡ r.tables) (alike : kept.IsAlike r u) where
    module _ (refusal : Option Refusal) (begins : BeginsAs graft (place_at r.places.items p) refusal) where
      own : kept.KeepsPlaceIn r.tables p (Live begins.session (Some (Leaving begins.ids)))
      own = kept.keeps_here r k p (Live begins.session (Some (Leaving begins.ids))) begins.stored.is

      -- the session, and its errand as the model has it
      live_is : IsLive (router_part r) p begins.session.session (Some (model.Leaving (record { graft = graft; target = begins.ids.target.0 })))
      live_is = record {
        is = ap place_of begins.stored.is
            ∙ (λ i. model.Live begins.session.session (Some (model.Leaving (record { graft = begins.stored.graft i; target = begins.ids.target.0 }))));
      }

      cause_here : freeze_refusal r.tables.number begins.ids.target (state begins.session.session) (hold_time begins.session.session) ≡ refusal
      cause_here = (λ i. freeze_refusal (record { 0 = sym own.1.source i }) begins.ids.target (state begins.session.session)
          (hold_time begins.session.session)) ∙ begins.cause

    pub refuses : (refusal : Refusal) (begins : IsRefusedAt r graft p refusal)
        → u.places.items ≡ slice_set r.places.items p (Live begins.session None) → (to : ℕ)
        → to ≡ routers_in (setup_of_router r) + peerings_in (setup_of_router r)
        → Decides (Refuse graft) r (Sends to (items.Report graft (outcomes.Refused refusal))) u
    refuses refusal begins places to number = kept.sends r k (Refuse graft) u
        (kept.keeps_placed r u p known (Live begins.session None) places k tables alike ((own (Some refusal) begins).0, tt, (own (Some refusal) begins).2))
        to (items.Report graft (outcomes.Refused refusal)) (ReportOut (record { graft = graft; outcome = outcomes.Refused refusal }))
        (record {
          peering = p;
          target = begins.ids.target.0;
          session = begins.session.session;
          live = live_is (Some refusal) begins;
          refusal = refusal;
          cause = cause_here (Some refusal) begins;
          takes = refl;
          sends = refl;
          effect = kept.part_is r u p known (Live begins.session None) places k tables alike;
        })
        (λ i. (number i, thing_of carried (setup_of_router r) (items.Report graft (outcomes.Refused refusal)))) tt tt

    pub freezes : (begins : MayFreezeAt r graft p) → u.places.items ≡ slice_set r.places.items p (Frozen begins.session begins.ids)
        → Decides (Freeze graft) r Silent u
    freezes begins places = kept.silent r k (Freeze graft) u
        (kept.keeps_placed r u p known (Frozen begins.session begins.ids) places k tables alike (
          (own None begins).0,
          (own None begins).1,
          unrefused begins.ids.source begins.ids.target (state begins.session.session) (hold_time begins.session.session) begins.cause,
        ))
        (record {
          alone = (refl, refl);
          peering = p;
          target = begins.ids.target.0;
          session = begins.session.session;
          live = live_is None begins;
          no_cause = cause_here None begins;
          effect = kept.part_is r u p known (Frozen begins.session begins.ids) places k tables alike
              ∙ (λ i. record (router_part r) {
                places = at (router_part r).places p
                    (model.Frozen begins.session.session (record { graft = begins.stored.graft i; target = begins.ids.target.0 }));
              });
        })

-- ---- it leaves

pub frozen_there : (r : AuditedRouter) (graft p : ℕ) → IsFrozenAt r graft p → p < length r.places.items
frozen_there r graft p frozen = let is = frozen.is in there_is r.places.items p (λ vacant. let no : ⊥ = cc in no)

module _ (r : AuditedRouter) (k : RouterInvariant r) (graft : ℕ) where
  pub leave_nothing : ((p : ℕ) → ¬ IsFrozenAt r graft p) → Decides (Leave graft) r Refused r
  leave_nothing none = kept.refused r k (Leave graft) (λ gave after row.
      let own = frozen_as (place_at r.places.items row.peering) row.session (record { graft = graft; target = row.target }) row.frozen in
      none row.peering (record { session = own.running; ids = own.ids; is = own.is; graft = ap (λ (o : model.Order). o.graft) own.order_is }))

  module _ (p : ℕ) (known : p < length r.places.items) (s : RunningSession) (ids : GraftIds) (is : place_at r.places.items p ≡ Frozen s ids)
      (graft_is : ids.graft ≡ graft) (u : AuditedRouter) (places : u.places.items ≡ slice_set r.places.items p (Shadow graft)) (alike : kept.IsAlike r u)
      (changes : ChangesDue p r.tables u.tables) (cleared : due_at u.tables p ≡ map.empty) where
    own_frozen : kept.KeepsPlaceIn r.tables p (Frozen s ids)
    own_frozen = kept.keeps_here r k p (Frozen s ids) is

    leaves_now : Decides (Leave graft) r (Sends ids.target.0 (items.Moved graft s)) u
    leaves_now = kept.sends r k (Leave graft) u
        (kept.keeps_then r u k alike (kept.as_many r u p known (Shadow graft) places) changes.keeps
        (kept.each_place r u p known (Shadow graft) places tt
        (λ q not. kept.stays_by_due p r.tables u.tables changes q not (place_at r.places.items q) (kept.keeps_at r k q))))
        ids.target.0 (items.Moved graft s) (MeshTo ids.target.0 (model.Moved graft p s.session))
        (record {
          peering = p;
          target = ids.target.0;
          session = s.session;
          frozen = ap place_of is ∙ (λ i. model.Frozen s.session (record { graft = graft_is i; target = ids.target.0 }));
          takes = refl;
          sends = refl;
          effect = changes.effect (places_of u) ∙ (λ i. record (part_with (kept.places_are r u p known (Shadow graft) places i) r.tables) {
            due_out = at (router_part r).due_out p (cleared i);
          });
        })
        (λ i. (ids.target.0, MeshItem (model.Moved graft (own_frozen.0.peering i) s.session)))
        own_frozen.1.target
        (record {
          established = own_frozen.2;
          sends = own_frozen.0.sends ∙ ap (home_first (setup_of_router r)) (sym own_frozen.0.peering);
          receives = own_frozen.0.receives ∙ ap (remote_first (setup_of_router r)) (sym own_frozen.0.peering);
        })

    pub leaves : (to : ℕ) (sent : RunningSession) → to ≡ ids.target.0 → sent ≡ s → Decides (Leave graft) r (Sends to (items.Moved graft sent)) u
    leaves to sent to_is sent_is = subst (λ (x : ℕ × RunningSession). Decides (Leave graft) r (Sends x.0 (items.Moved graft x.1)) u)
        (λ i. (sym to_is i, sym sent_is i)) leaves_now

-- ---- it comes back, or has landed

-- a session that is on its way is its peering's
pub of_way : (setup : Setup) (session : SessionValue) → IsOnItsWay setup session → IsOfPeering setup session.config.peering.0 session
of_way setup session way = record { peering = refl; sends = way.sends; receives = way.receives }

module _ (r : AuditedRouter) (k : RouterInvariant r) (p : ℕ) (known : p < length r.places.items) (s : RunningSession)
    (of : IsOfPeering (setup_of_router r) p s.session) (u : AuditedRouter) (places : u.places.items ≡ slice_set r.places.items p (Live s None))
    (alike : kept.IsAlike r u) (changes : ChangesDue p r.tables u.tables) (forgets : IsForgotten p u.tables)
    (due : IsDueAgain s.session.adj_rib_out r.tables.rib.best (due_at u.tables p)) where
  pub lives_again : IsLiveAgain p s r u
  lives_again = record {
    due = record { members = due.members };
    effect = changes.effect (places_of u) ∙ (λ i. record (part_with (kept.places_are r u p known (Live s None) places i) r.tables) {
      due_out = at (router_part r).due_out p (due_at u.tables p);
    });
    keeps = kept.keeps_then r u k alike (kept.as_many r u p known (Live s None) places) changes.keeps
        (kept.each_place r u p known (Live s None) places
        (subst (λ (setup : Setup). IsOfPeering setup p s.session) (sym changes.keeps.setup) of, tt, λ found is. absurd (forgets found is))
        (λ q not. kept.stays_by_due p r.tables u.tables changes q not (place_at r.places.items q) (kept.keeps_at r k q)));
  }

-- a shadow that isn't there isn't found
pub not_away : (r : AuditedRouter) (mine p : ℕ) → IsTrue false ↔ (place_at r.places.items p ≡ Shadow mine) → (graft q : ℕ)
    → ◌≡◌ {A = ℕ × ℕ} (mine, p) (graft, q) → (router_part r).places q ≢ model.Shadow graft
not_away r mine p away graft q same shadow =
    let is : place_at r.places.items q ≡ Shadow graft = shadow_as (place_at r.places.items q) graft shadow in
    false≢true (away.1 (subst (λ (x : ℕ × ℕ). place_at r.places.items x.1 ≡ Shadow x.0) (sym same) is))

module _ (r : AuditedRouter) (k : RouterInvariant r) (q : ℕ) (channel : List Parcel) where
  pub return_nothing : ((graft p : ℕ) → back_in (slice_get channel 0) ≡ Some (graft, p) → (router_part r).places p ≢ model.Shadow graft)
      → DecidesTaking (Return q) (Router q) r channel Refused r channel
  return_nothing never = kept.refused_taking r k (Return q) (Router q) channel (λ item more first gave after row.
      let parcel = taken_is (setup_of_router r) q item q (model.Back row.graft row.peering row.session row.refusal) row.takes in
      never row.graft row.peering (ap back_in (first_is channel item more first)
      ∙ (ap (λ (x : Parcel). back_in (Some x)) parcel.1 ∙ (λ i. Some (row.graft, parcel.2 i)))) row.shadow)

  pub clear_nothing : ((graft p : ℕ) → done_in (slice_get channel 0) ≡ Some (graft, p) → (router_part r).places p ≢ model.Shadow graft)
      → DecidesTaking (Clear q) (Router q) r channel Refused r channel
  clear_nothing never = kept.refused_taking r k (Clear q) (Router q) channel (λ item more first gave after row.
      let parcel = taken_is (setup_of_router r) q item q (model.Done row.graft row.peering) row.takes in
      never row.graft row.peering (ap done_in (first_is channel item more first)
      ∙ (ap (λ (x : Parcel). done_in (Some x)) parcel.1 ∙ (λ i. Some (row.graft, parcel.2 i)))) row.shadow)

  pub returns_back : (graft : ℕ) (s : RunningSession) (refusal : Refusal) (rest : List Parcel) → channel ≡ items.Back graft s refusal ∷ rest
      → (router_part r).places s.session.config.peering.0 ≡ model.Shadow graft → (u : AuditedRouter)
      → IsLiveAgain s.session.config.peering.0 s r u → (to : ℕ) → to ≡ routers_in (setup_of_router r) + peerings_in (setup_of_router r)
      → DecidesTaking (Return q) (Router q) r channel (Sends to (items.Report graft (outcomes.Refused refusal))) u rest
  returns_back graft s refusal rest first shadow u again to number =
      kept.sends_taking r k (Return q) (Router q) channel u again.keeps (items.Back graft s refusal) rest first to
      (items.Report graft (outcomes.Refused refusal)) (ReportOut (record { graft = graft; outcome = outcomes.Refused refusal }))
      (record {
        graft = graft;
        peering = s.session.config.peering.0;
        session = s.session;
        refusal = refusal;
        takes = refl;
        shadow = shadow;
        sends = refl;
        due = again.due;
        effect = again.effect;
      })
      (λ i. (number i, thing_of carried (setup_of_router r) (items.Report graft (outcomes.Refused refusal)))) tt tt

  module _ (graft p : ℕ) (item : Parcel) (rest : List Parcel) (first : channel ≡ item ∷ rest) (done : done_in (Some item) ≡ Some (graft, p))
      (shadow : (router_part r).places p ≡ model.Shadow graft) (known : p < length r.places.items) (u : AuditedRouter)
      (places : u.places.items ≡ slice_set r.places.items p Vacant) (alike : kept.IsAlike r u) (changes : ChangesEntries p r.tables u.tables)
      (none : entries_at u.tables p ≡ map.empty) (dirty : Marks r.tables.rib.dirty (entries_at r.tables p) map.empty u.tables.rib.dirty) where
    pub clears : (taken : router_takes (Router q) (thing_of carried (setup_of_router r) item)
        ≡ Some (MeshIn q (model.Done graft p)))
        → (to : ℕ) → to ≡ routers_in (setup_of_router r) + peerings_in (setup_of_router r)
        → DecidesTaking (Clear q) (Router q) r channel (Sends to (items.Report graft outcomes.Accepted)) u rest
    clears taken to number = kept.sends_taking r k (Clear q) (Router q) channel u
        (kept.keeps_then r u k alike (kept.as_many r u p known Vacant places) changes.keeps
        (kept.each_place r u p known Vacant places (λ x. ap (λ (es : Entries). is_some (map.get es x)) none ∙ ap is_some (map.get-empty prefix_cmp x))
        (λ n not. kept.stays_by_entries p r.tables u.tables changes n not (place_at r.places.items n) (kept.keeps_at r k n))))
        item rest first to (items.Report graft outcomes.Accepted) (ReportOut (record { graft = graft; outcome = outcomes.Accepted }))
        (record {
          graft = graft;
          peering = p;
          takes = taken;
          shadow = shadow;
          sends = refl;
          dirty = dirty;
          effect = changes.effect (places_of u) ∙ (λ i. record (part_with (kept.places_are r u p known Vacant places i) r.tables) {
            entries = at (router_part r).entries p (none i);
            dirty = u.tables.rib.dirty;
          });
        })
        (λ i. (number i, thing_of carried (setup_of_router r) (items.Report graft outcomes.Accepted))) tt tt
