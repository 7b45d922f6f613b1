-- The rows of a graft at its target, and of the routers that it asks.
use Rattle.std.proofs.Common.{◌≡◌, ℕ, suc, ◌+◌, ◌<◌, List, ◌∷◌, length, Bool, Option, Some, None, true, false, ◌==◌, ◌||◌, is_some}
use Rattle.std.proofs.Common.{◌⊎◌, inl, inr, refl, sym, ap, ◌∙◌, subst, arith}
use Rattle.std.specs.Prelude.{◌↔◌, slice_get, slice_set}
use Rattle.std.specs.Option.{option_flatten}
use Rattle.std.specs.FinMap as map
use Rattle.bgp_types.specs.Prefixes.{PrefixValue}
use Rattle.graft_edge.specs.declared.ids.PeeringId.{PeeringId}
use Rattle.graft_steps.specs.Landings.{AreAllAsked, IsNextToAsk, Landing}
use Rattle.graft_steps.specs.Refusals.{admit_refusal}
use Rattle.session_value.specs.declared.config.SessionConfig.{SessionConfig}
use Rattle.graft_steps.specs.declared.item.Item.TheVariants as items
use Rattle.graft_steps.specs.declared.refusal.Refusal.{Refusal}
use Rattle.bgp_session.specs.Running.{RunningSession, carried}
use Rattle.session_value.specs.Sessions.{SessionValue}
use Rattle.session_value.specs.Sets.{BestRoutes, Entries, Marks, Prefixes, has}
use Rattle.rib_stages.specs.Values.{rib_of, table_at}
use Rattle.graft_model.specs.GraftRows.{Comes, Counts, Ignores, refusal_of, taken_in}
use Rattle.graft_model.specs.Parts as model
use Rattle.graft_model.specs.Points.{at}
use Rattle.graft_model.specs.RouterRows.{BringsIn, IsLive, MeshIn, MeshTo, OutwardTo, RouterSent}
use Rattle.graft_model.specs.Setups.{Setup, missing_policy, peerings_in, room_of, routers_in}
use Rattle.graft_model.specs.declared.event.RouterEvent.TheVariants.{Answer, Ask, Collect, Confirm, Land, TurnBack}
use Rattle.graft_actors.specs.Actors.{MeshItem, OutwardItem, Router}
use Rattle.graft_actors.specs.Items.{IsOnItsWay, thing_of}
use Rattle.router_tables.specs.Dues.{IsDueAgain}
use Rattle.router_tables.specs.Entering.{entry_here}
use Rattle.router_tables.specs.Owned.{HasNoEntry, IsLandingOf, IsOfPeering}
use Rattle.router_tables.proofs.EnterSteps.{brings_all}
use Rattle.audit_ruling.specs.Rulings.{Parcel, router_takes}
use Rattle.audit_ruling.specs.declared.ruling.Ruling.TheVariants.{Refused, Silent, Sends}
use Rattle.audit_tables.specs.Changes.{ChangesDue, EntersHere, KeepsTables}
use Rattle.audit_tables.specs.Parts.{IsForgotten, due_at, entries_at, part_with}
use Rattle.audit_tables.specs.declared.tables.Tables.{Tables}
use Rattle.audit_router.specs.Decides.{Decides, DecidesTaking, KeepsRouter}
use Rattle.audit_router.specs.Grafts.{AsksNextAt, MayConfirmAt}
use Rattle.audit_router.specs.Landed.{ComesTo, SettlesIn}
use Rattle.audit_router.specs.Nexts.{answered_in, asked_in, coming_in}
use Rattle.audit_router.specs.Parts.{RouterInvariant, places_of, router_part, setup_of_router}
use Rattle.audit_router.specs.Places.{HearsAnswer, place_at, place_of}
use Rattle.audit_router.specs.declared.place.Errand.TheVariants.{Asking, Owing}
use Rattle.audit_router.specs.declared.place.Place.{Place}
use Rattle.audit_router.specs.declared.place.Place.TheVariants.{Vacant, Live}
use Rattle.audit_router.specs.declared.router.AuditedRouter.{AuditedRouter}
use Rattle.std.proofs.lemmas.Bool.{eq-eqb, eqb-true, false≢true}
use Rattle.std.proofs.lemmas.Option.{none-some, same_Some}
use Rattle.audit_router.proofs.AtSource.{flat_is}
use Rattle.audit_router.proofs.Firsts.{IsMovedFirst}
use Rattle.audit_router.proofs.Inversions.{asking_as, live_as, owing_as, vacant_as}
use Rattle.audit_router.proofs.Kept as kept
use Rattle.audit_router.proofs.Parcels.{first_is, taken_is}
use Rattle.audit_router.proofs.Searching.{there_is}

-- ---- a session comes

-- what the row says of the session that comes
comes_as : (r : AuditedRouter) (q : ℕ) (item : Parcel) (more : List Parcel) (channel : List Parcel) → channel ≡ item ∷ more
    → (c : Comes (setup_of_router r) q (router_part r) (router_takes (Router q) (thing_of carried (setup_of_router r) item)))
    → (refusal : Option Refusal) → refusal_of (setup_of_router r) r.tables.number.0 (router_part r) c.session ≡ refusal → ComesTo r channel refusal
comes_as r q item more channel first c refusal refused =
    let parcel = taken_is (setup_of_router r) q item q (model.Moved c.graft c.peering c.session) c.takes in
    record {
      graft = c.graft;
      session = parcel.0;
      rest = more;
      is = first ∙ ap (λ (x : Parcel). x ∷ more) parcel.1;
      known = subst (λ n. n < peerings_in (setup_of_router r)) (sym parcel.2) c.known;
      vacant = subst (λ n. (router_part r).places n ≡ model.Vacant) (sym parcel.2) c.vacant;
      refused = subst (λ (s : SessionValue). refusal_of (setup_of_router r) r.tables.number.0 (router_part r) s ≡ refusal) (sym parcel.3) refused;
    }

module _ (r : AuditedRouter) (channel : List Parcel) (config : SessionConfig) where
  -- its place is vacant, and this is why it isn't taken in
  pub comes_here : IsMovedFirst channel config → config.peering.0 < peerings_in (setup_of_router r) → place_at r.places.items config.peering.0 ≡ Vacant
      → (refusal : Option Refusal) → refusal ≡ admit_refusal (taken_in (setup_of_router r) (router_part r)) (room_of (setup_of_router r) r.tables.number.0)
      (missing_policy (setup_of_router r) r.tables.number.0 config) → ComesTo r channel refusal
  comes_here moved known vacant refusal cause = record {
    graft = moved.graft;
    session = moved.session;
    rest = moved.rest;
    is = moved.is;
    known = subst (λ (c : SessionConfig). c.peering.0 < peerings_in (setup_of_router r)) (sym moved.config_is) known;
    vacant = ap place_of (ap (λ (c : SessionConfig). place_at r.places.items c.peering.0) moved.config_is ∙ vacant);
    refused = ap (λ (c : SessionConfig). admit_refusal (taken_in (setup_of_router r) (router_part r)) (room_of (setup_of_router r) r.tables.number.0)
        (missing_policy (setup_of_router r) r.tables.number.0 c)) moved.config_is ∙ sym cause;
  }

  -- its place isn't vacant
  pub comes_not : RouterInvariant r → coming_in (slice_get channel 0) ≡ Some config
      → ¬ ((config.peering.0 < length r.places.items) × (place_at r.places.items config.peering.0 ≡ Vacant))
      → (refusal : Option Refusal) → ¬ ComesTo r channel refusal
  comes_not k is taken refusal comes =
      let same : config ≡ comes.session.session.config =
      same_Some config comes.session.session.config (sym is ∙ ap (λ (xs : List Parcel). coming_in (slice_get xs 0)) comes.is) in
      let known : comes.session.session.config.peering.0 < length r.places.items = omega (arith, comes.known, k.all) in
      taken (
        subst (λ (c : SessionConfig). c.peering.0 < length r.places.items) (sym same) known,
        ap (λ (c : SessionConfig). place_at r.places.items c.peering.0) same
            ∙ vacant_as (place_at r.places.items comes.session.session.config.peering.0) comes.vacant,
      )

pub admitted_is : (refusal : Option Refusal) → false ≡ is_some refusal → refusal ≡ None
admitted_is None e = refl
admitted_is (Some refusal) e = absurd (false≢true e)

-- what is said of the session that is taken out
pub record IsComing (r : AuditedRouter) (s : SessionValue) (refusal : Option Refusal) : Type 0 where
  pub known : s.config.peering.0 < peerings_in (setup_of_router r)
  pub vacant : (router_part r).places s.config.peering.0 ≡ model.Vacant
  pub refused : refusal_of (setup_of_router r) r.tables.number.0 (router_part r) s ≡ refusal

pub coming_is : (r : AuditedRouter) (channel rest : List Parcel) (graft : ℕ) (s : RunningSession) (refusal : Option Refusal) → ComesTo r channel refusal
    → channel ≡ items.Moved graft s ∷ rest → IsComing r s.session refusal
coming_is r channel rest graft s refusal comes first =
    let twice : items.Moved comes.graft comes.session ∷ comes.rest ≡ items.Moved graft s ∷ rest = sym comes.is ∙ first in
    let same : comes.session ≡ s = cc in
    subst (λ (x : RunningSession). IsComing r x.session refusal) same
    (record { known = comes.known; vacant = comes.vacant; refused = comes.refused })

-- of one that isn't refused
pub landing_is : (r : AuditedRouter) (channel rest : List Parcel) (graft : ℕ) (s : RunningSession) (answer : Option (Option Refusal)) (refusal : Option Refusal)
    → ((x : Option Refusal) → (answer ≡ Some x) ↔ ComesTo r channel x) → answer ≡ Some refusal → false ≡ is_some refusal
    → channel ≡ items.Moved graft s ∷ rest → IsComing r s.session None
landing_is r channel rest graft s answer refusal exact is admitted first =
    coming_is r channel rest graft s None ((exact None).0 (is ∙ ap Some (admitted_is refusal admitted))) first

-- and of one that is
pub turning_is : (r : AuditedRouter) (channel rest : List Parcel) (graft : ℕ) (s : RunningSession) (answer : Option (Option Refusal)) (refusal : Refusal)
    → ((x : Option Refusal) → (answer ≡ Some x) ↔ ComesTo r channel x) → Some refusal ≡ option_flatten answer
    → channel ≡ items.Moved graft s ∷ rest → IsComing r s.session (Some refusal)
turning_is r channel rest graft s answer refusal exact is first =
    coming_is r channel rest graft s (Some refusal) ((exact (Some refusal)).0 (flat_is answer refusal is)) first

-- none comes
pub nothing_comes : (r : AuditedRouter) (channel : List Parcel) → coming_in (slice_get channel 0) ≡ None → (refusal : Option Refusal)
    → ¬ ComesTo r channel refusal
nothing_comes r channel none refusal comes =
    none-some comes.session.session.config (sym none ∙ ap (λ (xs : List Parcel). coming_in (slice_get xs 0)) comes.is)

module _ (r : AuditedRouter) (k : RouterInvariant r) (q : ℕ) (channel : List Parcel) where
  pub land_nothing : ¬ ComesTo r channel None → DecidesTaking (Land q) (Router q) r channel Refused r channel
  land_nothing none = kept.refused_taking r k (Land q) (Router q) channel (λ item more first gave after row.
      none (comes_as r q item more channel first row.comes None row.admitted))

  pub turn_nothing : ((refusal : Refusal) → ¬ ComesTo r channel (Some refusal)) → DecidesTaking (TurnBack q) (Router q) r channel Refused r channel
  turn_nothing none = kept.refused_taking r k (TurnBack q) (Router q) channel (λ item more first gave after row.
      none row.refusal (comes_as r q item more channel first row.comes (Some row.refusal) row.cause))

  -- a session that comes refused or not, but not both
  pub one_answer : (one other : Option Refusal) → ComesTo r channel one → ComesTo r channel other → one ≡ other
  one_answer one other a b =
      let heads : items.Moved a.graft a.session ≡ items.Moved b.graft b.session = first_of (sym a.is ∙ b.is) in
      sym a.refused ∙ (ap (λ (s : RunningSession). refusal_of (setup_of_router r) r.tables.number.0 (router_part r) s.session)
      (ap (session_of a.session) heads) ∙ b.refused)
    where
      first_of : {x y : Parcel} {xs ys : List Parcel} → x ∷ xs ≡ y ∷ ys → x ≡ y
      first_of e = cc

      session_of : RunningSession → Parcel → RunningSession
      session_of other (items.Moved graft s) = s
      session_of other item = other

  abbrev comes_row : (graft : ℕ) (s : RunningSession) (rest : List Parcel) → channel ≡ items.Moved graft s ∷ rest
      → s.session.config.peering.0 < peerings_in (setup_of_router r) → (router_part r).places s.session.config.peering.0 ≡ model.Vacant
      → Comes (setup_of_router r) q (router_part r) (router_takes (Router q) (thing_of carried (setup_of_router r) (items.Moved graft s)))
  comes_row graft s rest first known vacant =
      record { graft = graft; peering = s.session.config.peering.0; session = s.session; takes = refl; known = known; vacant = vacant }

  module _ (graft : ℕ) (s : RunningSession) (rest : List Parcel) (first : channel ≡ items.Moved graft s ∷ rest)
      (known : s.session.config.peering.0 < peerings_in (setup_of_router r)) (vacant : (router_part r).places s.session.config.peering.0 ≡ model.Vacant) where
    pub lands : refusal_of (setup_of_router r) r.tables.number.0 (router_part r) s.session ≡ None → (u : AuditedRouter) → SettlesIn q graft s r u → (to : ℕ)
        → to ≡ routers_in (setup_of_router r) + s.session.config.peering.0
        → DecidesTaking (Land q) (Router q) r channel (Sends to (items.PointAt graft)) u rest
    lands admitted u settles to number =
        kept.sends_taking r k (Land q) (Router q) channel u settles.keeps (items.Moved graft s) rest first to (items.PointAt graft)
        (OutwardTo s.session.config.peering.0 (model.PointAt graft))
        (record {
          comes = comes_row graft s rest first known vacant;
          admitted = admitted;
          sends = refl;
          entries = subst (λ (es : Entries). BringsIn (setup_of_router r) r.tables.number.0 s.session es)
              (sym (entries_then u settles)) settles.entries;
          dirty = subst (λ (es : Entries). Marks (router_part r).dirty (entries_at r.tables s.session.config.peering.0) es (router_part u).dirty)
              (sym (entries_then u settles)) settles.dirty;
          due = settles.due;
          effect = settles.effect;
        })
        (λ i. (number i, OutwardItem (model.PointAt graft))) known tt
      where
        entries_then : (u : AuditedRouter) → SettlesIn q graft s r u
            → (router_part u).entries s.session.config.peering.0 ≡ entries_at u.tables s.session.config.peering.0
        entries_then u settles = refl

    pub turns : (refusal : Refusal) → refusal_of (setup_of_router r) r.tables.number.0 (router_part r) s.session ≡ Some refusal
        → IsOnItsWay (setup_of_router r) s.session → q < routers_in (setup_of_router r) → (to : ℕ) → to ≡ q
        → DecidesTaking (TurnBack q) (Router q) r channel (Sends to (items.Back graft s refusal)) r rest
    turns refusal cause way there to to_is =
        kept.sends_taking r k (TurnBack q) (Router q) channel r (kept.keeps_itself r k) (items.Moved graft s) rest first to (items.Back graft s refusal)
        (MeshTo q (model.Back graft s.session.config.peering.0 s.session refusal))
        (record { comes = comes_row graft s rest first known vacant; refusal = refusal; cause = cause; sends = refl; stays = refl })
        (λ i. (to_is i, thing_of carried (setup_of_router r) (items.Back graft s refusal))) there way

-- ---- it settles in

module _ (r : AuditedRouter) (k : RouterInvariant r) (q graft : ℕ) (s : RunningSession) (landing : Landing) (q_known : q < routers_in (setup_of_router r))
    (known : s.session.config.peering.0 < length r.places.items) (vacant : (router_part r).places s.session.config.peering.0 ≡ model.Vacant)
    (of : IsOfPeering (setup_of_router r) s.session.config.peering.0 s.session)
    (ids_graft : landing.ids.graft ≡ graft) (ids_peering : landing.ids.peering.0 ≡ s.session.config.peering.0) (ids_source : landing.ids.source.0 ≡ q)
    (ids_target : landing.ids.target ≡ r.tables.number) (next : landing.next ≡ 0) (mid : Tables) (u : AuditedRouter)
    (places : u.places.items ≡ slice_set r.places.items s.session.config.peering.0 (Live s (Some (Owing landing)))) (alike : kept.IsAlike r u)
    (enters : EntersHere s.session.config.peering.0 (entry_here r.tables.home_as r.tables.policies s.session) (map.keys s.session.adj_rib_in) r.tables mid)
    (changes : ChangesDue s.session.config.peering.0 mid u.tables) (forgets : IsForgotten s.session.config.peering.0 u.tables)
    (due : IsDueAgain s.session.adj_rib_out mid.rib.best (due_at u.tables s.session.config.peering.0)) where
  abbrev p : ℕ
  p = s.session.config.peering.0

  tables_keep : KeepsTables r.tables u.tables
  tables_keep = record {
    setup = changes.keeps.setup ∙ enters.changes.keeps.setup;
    number = changes.keeps.number ∙ enters.changes.keeps.number;
    sound = changes.keeps.sound;
  }

  entries_same : (n : ℕ) → entries_at u.tables n ≡ entries_at mid n
  entries_same n = ap (λ (part : model.RouterPart). part.entries n) (changes.effect kept.nowhere)

  dirty_same : u.tables.rib.dirty ≡ mid.rib.dirty
  dirty_same = ap (λ (part : model.RouterPart). part.dirty) (changes.effect kept.nowhere)

  no_entry : HasNoEntry (entries_at r.tables p)
  no_entry = kept.keeps_here r k p Vacant (vacant_as (place_at r.places.items p) vacant)

  best_same : mid.rib.best ≡ r.tables.rib.best
  best_same = ap (λ (part : model.RouterPart). part.best) (enters.changes.effect kept.nowhere)

  pub settles_in : SettlesIn q graft s r u
  settles_in = record {
    entries = subst (λ (es : Entries). BringsIn (setup_of_router r) r.tables.number.0 s.session es) (sym (entries_same p))
        (brings_all (setup_of_router r) r.tables.number.0 r.tables.home_as r.tables.policies s.session (rib_of r.tables.rib) (rib_of mid.rib)
        k.tables.home_as k.tables.policies no_entry enters.entered);
    dirty = subst (λ (es : Entries). Marks r.tables.rib.dirty (entries_at r.tables p) es u.tables.rib.dirty) (sym (entries_same p))
        (subst (λ (d : Prefixes). Marks r.tables.rib.dirty (entries_at r.tables p) (entries_at mid p) d) (sym dirty_same) enters.entered.dirty);
    due = record {
      members = λ x. due.members x
          ∙ ap (λ (best : BestRoutes). is_some (map.get s.session.adj_rib_out x) || is_some (map.get best x)) best_same;
    };
    effect = changes.effect (places_of u)
        ∙ (λ i. record (enters.changes.effect (places_of u) i) { due_out = at (enters.changes.effect (places_of u) i).due_out p (due_at u.tables p) })
        ∙ (λ i. record (part_with (places_then i) r.tables) {
          entries = at (router_part r).entries p (sym (entries_same p) i);
          dirty = sym dirty_same i;
          due_out = at (router_part r).due_out p (due_at u.tables p);
        });
    keeps = kept.keeps_then r u k alike (kept.as_many r u p known (Live s (Some (Owing landing))) places) tables_keep
        (kept.each_place r u p known (Live s (Some (Owing landing))) places (
          subst (λ (setup : Setup). IsOfPeering setup p s.session) (sym tables_keep.setup) of,
          subst (λ (setup : Setup). IsLandingOf setup u.tables.number.0 p landing.ids) (sym tables_keep.setup)
              (subst (λ n. IsLandingOf (setup_of_router r) n p landing.ids) (sym (ap (λ x. x.0) tables_keep.number))
              (record {
                peering = ids_peering;
                source = subst (λ n. n < routers_in (setup_of_router r)) (sym ids_source) q_known;
                target = ap (λ x. x.0) ids_target;
              })),
          λ found is. absurd (forgets found is),
        )
        (λ n not. kept.stays_by_due p mid u.tables changes n not (place_at r.places.items n)
        (kept.stays_by_entries p r.tables mid enters.changes n not (place_at r.places.items n) (kept.keeps_at r k n))));
  }
    where
      places_then : places_of u ≡ at (router_part r).places p (model.Live s.session (Some (model.Owing (record { graft = graft; source = q; next = 0 }))))
      places_then = kept.places_are r u p known (Live s (Some (Owing landing))) places
          ∙ (λ i. at (places_of r) p (model.Live s.session (Some (model.Owing (record { graft = ids_graft i; source = ids_source i; next = next i })))))

-- ---- word of the landing

-- what a row says of word that is owed
pub record IsOwing (r : AuditedRouter) (graft p source next : ℕ) (session : SessionValue) : Type 0 where
  pub running : RunningSession
  pub landing : Landing
  pub is : place_at r.places.items p ≡ Live running (Some (Owing landing))
  pub graft_is : landing.ids.graft ≡ graft
  pub source_is : landing.ids.source.0 ≡ source
  pub next_is : landing.next ≡ next

owing_in : (r : AuditedRouter) (graft p source next : ℕ) (session : SessionValue)
    → IsLive (router_part r) p session (Some (model.Owing (record { graft = graft; source = source; next = next }))) → IsOwing r graft p source next session
owing_in r graft p source next session live =
    let word : model.Word = record { graft = graft; source = source; next = next } in
    let own = live_as (place_at r.places.items p) session (Some (model.Owing word)) live.is in
    let errand = owing_as own.own word own.errand_is in
    record {
      running = own.running;
      landing = errand.0;
      is = own.is ∙ ap (Live own.running) errand.1;
      graft_is = ap (λ (w : model.Word). w.graft) errand.2;
      source_is = ap (λ (w : model.Word). w.source) errand.2;
      next_is = ap (λ (w : model.Word). w.next) errand.2;
    }

module _ (r : AuditedRouter) (k : RouterInvariant r) (graft : ℕ) where
  pub ask_early : (q : ℕ) → ¬ ((x : PrefixValue) → has r.tables.rib.dirty x ≡ false) ⊎ ¬ ((x : PrefixValue) → has (table_at r.tables.due_in q) x ≡ false)
      → Decides (Ask graft q) r Refused r
  ask_early q (inl dirty) = kept.refused r k (Ask graft q) (λ gave after row. dirty row.clean)
  ask_early q (inr due) = kept.refused r k (Ask graft q) (λ gave after row. due row.told)

  pub ask_nobody : (q : ℕ) → ((p : ℕ) → ¬ AsksNextAt r graft p q) → Decides (Ask graft q) r Refused r
  ask_nobody q none = kept.refused r k (Ask graft q) (λ gave after row.
      let owing = owing_in r graft row.peering row.source row.next row.session row.live in
      let target = (kept.keeps_here r k row.peering (Live owing.running (Some (Owing owing.landing))) owing.is).1.target in
      none row.peering (record {
        landing = owing.landing;
        owed = record { session = owing.running; is = owing.is; graft = owing.graft_is };
        next = subst (λ (x : ℕ × ℕ × ℕ × ℕ). IsNextToAsk x.0 x.1 x.2 x.3 q)
            (λ i. (sym owing.source_is i, sym target i, sym k.routers i, sym owing.next_is i)) row.asked;
      }))

  pub confirm_early : ¬ ((x : PrefixValue) → has r.tables.rib.dirty x ≡ false)
      ⊎ ¬ ((q : ℕ) (x : PrefixValue) → has (table_at r.tables.due_in q) x ≡ false) → Decides (Confirm graft) r Refused r
  confirm_early (inl dirty) = kept.refused r k (Confirm graft) (λ gave after row. dirty row.clean)
  confirm_early (inr due) = kept.refused r k (Confirm graft) (λ gave after row. due row.told)

  pub confirm_nobody : ((p source : ℕ) → ¬ MayConfirmAt r graft p source) → Decides (Confirm graft) r Refused r
  confirm_nobody none = kept.refused r k (Confirm graft) (λ gave after row.
      let owing = owing_in r graft row.peering row.source row.next row.session row.live in
      let target = (kept.keeps_here r k row.peering (Live owing.running (Some (Owing owing.landing))) owing.is).1.target in
      none row.peering row.source (record {
        landing = owing.landing;
        owed = record { session = owing.running; is = owing.is; graft = owing.graft_is };
        all = subst (λ (x : ℕ × ℕ × ℕ × ℕ). AreAllAsked x.0 x.1 x.2 x.3)
            (λ i. (sym owing.source_is i, sym target i, sym k.routers i, sym owing.next_is i)) row.answered;
        from = owing.source_is;
      }))

  -- the place where word is owed is there
  pub asks_there : (p q : ℕ) → AsksNextAt r graft p q → p < length r.places.items
  asks_there p q asks = let is = asks.owed.is in there_is r.places.items p (λ vacant. let no : ⊥ = cc in no)

  pub confirms_there : (p source : ℕ) → MayConfirmAt r graft p source → p < length r.places.items
  confirms_there p source may = let is = may.owed.is in there_is r.places.items p (λ vacant. let no : ⊥ = cc in no)

  module _ (p : ℕ) (known : p < length r.places.items) (u : AuditedRouter) (tables : u.tables ≡ r.tables) (alike : kept.IsAlike r u)
      (clean : (x : PrefixValue) → has r.tables.rib.dirty x ≡ false) where
    pub asks : (q : ℕ) → ((x : PrefixValue) → has (table_at r.tables.due_in q) x ≡ false) → (may : AsksNextAt r graft p q)
        → u.places.items ≡ slice_set r.places.items p (Live may.owed.session (Some (Asking (record may.landing { next = q }))))
        → (peering : PeeringId) → peering.0 ≡ p → Decides (Ask graft q) r (Sends q (items.Asked graft peering)) u
    asks q told may places peering peering_is =
        let own = kept.keeps_here r k p (Live may.owed.session (Some (Owing may.landing))) may.owed.is in
        let next : IsNextToAsk may.landing.ids.source.0 r.tables.number.0 (routers_in (setup_of_router r)) may.landing.next q =
        subst (λ (x : ℕ × ℕ). IsNextToAsk may.landing.ids.source.0 x.0 x.1 may.landing.next q) (λ i. (own.1.target i, k.routers i)) may.next in
        kept.sends r k (Ask graft q) u
        (kept.keeps_placed r u p known (Live may.owed.session (Some (Asking (record may.landing { next = q })))) places k tables alike
        (own.0, (own.1, next.known), own.2))
        q (items.Asked graft peering) (MeshTo q (model.Asked graft p))
        (record {
          peering = p;
          source = may.landing.ids.source.0;
          next = may.landing.next;
          session = may.owed.session.session;
          live = record {
            is = ap place_of may.owed.is ∙ (λ i. model.Live may.owed.session.session
                (Some (model.Owing (record { graft = may.owed.graft i; source = may.landing.ids.source.0; next = may.landing.next }))));
          };
          asked = next;
          clean = clean;
          told = told;
          takes = refl;
          sends = refl;
          effect = kept.part_is r u p known (Live may.owed.session (Some (Asking (record may.landing { next = q })))) places k tables alike
              ∙ (λ i. record (router_part r) {
                places = at (router_part r).places p (model.Live may.owed.session.session
                    (Some (model.Asking (record { graft = may.owed.graft i; source = may.landing.ids.source.0; next = q }))));
              });
        })
        (λ i. (q, MeshItem (model.Asked graft (peering_is i)))) next.known tt

    pub confirms : ((q : ℕ) (x : PrefixValue) → has (table_at r.tables.due_in q) x ≡ false) → (source : ℕ) (may : MayConfirmAt r graft p source)
        → u.places.items ≡ slice_set r.places.items p (Live may.owed.session None)
        → (to : ℕ) → to ≡ source → (peering : PeeringId) → peering.0 ≡ p → Decides (Confirm graft) r (Sends to (items.Done graft peering)) u
    confirms told source may places to to_is peering peering_is =
        let own = kept.keeps_here r k p (Live may.owed.session (Some (Owing may.landing))) may.owed.is in
        kept.sends r k (Confirm graft) u
        (kept.keeps_placed r u p known (Live may.owed.session None) places k tables alike (own.0, tt, own.2))
        to (items.Done graft peering) (MeshTo source (model.Done graft p))
        (record {
          peering = p;
          source = source;
          next = may.landing.next;
          session = may.owed.session.session;
          live = record {
            is = ap place_of may.owed.is ∙ (λ i. model.Live may.owed.session.session
                (Some (model.Owing (record { graft = may.owed.graft i; source = may.from i; next = may.landing.next }))));
          };
          answered = subst (λ (x : ℕ × ℕ × ℕ). AreAllAsked x.0 x.1 x.2 may.landing.next) (λ i. (may.from i, own.1.target i, k.routers i)) may.all;
          clean = clean;
          told = told;
          takes = refl;
          sends = refl;
          effect = kept.part_is r u p known (Live may.owed.session None) places k tables alike;
        })
        (λ i. (to_is i, MeshItem (model.Done graft (peering_is i))))
        (subst (λ n. n < routers_in (setup_of_router r)) may.from own.1.source) tt

-- ---- questions and answers

module _ (r : AuditedRouter) (k : RouterInvariant r) (q : ℕ) (channel : List Parcel) where
  pub answer_nothing : asked_in (slice_get channel 0) ≡ None → DecidesTaking (Answer q) (Router q) r channel Refused r channel
  answer_nothing none = kept.refused_taking r k (Answer q) (Router q) channel (λ item more first gave after row.
      let parcel = taken_is (setup_of_router r) q item q (model.Asked row.graft row.peering) row.takes in
      none-some (row.graft, parcel.0.0)
      (sym none ∙ (ap asked_in (first_is channel item more first) ∙ ap (λ (x : Parcel). asked_in (Some x)) parcel.1)))

  pub answers : (graft : ℕ) (peering : PeeringId) (rest : List Parcel) → channel ≡ items.Asked graft peering ∷ rest → q < routers_in (setup_of_router r)
      → (to : ℕ) → to ≡ q → DecidesTaking (Answer q) (Router q) r channel (Sends to (items.Answered graft peering)) r rest
  answers graft peering rest first there to to_is =
      kept.sends_taking r k (Answer q) (Router q) channel r (kept.keeps_itself r k) (items.Asked graft peering) rest first to
      (items.Answered graft peering) (MeshTo q (model.Answered graft peering.0))
      (record { graft = graft; peering = peering.0; takes = refl; sends = refl; stays = refl })
      (λ i. (to_is i, MeshItem (model.Answered graft peering.0))) there tt

  pub collect_nothing : answered_in (slice_get channel 0) ≡ None → DecidesTaking (Collect q) (Router q) r channel Refused r channel
  collect_nothing none = kept.refused_taking r k (Collect q) (Router q) channel (λ item more first gave after row. by item more first row)
    where
      no : (item : Parcel) (more : List Parcel) → channel ≡ item ∷ more → (graft peering : ℕ)
          → router_takes (Router q) (thing_of carried (setup_of_router r) item) ≡ Some (MeshIn q (model.Answered graft peering)) → ⊥
      no item more first graft peering takes =
          let parcel = taken_is (setup_of_router r) q item q (model.Answered graft peering) takes in
          none-some (graft, parcel.0.0)
          (sym none ∙ (ap answered_in (first_is channel item more first) ∙ ap (λ (x : Parcel). answered_in (Some x)) parcel.1))

      by : (item : Parcel) (more : List Parcel) → channel ≡ item ∷ more → {gave : List RouterSent} {after : model.RouterPart}
          → Counts q (router_part r) (router_takes (Router q) (thing_of carried (setup_of_router r) item)) gave after
          ⊎ Ignores q (router_part r) (router_takes (Router q) (thing_of carried (setup_of_router r) item)) gave after → ⊥
      by item more first (inl counts) = no item more first counts.graft counts.peering counts.takes
      by item more first (inr ignores) = no item more first ignores.graft ignores.peering ignores.takes

  module _ (graft : ℕ) (peering : PeeringId) (rest : List Parcel) (first : channel ≡ items.Answered graft peering ∷ rest) where
    pub ignores : ((s : RunningSession) (landing : Landing) → place_at r.places.items peering.0 ≡ Live s (Some (Asking landing)) → landing.ids.graft ≡ graft
        → landing.next ≡ q → ⊥) → (u : AuditedRouter) → router_part u ≡ router_part r → KeepsRouter r u
        → DecidesTaking (Collect q) (Router q) r channel Silent u rest
    ignores unawaited u same keeps = kept.silent_taking r k (Collect q) (Router q) channel u keeps (items.Answered graft peering) rest first
        (inr (record {
          graft = graft;
          peering = peering.0;
          takes = refl;
          sends = refl;
          unawaited = λ source session live.
              let word : model.Word = record { graft = graft; source = source; next = q } in
              let own = live_as (place_at r.places.items peering.0) session (Some (model.Asking word)) live.is in
              let errand = asking_as own.own word own.errand_is in
              unawaited own.running errand.0 (own.is ∙ ap (Live own.running) errand.1) (ap (λ (w : model.Word). w.graft) errand.2)
              (ap (λ (w : model.Word). w.next) errand.2);
          stays = same;
        }))

    pub counts : (s : RunningSession) (landing : Landing) → place_at r.places.items peering.0 ≡ Live s (Some (Asking landing)) → landing.ids.graft ≡ graft
        → landing.next ≡ q → (known : peering.0 < length r.places.items) (u : AuditedRouter)
        → u.places.items ≡ slice_set r.places.items peering.0 (Live s (Some (Owing (record landing { next = landing.next + 1 }))))
        → u.tables ≡ r.tables → kept.IsAlike r u → DecidesTaking (Collect q) (Router q) r channel Silent u rest
    counts s landing is graft_is next_is known u places tables alike =
        let own = kept.keeps_here r k peering.0 (Live s (Some (Asking landing))) is in
        let then : Place = Live s (Some (Owing (record landing { next = landing.next + 1 }))) in
        kept.silent_taking r k (Collect q) (Router q) channel u
        (kept.keeps_placed r u peering.0 known then places k tables alike (own.0, own.1.0, own.2)) (items.Answered graft peering) rest first
        (inl (record {
          graft = graft;
          peering = peering.0;
          takes = refl;
          sends = refl;
          source = landing.ids.source.0;
          session = s.session;
          live = record {
            is = ap place_of is ∙ (λ i. model.Live s.session
                (Some (model.Asking (record { graft = graft_is i; source = landing.ids.source.0; next = next_is i }))));
          };
          effect = kept.part_is r u peering.0 known then places k tables alike
              ∙ (λ i. record (router_part r) {
                places = at (router_part r).places peering.0 (model.Live s.session
                    (Some (model.Owing (record { graft = graft_is i; source = landing.ids.source.0; next = plus_one i }))));
              });
        }))
      where
        plus_one : landing.next + 1 ≡ suc q
        plus_one = omega (arith, next_is)

    unheard : (known : peering.0 < length r.places.items) (old new : Place) → place_at r.places.items peering.0 ≡ old → HearsAnswer graft q old new
        → ((s : RunningSession) (landing : Landing) → old ≡ Live s (Some (Asking landing)) → landing.ids.graft ≡ graft → landing.next ≡ q → ⊥)
        → (u : AuditedRouter) → u.places.items ≡ slice_set r.places.items peering.0 new → u.tables ≡ r.tables → kept.IsAlike r u
        → DecidesTaking (Collect q) (Router q) r channel Silent u rest
    unheard known old new is hears not u places tables alike =
        let stays : u.places.items ≡ slice_set r.places.items peering.0 old = places ∙ ap (slice_set r.places.items peering.0) (hears.ignored not) in
        ignores (λ s landing at. not s landing (sym is ∙ at)) u
        (kept.part_is r u peering.0 known old stays k tables alike
        ∙ ap (λ (ps : ℕ → model.Place). part_with ps r.tables) (sym (kept.place_itself r peering.0 old is)))
        (kept.keeps_placed r u peering.0 known old stays k tables alike (kept.keeps_here r k peering.0 old is))

    -- it is heard, whatever is at the place
    pub collects : (known : peering.0 < length r.places.items) (old new : Place) → place_at r.places.items peering.0 ≡ old → HearsAnswer graft q old new
        → (u : AuditedRouter) → u.places.items ≡ slice_set r.places.items peering.0 new → u.tables ≡ r.tables → kept.IsAlike r u
        → DecidesTaking (Collect q) (Router q) r channel Silent u rest
    collects known (Live s (Some (Asking landing))) new is hears u places tables alike = by_tests (landing.ids.graft == graft) (landing.next == q) refl refl
      where
        by_tests : (a b : Bool) → (landing.ids.graft == graft) ≡ a → (landing.next == q) ≡ b → DecidesTaking (Collect q) (Router q) r channel Silent u rest
        by_tests true true e f = counts s landing is (eqb-true _ _ e) (eqb-true _ _ f) known u
            (places ∙ ap (slice_set r.places.items peering.0) (hears.counted s landing refl (eqb-true _ _ e) (eqb-true _ _ f))) tables alike
        by_tests false b e f = unheard known (Live s (Some (Asking landing))) new is hears
            (λ t other same own next.
            let one : other ≡ landing = cc in
            let kept_graft : landing.ids.graft ≡ graft = subst (λ (l : Landing). l.ids.graft ≡ graft) one own in
            false≢true (sym e ∙ eq-eqb _ _ kept_graft)) u places tables alike
        by_tests true false e f = unheard known (Live s (Some (Asking landing))) new is hears
            (λ t other same own next.
            let one : other ≡ landing = cc in
            let kept_next : landing.next ≡ q = subst (λ (l : Landing). l.next ≡ q) one next in
            false≢true (sym f ∙ eq-eqb _ _ kept_next)) u places tables alike
    collects known old new is hears u places tables alike =
        unheard known old new is hears (λ s landing same. absurd (let no : ⊥ = cc in no)) u places tables alike
