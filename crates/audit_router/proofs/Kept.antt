-- What is kept when a router decides an event.
use Rattle.std.proofs.Common.{◌≡◌, ◌≢◌, ℕ, zero, suc, ◌<◌, List, [], ◌∷◌, length, Option, None, inl, inr, refl, sym, ap, ◌∙◌, subst}
use Rattle.std.specs.Prelude.{slice_set}
use Rattle.std.specs.FinMap as map
use Rattle.std.proofs.lemmas.List.{get_or-set_same, get_or-set_other, length-set}
use Rattle.bgp_types.specs.Prefixes.{PrefixValue}
use Rattle.bgp_types.specs.declared.attrs.Attrs.{Attrs}
use Rattle.bgp_types.specs.declared.message.SessionState.TheVariants.{Established}
use Rattle.bgp_story.specs.Readings.{Routes}
use Rattle.bgp_session.specs.Running.{RunningSession, carried}
use Rattle.session_value.specs.declared.config.SessionConfig.{SessionConfig}
use Rattle.session_value.specs.Sessions.{SessionValue, state}
use Rattle.session_value.specs.Sets.{BestRoutes, Prefixes}
use Rattle.route_policy.specs.Telling.{tell_out}
use Rattle.rib_stages.specs.Values.{table_at}
use Rattle.update_plan.specs.ToTell.{IsPrefixToTell}
use Rattle.graft_model.specs.Decisions.{out_side}
use Rattle.graft_model.specs.Points.{at}
use Rattle.graft_model.specs.Setups.{Setup, peerings_in, room_of, routers_in}
use Rattle.graft_model.specs.Parts as model
use Rattle.graft_model.specs.RouterRows.{RouterSent, RouterTaken}
use Rattle.graft_model.specs.Steps.{router_row}
use Rattle.graft_model.specs.declared.event.RouterEvent.{RouterEvent}
use Rattle.graft_actors.specs.Actors.{ActorName, Router, Thing, IsActor, actor_at}
use Rattle.graft_actors.specs.Items.{MayGo, thing_of}
use Rattle.graft_actors.specs.Makes.{numbered, sent_by_router}
use Rattle.graft_actors.proofs.Numbers.{there}
use Rattle.router_tables.specs.Owned.{HasNoEntry, IsGraftOf, IsOfPeering}
use Rattle.router_tables.proofs.Points.{at_else, at_is, one_or_other}
use Rattle.audit_ruling.specs.Rulings.{Parcel, router_takes}
use Rattle.audit_ruling.specs.declared.ruling.Ruling.TheVariants.{Refused, Silent, Sends}
use Rattle.audit_tables.specs.Changes.{ChangesDue, ChangesEntries, KeepsTables}
use Rattle.audit_tables.specs.Groups.{AreGroups, GroupTable}
use Rattle.audit_tables.specs.Parts.{IsForgotten, KnowsWhatToTell, NothingIsKnown, TablesInvariant, entries_at, part_with, pending_at}
use Rattle.audit_tables.specs.declared.tables.Tables.{Tables}
use Rattle.audit_router.specs.Decides.{Decides, DecidesTaking, KeepsRouter}
use Rattle.audit_router.specs.Parts.{IsErrandOf, KeepsPlace, RouterInvariant, places_of, router_part, setup_of_router}
use Rattle.audit_router.specs.Places.{place_at, place_of}
use Rattle.audit_router.specs.declared.place.Errand.{Errand}
use Rattle.audit_router.specs.declared.place.Place.{Place}
use Rattle.audit_router.specs.declared.place.Place.TheVariants.{Vacant, Live, Frozen, Shadow}
use Rattle.audit_router.specs.declared.router.AuditedRouter.{AuditedRouter}

pub nowhere : ℕ → model.Place
nowhere p = model.Vacant

-- ---- what a place requires of the tables

abbrev pub KeepsPlaceIn : Tables → ℕ → Place → Type 0
KeepsPlaceIn t p Vacant = HasNoEntry (entries_at t p)
KeepsPlaceIn t p (Live s errand) = IsOfPeering t.known.setup p s.session × IsErrandOf t.known.setup t.number.0 p errand × KnowsWhatToTell t nowhere p s.session
KeepsPlaceIn t p (Frozen s ids) = IsOfPeering t.known.setup p s.session × IsGraftOf t.known.setup t.number.0 p ids × (state s.session ≡ Established)
KeepsPlaceIn t p (Shadow graft) = Unit {0}

in_tables : (r : AuditedRouter) (p : ℕ) (x : Place) → KeepsPlace r p x → KeepsPlaceIn r.tables p x
in_tables r p Vacant h = h
in_tables r p (Live s errand) h = h
in_tables r p (Frozen s ids) h = h
in_tables r p (Shadow graft) h = h

pub of_tables : (r : AuditedRouter) (p : ℕ) (x : Place) → KeepsPlaceIn r.tables p x → KeepsPlace r p x
of_tables r p Vacant h = h
of_tables r p (Live s errand) h = h
of_tables r p (Frozen s ids) h = h
of_tables r p (Shadow graft) h = h

pub keeps_at : (r : AuditedRouter) → RouterInvariant r → (p : ℕ) → KeepsPlaceIn r.tables p (place_at r.places.items p)
keeps_at r k p = in_tables r p (place_at r.places.items p) (k.each p)

-- the place of a peering, where it is known
pub keeps_here : (r : AuditedRouter) → RouterInvariant r → (p : ℕ) (x : Place) → place_at r.places.items p ≡ x → KeepsPlaceIn r.tables p x
keeps_here r k p x is = subst (KeepsPlaceIn r.tables p) is (keeps_at r k p)

-- ---- tables that change, where a place keeps what it requires of them

module _ (t u : Tables) (keeps : KeepsTables t u) (q : ℕ) where
  pub errand_on : (errand : Option Errand) → IsErrandOf t.known.setup t.number.0 q errand → IsErrandOf u.known.setup u.number.0 q errand
  errand_on errand h = subst (λ (setup : Setup). IsErrandOf setup u.number.0 q errand) (sym keeps.setup)
      (subst (λ n. IsErrandOf t.known.setup n q errand) (sym (ap (λ x. x.0) keeps.number)) h)

  pub peering_on : (s : SessionValue) → IsOfPeering t.known.setup q s → IsOfPeering u.known.setup q s
  peering_on s h = subst (λ (setup : Setup). IsOfPeering setup q s) (sym keeps.setup) h

  pub stays_in : (HasNoEntry (entries_at t q) → HasNoEntry (entries_at u q))
      → ((s : SessionValue) → KnowsWhatToTell t nowhere q s → KnowsWhatToTell u nowhere q s) → (x : Place) → KeepsPlaceIn t q x → KeepsPlaceIn u q x
  stays_in entries knows Vacant h = entries h
  stays_in entries knows (Live s errand) h = (peering_on s.session h.0, errand_on errand h.1, knows s.session h.2)
  stays_in entries knows (Frozen s ids) h = (
    peering_on s.session h.0,
    subst (λ (setup : Setup). IsGraftOf setup u.number.0 q ids) (sym keeps.setup)
        (subst (λ n. IsGraftOf t.known.setup n q ids) (sym (ap (λ x. x.0) keeps.number)) h.1),
    h.2,
  )
  stays_in entries knows (Shadow graft) h = h

-- what is to be told, of the parts that it goes by
abbrev tells_with : Setup → ℕ → BestRoutes → SessionConfig → PrefixValue → Option Attrs
tells_with setup r best config x = tell_out setup.home_as (out_side setup r config) x (map.get best x)

abbrev Known : Prefixes → Prefixes → Routes → (PrefixValue → Option Attrs) → GroupTable → Type 0
Known due dirty told tells groups = AreGroups (IsPrefixToTell due dirty told tells) tells groups

-- where nothing changed by which it goes
pub knows_on : (t u : Tables) → KeepsTables t u → (q : ℕ) → pending_at u q ≡ pending_at t q → table_at u.due_out q ≡ table_at t.due_out q
    → u.rib.dirty ≡ t.rib.dirty → u.rib.best ≡ t.rib.best → (s : SessionValue) → KnowsWhatToTell t nowhere q s → KnowsWhatToTell u nowhere q s
knows_on t u keeps q pending due dirty best s knows found is =
    let tells : PrefixValue → Option Attrs = tells_with t.known.setup t.number.0 t.rib.best s.config in
    subst (λ (f : PrefixValue → Option Attrs). Known (table_at u.due_out q) u.rib.dirty s.adj_rib_out f found.groups.contents)
    (λ i. tells_with (sym keeps.setup i) (sym keeps.number i).0 (sym best i) s.config)
    (subst (λ (d : Prefixes). Known d u.rib.dirty s.adj_rib_out tells found.groups.contents) (sym due)
    (subst (λ (d : Prefixes). Known (table_at t.due_out q) d s.adj_rib_out tells found.groups.contents) (sym dirty) (knows found (sym pending ∙ is))))

-- where nothing is known any more
pub knows_nothing : (u : Tables) → NothingIsKnown u → (q : ℕ) (s : SessionValue) → KnowsWhatToTell u nowhere q s
knows_nothing u unknown q s found is = absurd (unknown.none q found is)

-- ---- what is due on a peering changes

module _ (p : ℕ) (t u : Tables) (changes : ChangesDue p t u) where
  pub entries_still : (q : ℕ) → entries_at u q ≡ entries_at t q
  entries_still q = ap (λ (part : model.RouterPart). part.entries q) (changes.effect nowhere)

  pub stays_by_due : (q : ℕ) → q ≢ p → (x : Place) → KeepsPlaceIn t q x → KeepsPlaceIn u q x
  stays_by_due q not = stays_in t u changes.keeps q (subst HasNoEntry (sym (entries_still q))) (knows_on t u changes.keeps q (changes.others q not)
      (ap (λ (part : model.RouterPart). part.due_out q) (changes.effect nowhere) ∙ at_else (table_at t.due_out) p (table_at u.due_out p) q not)
      (ap (λ (part : model.RouterPart). part.dirty) (changes.effect nowhere)) (ap (λ (part : model.RouterPart). part.best) (changes.effect nowhere)))

-- ---- the entries of a peering change

module _ (p : ℕ) (t u : Tables) (changes : ChangesEntries p t u) where
  pub stays_by_entries : (q : ℕ) → q ≢ p → (x : Place) → KeepsPlaceIn t q x → KeepsPlaceIn u q x
  stays_by_entries q not = stays_in t u changes.keeps q
      (subst HasNoEntry (sym (ap (λ (part : model.RouterPart). part.entries q) (changes.effect nowhere)
      ∙ at_else (part_with nowhere t).entries p (entries_at u p) q not))) (λ s h. knows_nothing u changes.unknown q s)

-- ---- the session at a place changes

pub of_config : (setup : Setup) (p : ℕ) (s u : SessionValue) → u.config ≡ s.config → IsOfPeering setup p s → IsOfPeering setup p u
of_config setup p s u config of = record {
  peering = ap (λ (c : SessionConfig). c.peering.0) config ∙ of.peering;
  sends = ap (λ (c : SessionConfig). c.send_first.0) config ∙ of.sends;
  receives = ap (λ (c : SessionConfig). c.receive_first.0) config ∙ of.receives;
}

-- by its endpoint alone
pub same_told : (t : Tables) (p : ℕ) (s u : RunningSession) (errand : Option Errand) → u.session.config ≡ s.session.config
    → u.session.adj_rib_out ≡ s.session.adj_rib_out → KeepsPlaceIn t p (Live s errand) → KeepsPlaceIn t p (Live u errand)
same_told t p s u errand config told h = (
  of_config t.known.setup p s.session u.session config h.0,
  h.1,
  λ found is. subst (λ (routes : Routes). Known (table_at t.due_out p) t.rib.dirty routes
      (tells_with t.known.setup t.number.0 t.rib.best u.session.config) found.groups.contents) (sym told)
      (subst (λ (c : SessionConfig). Known (table_at t.due_out p) t.rib.dirty s.session.adj_rib_out
      (tells_with t.known.setup t.number.0 t.rib.best c) found.groups.contents) (sym config) (h.2 found is)),
)

-- and the tables follow it
pub live_then : (t u : Tables) (p : ℕ) (s next : RunningSession) (errand : Option Errand) → KeepsTables t u → next.session.config ≡ s.session.config
    → IsForgotten p u → KeepsPlaceIn t p (Live s errand) → KeepsPlaceIn u p (Live next errand)
live_then t u p s next errand keeps config forgets h = (
  subst (λ (setup : Setup). IsOfPeering setup p next.session) (sym keeps.setup) (of_config t.known.setup p s.session next.session config h.0),
  errand_on t u keeps p errand h.1,
  λ found is. absurd (forgets found is),
)

-- ---- a router

-- there are as many routers, and as much room
pub record IsAlike (r u : AuditedRouter) : Type 0 where
  pub routers : u.routers ≡ r.routers
  pub room : u.room ≡ r.room

pub keeps_then : (r u : AuditedRouter) → RouterInvariant r → IsAlike r u → length u.places.items ≡ length r.places.items
    → KeepsTables r.tables u.tables → ((q : ℕ) → KeepsPlaceIn u.tables q (place_at u.places.items q)) → KeepsRouter r u
keeps_then r u k alike all tables each = record {
  setup = tables.setup;
  number = tables.number;
  sound = record {
    tables = tables.sound;
    routers = alike.routers ∙ (k.routers ∙ ap routers_in (sym tables.setup));
    room = alike.room ∙ (k.room ∙ (λ i. room_of (sym tables.setup i) (sym tables.number i).0));
    all = all ∙ (k.all ∙ ap peerings_in (sym tables.setup));
    each = λ p. of_tables u p (place_at u.places.items p) (each p);
  };
}

pub tables_still : (t u : Tables) → TablesInvariant t → u ≡ t → KeepsTables t u
tables_still t u k same = subst (KeepsTables t) (sym same) (record { setup = refl; number = refl; sound = k })

pub keeps_itself : (r : AuditedRouter) → RouterInvariant r → KeepsRouter r r
keeps_itself r k = record { setup = refl; number = refl; sound = k }

pub place_itself : (r : AuditedRouter) (p : ℕ) (x : Place) → place_at r.places.items p ≡ x → places_of r ≡ at (places_of r) p (place_of x)
place_itself r p x is = at_is (places_of r) (places_of r) p (place_of x) (ap place_of is) (λ q not. refl)

-- ---- another content of one place

module _ (r u : AuditedRouter) (p : ℕ) (known : p < length r.places.items) (x : Place) (items : u.places.items ≡ slice_set r.places.items p x) where
  pub placed_here : place_at u.places.items p ≡ x
  placed_here = ap (λ (xs : List Place). place_at xs p) items ∙ get_or-set_same r.places.items p x Vacant known

  pub placed_there : (q : ℕ) → q ≢ p → place_at u.places.items q ≡ place_at r.places.items q
  placed_there q not = ap (λ (xs : List Place). place_at xs q) items ∙ get_or-set_other r.places.items p q x Vacant not

  pub as_many : length u.places.items ≡ length r.places.items
  as_many = ap (λ (xs : List Place). length xs) items ∙ length-set r.places.items p x

  pub places_are : places_of u ≡ at (places_of r) p (place_of x)
  places_are = at_is (places_of r) (places_of u) p (place_of x) (ap place_of placed_here) (λ q not. ap place_of (placed_there q not))

  -- each other place stays where the tables let it stay
  pub each_place : KeepsPlaceIn u.tables p x → ((q : ℕ) → q ≢ p → KeepsPlaceIn u.tables q (place_at r.places.items q))
      → (q : ℕ) → KeepsPlaceIn u.tables q (place_at u.places.items q)
  each_place own others q = elim (one_or_other p q) [
    | inl is ↦ subst (λ (j : ℕ). KeepsPlaceIn u.tables j (place_at u.places.items j)) (sym is) (subst (KeepsPlaceIn u.tables p) (sym placed_here) own)
    | inr not ↦ subst (KeepsPlaceIn u.tables q) (sym (placed_there q not)) (others q not)
  ]

  -- where the tables stay as they are
  module _ (k : RouterInvariant r) (tables : u.tables ≡ r.tables) (alike : IsAlike r u) where
    pub part_is : router_part u ≡ record (router_part r) { places = at (router_part r).places p (place_of x) }
    part_is = ap (part_with (places_of u)) tables ∙ ap (λ (places : ℕ → model.Place). part_with places r.tables) places_are

    pub keeps_placed : KeepsPlaceIn r.tables p x → KeepsRouter r u
    keeps_placed own = keeps_then r u k alike as_many (tables_still r.tables u.tables k.tables tables)
        (each_place (subst (λ (t : Tables). KeepsPlaceIn t p x) (sym tables) own)
        (λ q not. subst (λ (t : Tables). KeepsPlaceIn t q (place_at r.places.items q)) (sym tables) (keeps_at r k q)))

-- ---- what was lent of a place is put back as it was

put_back : (places : List Place) (p : ℕ) (x : Place) → place_at places p ≡ x → slice_set places p x ≡ places
put_back [] p x is = refl
put_back (y ∷ places) zero x is = ap (λ (z : Place). z ∷ places) (sym is)
put_back (y ∷ places) (suc p) x is = ap (λ (ys : List Place). y ∷ ys) (put_back places p x is)

module _ (r : AuditedRouter) (k : RouterInvariant r) (u : AuditedRouter) (p : ℕ) (x : Place) (is : place_at r.places.items p ≡ x)
    (items : u.places.items ≡ slice_set r.places.items p x) (tables : u.tables ≡ r.tables) (alike : IsAlike r u) where
  all_back : u.places.items ≡ r.places.items
  all_back = items ∙ put_back r.places.items p x is

  part_back : router_part u ≡ router_part r
  part_back = λ i. part_with (λ q. place_of (place_at (all_back i) q)) (tables i)

  keeps_back : KeepsRouter r u
  keeps_back = keeps_then r u k alike (ap (λ (xs : List Place). length xs) all_back) (tables_still r.tables u.tables k.tables tables)
      (λ q. subst (λ (t : Tables). KeepsPlaceIn t q (place_at u.places.items q)) (sym tables)
      (subst (λ (xs : List Place). KeepsPlaceIn r.tables q (place_at xs q)) (sym all_back) (keeps_at r k q)))

-- ---- answers

module _ (r : AuditedRouter) (k : RouterInvariant r) (event : RouterEvent) where
  pub refused : ((gave : List RouterSent) (after : model.RouterPart) → ¬ router_row (setup_of_router r) r.tables.number.0 event (router_part r) None gave after)
      → Decides event r Refused r
  refused never = record { rules = (refl, never); keeps = keeps_itself r k }

  -- what was lent of a place is put back as it was
  module _ (u : AuditedRouter) (p : ℕ) (x : Place) (is : place_at r.places.items p ≡ x) (items : u.places.items ≡ slice_set r.places.items p x)
      (tables : u.tables ≡ r.tables) (alike : IsAlike r u) where
    pub refused_back : Decides event r Refused r → Decides event r Refused u
    refused_back d = record {
      rules = (part_back r k u p x is items tables alike, d.rules.1);
      keeps = keeps_back r k u p x is items tables alike;
    }

  module _ (u : AuditedRouter) (keeps : KeepsRouter r u) where
    pub silent : router_row (setup_of_router r) r.tables.number.0 event (router_part r) None [] (router_part u) → Decides event r Silent u
    silent row = record { rules = record { gave = []; row = row; is_sent = refl; there = tt; fit = tt }; keeps = keeps }

    pub sends : (to : ℕ) (item : Parcel) (gave : RouterSent)
        → router_row (setup_of_router r) r.tables.number.0 event (router_part r) None (gave ∷ []) (router_part u)
        → (to, thing_of carried (setup_of_router r) item) ≡ numbered (setup_of_router r) (sent_by_router gave)
        → IsActor (setup_of_router r) (sent_by_router gave).0
        → MayGo carried (setup_of_router r) (Router r.tables.number.0) (sent_by_router gave).0 item → Decides event r (Sends to item) u
    sends to item gave row same known fits = record {
      rules = record {
        gave = gave ∷ [];
        row = row;
        is_sent = ap (λ (x : ℕ × Thing). x ∷ []) same;
        there = (known, tt);
        fit = (
          (
            (sent_by_router gave).0,
            ap (actor_at (setup_of_router r)) (ap (λ (x : ℕ × Thing). x.0) same) ∙ there (setup_of_router r) (sent_by_router gave).0 known,
            fits,
          ),
          tt,
        );
      };
      keeps = keeps;
    }

  -- ---- of an event that takes an item

  module _ (from : ActorName) (channel : List Parcel) where
    abbrev taken_as : Parcel → Option RouterTaken
    taken_as item = router_takes from (thing_of carried (setup_of_router r) item)

    pub refused_taking : ((item : Parcel) (more : List Parcel) → channel ≡ item ∷ more → (gave : List RouterSent) (after : model.RouterPart)
        → ¬ router_row (setup_of_router r) r.tables.number.0 event (router_part r) (taken_as item) gave after)
        → DecidesTaking event from r channel Refused r channel
    refused_taking never = record { rules = (refl, refl, never); keeps = keeps_itself r k }

    pub refused_taking_back : (u : AuditedRouter) (rest : List Parcel) (p : ℕ) (x : Place) → place_at r.places.items p ≡ x
        → u.places.items ≡ slice_set r.places.items p x → u.tables ≡ r.tables → IsAlike r u → rest ≡ channel
        → DecidesTaking event from r channel Refused r channel → DecidesTaking event from r channel Refused u rest
    refused_taking_back u rest p x is items tables alike same d = record {
      rules = (part_back r k u p x is items tables alike, same, d.rules.2);
      keeps = keeps_back r k u p x is items tables alike;
    }

    module _ (u : AuditedRouter) (keeps : KeepsRouter r u) (item : Parcel) (rest : List Parcel) (first : channel ≡ item ∷ rest) where
      pub silent_taking : router_row (setup_of_router r) r.tables.number.0 event (router_part r) (taken_as item) [] (router_part u)
          → DecidesTaking event from r channel Silent u rest
      silent_taking row = record {
        rules = record { item = item; first = first; holds = record { gave = []; row = row; is_sent = refl; there = tt; fit = tt } };
        keeps = keeps;
      }

      pub sends_taking : (to : ℕ) (sent : Parcel) (gave : RouterSent)
          → router_row (setup_of_router r) r.tables.number.0 event (router_part r) (taken_as item) (gave ∷ []) (router_part u)
          → (to, thing_of carried (setup_of_router r) sent) ≡ numbered (setup_of_router r) (sent_by_router gave)
          → IsActor (setup_of_router r) (sent_by_router gave).0
          → MayGo carried (setup_of_router r) (Router r.tables.number.0) (sent_by_router gave).0 sent
          → DecidesTaking event from r channel (Sends to sent) u rest
      sends_taking to sent gave row same known fits = record {
        rules = record {
          item = item;
          first = first;
          holds = record {
            gave = gave ∷ [];
            row = row;
            is_sent = ap (λ (x : ℕ × Thing). x ∷ []) same;
            there = (known, tt);
            fit = (
              (
                (sent_by_router gave).0,
                ap (actor_at (setup_of_router r)) (ap (λ (x : ℕ × Thing). x.0) same) ∙ there (setup_of_router r) (sent_by_router gave).0 known,
                fits,
              ),
              tt,
            );
          };
        };
        keeps = keeps;
      }
