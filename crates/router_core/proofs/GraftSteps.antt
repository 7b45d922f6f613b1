-- Grafts at their source: the order that a router stores, and the end of the shadow.
use Rattle.std.proofs.Common.{◌≡◌, ◌≢◌, ℕ, ◌+◌, ◌<◌, ◌≤◌, List, [], ◌∷◌, length, Option, Some, None, is_some, false, refl, sym, ap, subst, ◌∙◌, arith, inl, inr}
use Rattle.std.specs.FinMap as map
use Rattle.std.proofs.lemmas.Bool.{cases_lt}
use Rattle.std.proofs.lemmas.List.{length-set, get_or_past}
use Rattle.ring_net.specs.declared.post.Post.{Post}
use Rattle.graft_edge.specs.declared.ids.PeeringId.{PeeringId}
use Rattle.graft_edge.specs.declared.ids.RouterId.{RouterId}
use Rattle.graft_steps.specs.declared.item.Item.{Item}
use Rattle.graft_steps.specs.declared.item.Item.TheVariants as items
use Rattle.graft_steps.specs.declared.order.GraftIds.{GraftIds}
use Rattle.session_places.specs.Places.{with_place}
use Rattle.router_core.specs.Rounds.{WritesEvent}
use Rattle.router_core.specs.declared.place.Errand.{Errand}
use Rattle.router_core.specs.declared.place.Errand.TheVariants.{Leaving}
use Rattle.graft_steps.specs.declared.refusal.Outcome.TheVariants.{Accepted}
use Rattle.bgp_session.specs.Running.{RunningSession, carried}
use Rattle.session_value.specs.Sessions.{SessionValue}
use Rattle.session_value.specs.Sets.{Entries, Marks}
use Rattle.rib_stages.specs.Steps.{DropsEntries}
use Rattle.rib_stages.specs.Values.{RibValue, rib_of, table_at}
use Rattle.graft_model.specs.Points.{at}
use Rattle.graft_model.specs.Parts as model
use Rattle.graft_model.specs.Parts.{RouterPart, Done}
use Rattle.graft_model.specs.RouterRows.{OrderIn, MeshIn, ReportOut}
use Rattle.graft_model.specs.Setups.{routers_in, peerings_in}
use Rattle.graft_model.specs.declared.event.RouterEvent.TheVariants.{Admit, Clear}
use Rattle.graft_actors.specs.Actors.{Router, Operator, ReportItem, actor_at}
use Rattle.graft_actors.proofs.Numbers.{there as is_there, of_number, at_operator}
use Rattle.graft_actors.specs.Notes.{WroteOne, dropped}
use Rattle.graft_actors.proofs.Welcome.{router_order, router_done}
use Rattle.router_core.specs.Parts.{router_part, RouterInvariant, KeepsPlace}
use Rattle.router_core.specs.Places.{errand_of, order_of, place_of, place_at, IsLiveWithoutErrand, IsShadowOf}
use Rattle.router_core.specs.Takes.{RouterTakesIt}
use Rattle.router_core.specs.declared.fields.Fields.{Fields}
use Rattle.router_core.specs.declared.place.Place.{Place}
use Rattle.router_core.specs.declared.place.Place.TheVariants.{Live, Shadow}
use Rattle.router_core.proofs.Dids.{did_same, same_router}
use Rattle.router_tables.proofs.Points.{one_or_other, at_else}
use Rattle.router_core.proofs.Kept.{places_at, placed_here, placed_else, keeps_on, with_routes, live_is, stays_itself}
use Rattle.router_core.proofs.PlaceLists.{listed, rooms}
use Rattle.router_core.proofs.Takings.{drops, is_router, takes_then}

-- ---- places that the model sees

vacant_past : (f : Fields) (p : ℕ) → length f.places.places ≤ p → place_at f.places.places p ≡ None
vacant_past f p past = get_or_past f.places.places p None past

-- a live place of the model, with nothing to be done for a graft
no_live : (s : RunningSession) → None ≡ Some (Live s None) → ⊥
no_live s e = cc

no_live_in : (s : RunningSession) (o : Option Errand) → None ≡ Some (Live s o) → ⊥
no_live_in s o e = cc

no_shadow : (ids : GraftIds) → None ≡ Some (Shadow ids) → ⊥
no_shadow ids e = cc

free_of : (place : Option Place) (s : SessionValue) → place_of place ≡ model.Live s None → IsLiveWithoutErrand place
free_of None s e = absurd cc
free_of (Some (Live u None)) s e = record { session = u; is = refl }
free_of (Some (Live u (Some o))) s e = absurd (let x : Some (errand_of o) ≡ None = cc in let y : ⊥ = cc in y)
free_of (Some (Shadow away)) s e = absurd cc

pub away_of : (place : Option Place) (k : ℕ) → place_of place ≡ model.Shadow k → IsShadowOf place k
away_of None k e = absurd cc
away_of (Some (Live u o)) k e = absurd cc
away_of (Some (Shadow away)) k e = record { away = away; is = refl; graft = cc }

-- the place of a shadow is there
pub away_within : (f : Fields) (p k : ℕ) → IsShadowOf (place_at f.places.places p) k → p < length f.places.places
away_within f p k a =
    elim (cases_lt p (length f.places.places)) [ inl below ↦ below | inr past ↦ absurd (no_shadow a.away (sym (vacant_past f p past) ∙ a.is)) ]

-- ---- the order

module _ (f : Fields) (p q : Post (Item RunningSession)) (from k : ℕ) (peering : PeeringId) (target : RouterId) (keeps : RouterInvariant f) where
  -- an order that isn't the operator's, or is of no live session that has nothing to be done for a graft, or to a router that isn't there
  pub drops_order : (from ≡ f.routers + length f.places.places → target.0 < f.routers
      → peering.0 < length f.places.places → IsLiveWithoutErrand (place_at f.places.places peering.0) → ⊥)
      → WroteOne p dropped [] q → RouterTakesIt from (items.GraftOrder k peering target) f p f q
  drops_order not wrote = drops f p q from (items.GraftOrder k peering target) keeps wrote
      (λ w.
      let is = (router_order carried f.known.setup from f.number.0 k (router_part f) peering target).0 w in
      let number : from ≡ routers_in f.known.setup + peerings_in f.known.setup = (of_number f.known.setup from Operator is.0).1 in
      let free : IsLiveWithoutErrand (place_at f.places.places peering.0) = free_of (place_at f.places.places peering.0) is.2 is.3 in
      not (omega (arith, number, keeps.routers, keeps.places)) (omega (arith, is.1, keeps.routers)) (within free) free)
    where
      within : IsLiveWithoutErrand (place_at f.places.places peering.0) → peering.0 < length f.places.places
      within free = elim (cases_lt peering.0
          (length f.places.places)) [ inl below ↦ below | inr past ↦ absurd (no_live free.session (sym (vacant_past f peering.0 past) ∙ free.is)) ]

  -- the order is stored with the session
  pub admits : (g : Fields) (s : RunningSession) (ids : GraftIds) → from ≡ f.routers + length f.places.places → target.0 < f.routers
      → peering.0 < length f.places.places → place_at f.places.places peering.0 ≡ Some (Live s None)
      → ids ≡ record { graft = k; peering = peering; source = f.number; target = target } → WritesEvent p (Admit k) [] q
      → g ≡ record f { places = g.places } → g.places ≡ with_place f.places peering.0 (Some (Live s (Some (Leaving ids))))
      → RouterTakesIt from (items.GraftOrder k peering target) f p g q
  admits g s ids number known there free is wrote same held =
      let targets : target.0 < routers_in f.known.setup = omega (arith, known, keeps.routers) in
      let from_is : from ≡ routers_in f.known.setup + peerings_in f.known.setup = omega (arith, number, keeps.routers, keeps.places) in
      let at_it : actor_at f.known.setup from ≡ Some Operator = ap (actor_at f.known.setup) from_is ∙ at_operator f.known.setup in
      let here : place_at g.places.places peering.0 ≡ Some (Live s (Some (Leaving ids))) = ap (λ (xs : List (Option Place)). place_at xs peering.0)
      (listed held) ∙ placed_here f.places.places peering.0 (Some (Live s (Some (Leaving ids)))) there in
      let else_ : (n : ℕ) → n ≢ peering.0 → place_at g.places.places n ≡ place_at f.places.places n = λ n not.
      ap (λ (xs : List (Option Place)). place_at xs n) (listed held) ∙ placed_else f.places.places peering.0 (Some (Live s (Some (Leaving ids)))) n not in
      takes_then f g g p q q from (items.GraftOrder k peering target) (Admit k) []
      (record {
        router = record { setup = ap (λ (h : Fields). h.known.setup) same; number = ap (λ (h : Fields). h.number) same };
        sent = [];
        wrote = wrote;
        welcome = (router_order carried f.known.setup from f.number.0 k (router_part f) peering target).1 (at_it, targets, s.session, ap place_of free);
        name = Operator;
        number = from_is;
        took = OrderIn (record { graft = k; peering = peering.0; target = target.0 });
        thing = refl;
        gave = [];
        row = record {
          peering = peering.0;
          target = target.0;
          takes = refl;
          sends = refl;
          known = targets;
          session = s.session;
          live = record { is = ap place_of free };
          effect = ap router_part same
              ∙ ap (λ (xs : List (Option Place)). let v : RouterPart = record (router_part f) { places = λ n. place_of (place_at xs n) } in v) (listed held)
              ∙ ap (λ (ps : ℕ → model.Place). let v : RouterPart = record (router_part f) { places = ps } in v)
              (places_at f.places.places peering.0 (Some (Live s (Some (Leaving ids)))) there)
              ∙ ap (λ (o : GraftIds). let v : RouterPart =
              record (router_part f) { places = at (router_part f).places peering.0 (model.Live s.session (Some (model.Leaving (order_of o)))) } in v) is;
        };
        sends = refl;
        known = tt;
        fit = tt;
        careful = tt;
        still = λ t. refl;
      })
      (λ t. did_same g g q t (same_router g) refl)
      (refl, tt)
      (λ n u v o w a b. stays_itself u v (elim (one_or_other peering.0 n) [
        | inl e ↦
            live_same u v o w (sym a.is ∙ ap (place_at f.places.places) e ∙ free) (sym b.is ∙ ap (place_at g.places.places) e ∙ here)
        | inr not ↦ live_is f.places.places n u v o w a (record { is = sym (else_ n not) ∙ b.is })
      ]))
      (ap (λ (h : Fields). h.turns) same)
      (keeps_on f g keeps
      (subst (λ (h : Fields). h ≡ record f { places = h.places; rib = h.rib; due_in = h.due_in; due_out = h.due_out; turns = h.turns }) (sym same) refl)
      (record {
        places = ap length (listed held) ∙ length-set f.places.places peering.0 (Some (Live s (Some (Leaving ids))));
        reserved = rooms held;
        due_in = ap (λ (h : Fields). length h.due_in) same;
        due_out = ap (λ (h : Fields). length h.due_out) same;
        config = ap (λ (h : Fields). h.rib.config) same;
        tellings = λ n out. ap (λ (h : Fields). (rib_of h.rib).tellings n) same;
      })
      (λ n. subst (λ (h : Fields). KeepsPlace f.known.setup f.number.0 n ((rib_of h.rib).entries n) (table_at h.due_out n) (place_at g.places.places n))
      (sym same)
      (elim (one_or_other peering.0 n) [
        | inl e ↦
            subst (λ (m : ℕ). KeepsPlace f.known.setup f.number.0 m ((rib_of f.rib).entries m) (table_at f.due_out m) (place_at g.places.places m)) (sym e)
            (subst (λ (x : Option Place). KeepsPlace f.known.setup f.number.0 peering.0 ((rib_of f.rib).entries peering.0) (table_at f.due_out peering.0) x)
            (sym here)
            (with_order (subst (λ (x : Option Place). KeepsPlace f.known.setup f.number.0 peering.0
            ((rib_of f.rib).entries peering.0) (table_at f.due_out peering.0) x) free (keeps.each peering.0))))
        | inr not ↦ subst (λ (x : Option Place). KeepsPlace f.known.setup f.number.0 n ((rib_of f.rib).entries n) (table_at f.due_out n) x)
            (sym (else_ n not)) (keeps.each n)
      ])))
    where
      live_same : (u v : RunningSession) (o w : Option Errand) → Some (Live u o) ≡ Some (Live s None)
          → Some (Live v w) ≡ Some (Live s (Some (Leaving ids))) → v ≡ u
      live_same u v o w a b = let x : u ≡ s = cc in let y : v ≡ s = cc in y ∙ sym x

      with_order : KeepsPlace f.known.setup f.number.0 peering.0 ((rib_of f.rib).entries peering.0) (table_at f.due_out peering.0) (Some (Live s None))
          → KeepsPlace f.known.setup f.number.0 peering.0 ((rib_of f.rib).entries peering.0) (table_at f.due_out peering.0) (Some (Live s (Some (Leaving ids))))
      with_order h = (
        h.0,
        h.1,
        record {
          peering = ap (λ (o : GraftIds). o.peering.0) is;
          source = ap (λ (o : GraftIds). o.source.0) is;
          target = subst (λ (o : GraftIds). o.target.0 < routers_in f.known.setup) (sym is) (omega (arith, known, keeps.routers));
        },
        h.3,
      )

-- ---- word that a session landed

module _ (f : Fields) (p q : Post (Item RunningSession)) (from k : ℕ) (peering : PeeringId) (keeps : RouterInvariant f) where
  -- word that isn't a router's, or of no shadow of that graft
  pub drops_done : (from < f.routers → peering.0 < length f.places.places → IsShadowOf (place_at f.places.places peering.0) k → ⊥)
      → WroteOne p dropped [] q → RouterTakesIt from (items.Done k peering) f p f q
  drops_done not wrote = drops f p q from (items.Done k peering) keeps wrote
      (λ w.
      let is = (router_done carried f.known.setup from f.number.0 k (router_part f) peering).0 w in
      let known : from < routers_in f.known.setup = is_router f.known.setup from is.0 in
      let away : IsShadowOf (place_at f.places.places peering.0) k = away_of (place_at f.places.places peering.0) k is.1 in
      not (omega (arith, known, keeps.routers)) (away_within f peering.0 k away) away)

  -- the shadow ends, with its routes
  pub clears : (g : Fields) (to : ℕ) → from < f.routers → peering.0 < length f.places.places → IsShadowOf (place_at f.places.places peering.0) k
      → to ≡ f.routers + length f.places.places
      → WritesEvent p (Clear from) ((to, items.Report k Accepted) ∷ []) q → g ≡ record f { places = g.places; rib = g.rib }
      → g.places ≡ with_place f.places peering.0 None
      → DropsEntries (rib_of f.rib) peering.0 (rib_of g.rib) → (rib_of g.rib).entries peering.0 ≡ map.empty → RouterTakesIt from (items.Done k peering) f p g q
  clears g to below there away to_is wrote same held gone none =
      let known : from < routers_in f.known.setup = omega (arith, below, keeps.routers) in
      let at_from : actor_at f.known.setup from ≡ Some (Router from) = is_there f.known.setup (Router from) known in
      let is_to : to ≡ routers_in f.known.setup + peerings_in f.known.setup = omega (arith, to_is, keeps.routers, keeps.places) in
      let shadow : place_of (place_at f.places.places peering.0) ≡ model.Shadow k = ap place_of away.is ∙ ap model.Shadow away.graft in
      let here : place_at g.places.places peering.0 ≡ None =
      ap (λ (xs : List (Option Place)). place_at xs peering.0) (listed held) ∙ placed_here f.places.places peering.0 None there in
      let else_ : (n : ℕ) → n ≢ peering.0 → place_at g.places.places n ≡ place_at f.places.places n =
      λ n not. ap (λ (xs : List (Option Place)). place_at xs n) (listed held) ∙ placed_else f.places.places peering.0 None n not in
      let entries_else : (n : ℕ) → n ≢ peering.0 → (rib_of g.rib).entries n ≡ (rib_of f.rib).entries n =
      λ n not. ap (λ (v : RibValue). v.entries n) gone.effect ∙ at_else (rib_of f.rib).entries peering.0 ((rib_of g.rib).entries peering.0) n not in
      takes_then f g g p q q from (items.Done k peering) (Clear from) []
      (record {
        router = record { setup = ap (λ (h : Fields). h.known.setup) same; number = ap (λ (h : Fields). h.number) same };
        sent = (to, items.Report k Accepted) ∷ [];
        wrote = wrote;
        welcome = (router_done carried f.known.setup from f.number.0 k (router_part f) peering).1 ((from, at_from), shadow);
        name = Router from;
        number = refl;
        took = MeshIn from (Done k peering.0);
        thing = refl;
        gave = ReportOut (record { graft = k; outcome = Accepted }) ∷ [];
        row = record {
          graft = k;
          peering = peering.0;
          takes = refl;
          shadow = shadow;
          sends = refl;
          dirty = subst (λ (es : Entries). Marks f.rib.dirty ((rib_of f.rib).entries peering.0) es g.rib.dirty) none gone.dirty;
          effect = ap router_part same
              ∙ (λ i. let v : RouterPart = record (with_routes (router_part f) (gone.effect i)) {
                places = (ap (λ (xs : List (Option Place)). (λ n. place_of (place_at xs n))) (listed held) ∙ places_at f.places.places peering.0 None there) i;
              } in v)
              ∙ ap (λ (es : Entries). let v : RouterPart = record (router_part f) {
                places = at (router_part f).places peering.0 model.Vacant;
                entries = at (rib_of f.rib).entries peering.0 es;
                dirty = g.rib.dirty;
              } in v) none;
        };
        sends = ap (λ (n : ℕ). (n, ReportItem (record { graft = k; outcome = Accepted })) ∷ []) is_to;
        known = (tt, tt);
        fit = ((Operator, ap (actor_at f.known.setup) is_to ∙ at_operator f.known.setup, tt), tt);
        careful = tt;
        still = λ t. refl;
      })
      (λ t. did_same g g q t (same_router g) refl)
      (refl, tt)
      (λ n u v o w a b. stays_itself u v (elim (one_or_other peering.0 n) [
        | inl e ↦ absurd (no_live_in v w (sym here ∙ ap (place_at g.places.places) (sym e) ∙ b.is))
        | inr not ↦ live_is f.places.places n u v o w a (record { is = sym (else_ n not) ∙ b.is })
      ]))
      (ap (λ (h : Fields). h.turns) same)
      (keeps_on f g keeps
      (subst (λ (h : Fields). h ≡ record f { places = h.places; rib = h.rib; due_in = h.due_in; due_out = h.due_out; turns = h.turns }) (sym same) refl)
      (record {
        places = ap length (listed held) ∙ length-set f.places.places peering.0 None;
        reserved = rooms held;
        due_in = ap (λ (h : Fields). length h.due_in) same;
        due_out = ap (λ (h : Fields). length h.due_out) same;
        config = ap (λ (v : RibValue). v.config) gone.effect;
        tellings = λ n out. ap (λ (v : RibValue). v.tellings n) gone.effect;
      })
      (λ n. subst (λ (h : Fields). KeepsPlace f.known.setup f.number.0 n ((rib_of g.rib).entries n) (table_at h.due_out n) (place_at g.places.places n))
      (sym same)
      (elim (one_or_other peering.0 n) [
        | inl e ↦
            subst (λ (m : ℕ). KeepsPlace f.known.setup f.number.0 m ((rib_of g.rib).entries m) (table_at f.due_out m) (place_at g.places.places m)) (sym e)
            (subst (λ (x : Option Place). KeepsPlace f.known.setup f.number.0 peering.0 ((rib_of g.rib).entries peering.0) (table_at f.due_out peering.0) x)
            (sym here)
            (emptied away.away (subst (λ (x : Option Place). KeepsPlace f.known.setup f.number.0 peering.0
            ((rib_of f.rib).entries peering.0) (table_at f.due_out peering.0) x) away.is (keeps.each peering.0))))
        | inr not ↦
            subst (λ (x : Option Place). KeepsPlace f.known.setup f.number.0 n ((rib_of g.rib).entries n) (table_at f.due_out n) x) (sym (else_ n not))
            (subst (λ (es : Entries). KeepsPlace f.known.setup f.number.0 n es (table_at f.due_out n) (place_at f.places.places n))
            (sym (entries_else n not)) (keeps.each n))
      ])))
    where
      nothing : (x : Rattle.bgp_types.specs.Prefixes.PrefixValue)
          → is_some (map.get {X = Rattle.route_policy.specs.declared.entry.Entry.Entry} {R = Rattle.bgp_types.specs.Tables.prefix_cmp} map.empty x) ≡ false
      nothing x = ap (λ o. is_some o) (map.get-empty Rattle.bgp_types.specs.Tables.prefix_cmp x)

      emptied : (ids : GraftIds)
          → KeepsPlace f.known.setup f.number.0 peering.0 ((rib_of f.rib).entries peering.0) (table_at f.due_out peering.0) (Some (Shadow ids))
          → KeepsPlace f.known.setup f.number.0 peering.0 ((rib_of g.rib).entries peering.0) (table_at f.due_out peering.0) None
      emptied ids h = ((λ x. ap (λ (es : Entries). is_some (map.get es x)) none ∙ nothing x), h.1)
