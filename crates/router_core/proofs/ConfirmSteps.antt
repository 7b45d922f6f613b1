-- Of a session that has landed, the next router is asked, or the source is told.
use Rattle.std.proofs.Common.{◌≡◌, ℕ, ◌<◌, [], ◌∷◌, length, Some, None, refl, sym, ap, subst, ◌∙◌, inl, inr, Option}
use Rattle.std.specs.FinMap as map
use Rattle.ring_net.specs.declared.post.Post.{Post}
use Rattle.graft_steps.specs.Landings.{Landing, IsNextToAsk, AreAllAsked}
use Rattle.graft_steps.specs.declared.item.Item.{Item}
use Rattle.graft_steps.specs.declared.item.Item.TheVariants as items
use Rattle.graft_steps.specs.declared.order.GraftIds.{GraftIds}
use Rattle.session_value.specs.Sets.{Prefixes, has}
use Rattle.bgp_session.specs.Running.{RunningSession}
use Rattle.rib_stages.specs.Values.{rib_of, table_at}
use Rattle.graft_model.specs.Parts.{Asked, Done}
use Rattle.graft_model.specs.RouterRows.{MeshTo}
use Rattle.graft_model.specs.Setups.{routers_in}
use Rattle.graft_model.specs.declared.event.RouterEvent.TheVariants as events
use Rattle.graft_actors.specs.Actors.{Router, MeshItem}
use Rattle.graft_actors.specs.Emissions.{Tally}
use Rattle.session_places.specs.Places.{with_place}
use Rattle.router_core.specs.Confirming.{TakesWord}
use Rattle.router_core.specs.Parts.{RouterInvariant, KeepsPlace}
use Rattle.router_tables.specs.Owned.{IsLandingOf}
use Rattle.router_core.specs.Places.{place_of, place_at}
use Rattle.router_core.specs.Rounds.{DidAsRouter, WritesEvent}
use Rattle.router_core.specs.Stages.{WordGoes}
use Rattle.router_core.specs.Visits.{Visits, SameButPlaces, confirming}
use Rattle.router_core.specs.declared.fields.Fields.{Fields}
use Rattle.router_core.specs.declared.place.Errand.TheVariants.{Leaving, Owing, Asking}
use Rattle.router_core.specs.declared.place.Place.{Place}
use Rattle.router_core.specs.declared.place.Place.TheVariants.{Live, Shadow}
use Rattle.router_core.specs.declared.stages.confirm.Word.{Word}
use Rattle.router_core.specs.declared.stages.confirm.Word.TheVariants.{Ask, Confirm}
use Rattle.router_core.proofs.Dids.{Sends, did_sent}
use Rattle.router_core.proofs.PlaceSteps.{at_own, elsewhere, here, keeps_at, part_at, visits_same}
use Rattle.router_tables.proofs.DueSteps.{none_in}

module _ (f g : Fields) (p q : Post (Item RunningSession)) (n : ℕ) (s : RunningSession) (landing : Landing) (keeps : RouterInvariant f)
    (there : n < length f.places.places) (clean : f.rib.dirty ≡ map.empty) (told : (r : ℕ) → table_at f.due_in r ≡ map.empty)
    (is : place_at f.places.places n ≡ Some (Live s (Some (Owing landing)))) (same : SameButPlaces f g) where
  place_is : KeepsPlace f.known.setup f.number.0 n ((rib_of f.rib).entries n) (table_at f.due_out n) (Some (Live s (Some (Owing landing))))
  place_is = subst (KeepsPlace f.known.setup f.number.0 n ((rib_of f.rib).entries n) (table_at f.due_out n)) is (keeps.each n)

  landing_is : IsLandingOf f.known.setup f.number.0 n landing.ids
  landing_is = place_is.2

  -- the next router is asked
  module _ (k : ℕ) (is_next : IsNextToAsk landing.ids.source.0 landing.ids.target.0 f.routers landing.next k)
      (items_are : g.places ≡ with_place f.places n (Some (Live s (Some (Asking (record landing { next = k }))))))
      (wrote : WritesEvent p (events.Ask landing.ids.graft k) ((k, items.Asked landing.ids.graft landing.ids.peering) ∷ []) q) where
    next_is : IsNextToAsk landing.ids.source.0 f.number.0 (routers_in f.known.setup) landing.next k
    next_is = subst (λ (t : ℕ). IsNextToAsk landing.ids.source.0 t (routers_in f.known.setup) landing.next k) landing_is.target
        (subst (λ (m : ℕ). IsNextToAsk landing.ids.source.0 landing.ids.target.0 m landing.next k) keeps.routers is_next)

    sends_asked : Sends f k (items.Asked landing.ids.graft landing.ids.peering) (MeshTo k (Asked landing.ids.graft n))
    sends_asked = record {
      name = Router k;
      known = next_is.known;
      number = refl;
      thing = ap (λ (m : ℕ). (Router k, MeshItem (Asked landing.ids.graft m))) (sym landing_is.peering);
      may = tt;
    }

    did_ask : (t : ℕ → Tally) → DidAsRouter f p t (events.Ask landing.ids.graft k ∷ []) g q t
    did_ask t = did_sent f g p q t (events.Ask landing.ids.graft k) k (items.Asked landing.ids.graft landing.ids.peering) (MeshTo k (Asked landing.ids.graft n))
        (record { setup = ap (λ (h : Fields). h.known.setup) same; number = ap (λ (h : Fields). h.number) same }) wrote sends_asked
        (record {
          peering = n;
          source = landing.ids.source.0;
          next = landing.next;
          session = s.session;
          live = record { is = ap place_of is };
          asked = next_is;
          clean = λ x. ap (λ (d : Prefixes). has d x) clean ∙ none_in x;
          told = λ x. ap (λ (d : Prefixes). has d x) (told k) ∙ none_in x;
          takes = refl;
          sends = refl;
          effect = part_at f g n (Some (Live s (Some (Asking (record landing { next = k }))))) there same items_are;
        }) tt

    asked : Visits confirming n f p g q
    asked = record {
      events = events.Ask landing.ids.graft k ∷ [];
      did = λ t. subst (λ (u : ℕ → Tally). DidAsRouter f p t (events.Ask landing.ids.graft k ∷ []) g q u) (λ i m. sym (at_own t n (t n) refl m) i) (did_ask t);
      at = (refl, tt);
      goes = subst (λ (x : Option Place). WordGoes x (place_at g.places.places n)) (sym is)
          (inl (k, here f g n (Some (Live s (Some (Asking (record landing { next = k }))))) there same items_are));
      others = λ m not. (elsewhere f g n (Some (Live s (Some (Asking (record landing { next = k }))))) there same items_are m not, refl);
      same = same;
      keeps = keeps_at f g n (Some (Live s (Some (Asking (record landing { next = k }))))) there same items_are keeps
          (place_is.0, place_is.1, (landing_is, next_is.known), place_is.3);
    }

  -- the source is told
  module _ (all : AreAllAsked landing.ids.source.0 landing.ids.target.0 f.routers landing.next)
      (items_are : g.places ≡ with_place f.places n (Some (Live s None)))
      (wrote : WritesEvent p (events.Confirm landing.ids.graft) ((landing.ids.source.0, items.Done landing.ids.graft landing.ids.peering) ∷ []) q) where
    all_asked : AreAllAsked landing.ids.source.0 f.number.0 (routers_in f.known.setup) landing.next
    all_asked = subst (λ (t : ℕ). AreAllAsked landing.ids.source.0 t (routers_in f.known.setup) landing.next) landing_is.target
        (subst (λ (m : ℕ). AreAllAsked landing.ids.source.0 landing.ids.target.0 m landing.next) keeps.routers all)

    sends_done : Sends f landing.ids.source.0 (items.Done landing.ids.graft landing.ids.peering) (MeshTo landing.ids.source.0 (Done landing.ids.graft n))
    sends_done = record {
      name = Router landing.ids.source.0;
      known = landing_is.source;
      number = refl;
      thing = ap (λ (k : ℕ). (Router landing.ids.source.0, MeshItem (Done landing.ids.graft k))) (sym landing_is.peering);
      may = tt;
    }

    did_confirm : (t : ℕ → Tally) → DidAsRouter f p t (events.Confirm landing.ids.graft ∷ []) g q t
    did_confirm t = did_sent f g p q t (events.Confirm landing.ids.graft) landing.ids.source.0
        (items.Done landing.ids.graft landing.ids.peering) (MeshTo landing.ids.source.0 (Done landing.ids.graft n))
        (record { setup = ap (λ (h : Fields). h.known.setup) same; number = ap (λ (h : Fields). h.number) same }) wrote sends_done
        (record {
          peering = n;
          source = landing.ids.source.0;
          next = landing.next;
          session = s.session;
          live = record { is = ap place_of is };
          answered = all_asked;
          clean = λ x. ap (λ (d : Prefixes). has d x) clean ∙ none_in x;
          told = λ r x. ap (λ (d : Prefixes). has d x) (told r) ∙ none_in x;
          takes = refl;
          sends = refl;
          effect = part_at f g n (Some (Live s None)) there same items_are;
        }) tt

    confirmed : Visits confirming n f p g q
    confirmed = record {
      events = events.Confirm landing.ids.graft ∷ [];
      did = λ t. subst (λ (u : ℕ → Tally). DidAsRouter f p t (events.Confirm landing.ids.graft ∷ []) g q u)
          (λ i k. sym (at_own t n (t n) refl k) i) (did_confirm t);
      at = (refl, tt);
      goes = subst (λ (x : Option Place). WordGoes x (place_at g.places.places n)) (sym is) (inr (here f g n (Some (Live s None)) there same items_are));
      others = λ k not. (elsewhere f g n (Some (Live s None)) there same items_are k not, refl);
      same = same;
      keeps = keeps_at f g n (Some (Live s None)) there same items_are keeps (place_is.0, place_is.1, tt, place_is.3);
    }

-- ---- what is to be said, if anything is

no_word : (w : Word) → Some w ≡ None → ⊥
no_word w e = cc

same_ids : (ids named : GraftIds) → Some (Confirm named) ≡ Some (Confirm ids) → named ≡ ids
same_ids ids named e = cc

same_ask : (ids named : GraftIds) (k r : ℕ) → Some (Ask named r) ≡ Some (Ask ids k) → (named ≡ ids) × (r ≡ k)
same_ask ids named k r e = let a : Ask named r ≡ Ask ids k = cc in ((let x : named ≡ ids = cc in x), (let y : r ≡ k = cc in y))

ask_or_confirm : (ids named : GraftIds) (r : ℕ) → Some (Ask named r) ≡ Some (Confirm ids) → ⊥
ask_or_confirm ids named r e = let a : Ask named r ≡ Confirm ids = cc in absurd cc

module _ (f g : Fields) (p q : Post (Item RunningSession)) (n : ℕ) (x : Option Place) (keeps : RouterInvariant f)
    (there : n < length f.places.places) (same : SameButPlaces f g) (items_are : g.places ≡ with_place f.places n x) where
  idle : (y : Option Place) → place_at f.places.places n ≡ y → x ≡ y → WordGoes y y → Visits confirming n f p g p
  idle y is x_is goes = visits_same f g n x there same items_are confirming p keeps (ap place_of (x_is ∙ sym is))
      (subst (λ (z : Option Place). WordGoes z x) (sym is) (subst (WordGoes y) (sym x_is) goes)) (λ t. refl) same
      (subst (KeepsPlace f.known.setup f.number.0 n ((rib_of f.rib).entries n) (table_at f.due_out n)) (is ∙ sym x_is) (keeps.each n))

  pub says_nothing : (y : Option Place) → place_at f.places.places n ≡ y → TakesWord f.routers y None x → Visits confirming n f p g p
  says_nothing None is takes = idle None is takes.1 refl
  says_nothing (Some (Live s None)) is takes = idle (Some (Live s None)) is takes.1 refl
  says_nothing (Some (Live s (Some (Leaving ids)))) is takes = idle (Some (Live s (Some (Leaving ids)))) is takes.1 refl
  says_nothing (Some (Live s (Some (Owing landing)))) is (inl (k, next, answer, new)) = absurd (no_word (Ask landing.ids k) (sym answer))
  says_nothing (Some (Live s (Some (Owing landing)))) is (inr (all, answer, new)) = absurd (no_word (Confirm landing.ids) (sym answer))
  says_nothing (Some (Live s (Some (Asking landing)))) is takes = idle (Some (Live s (Some (Asking landing)))) is takes.1 refl
  says_nothing (Some (Shadow away)) is takes = idle (Some (Shadow away)) is takes.1 refl

  pub asks_next : f.rib.dirty ≡ map.empty → ((r : ℕ) → table_at f.due_in r ≡ map.empty) → (named : GraftIds) (r : ℕ)
      → WritesEvent p (events.Ask named.graft r) ((r, items.Asked named.graft named.peering) ∷ []) q
      → (y : Option Place) → place_at f.places.places n ≡ y → TakesWord f.routers y (Some (Ask named r)) x → Visits confirming n f p g q
  asks_next clean told named r wrote None is takes = absurd (no_word (Ask named r) takes.0)
  asks_next clean told named r wrote (Some (Live s None)) is takes = absurd (no_word (Ask named r) takes.0)
  asks_next clean told named r wrote (Some (Live s (Some (Leaving ids)))) is takes = absurd (no_word (Ask named r) takes.0)
  asks_next clean told named r wrote (Some (Live s (Some (Owing landing)))) is (inl (k, next, answer, new)) =
      let e : (named ≡ landing.ids) × (r ≡ k) = same_ask landing.ids named k r answer in
      asked f g p q n s landing keeps there clean told is same k next (items_are ∙ ap (with_place f.places n) new)
      (subst (λ (m : ℕ). WritesEvent p (events.Ask landing.ids.graft m) ((m, items.Asked landing.ids.graft landing.ids.peering) ∷ []) q) e.1
      (subst (λ (i : GraftIds). WritesEvent p (events.Ask i.graft r) ((r, items.Asked i.graft i.peering) ∷ []) q) e.0 wrote))
  asks_next clean told named r wrote (Some (Live s (Some (Owing landing)))) is (inr (all, answer, new)) = absurd (ask_or_confirm landing.ids named r answer)
  asks_next clean told named r wrote (Some (Live s (Some (Asking landing)))) is takes = absurd (no_word (Ask named r) takes.0)
  asks_next clean told named r wrote (Some (Shadow away)) is takes = absurd (no_word (Ask named r) takes.0)

  pub tells_source : f.rib.dirty ≡ map.empty → ((r : ℕ) → table_at f.due_in r ≡ map.empty) → (named : GraftIds)
      → WritesEvent p (events.Confirm named.graft) ((named.source.0, items.Done named.graft named.peering) ∷ []) q
      → (y : Option Place) → place_at f.places.places n ≡ y → TakesWord f.routers y (Some (Confirm named)) x → Visits confirming n f p g q
  tells_source clean told named wrote None is takes = absurd (no_word (Confirm named) takes.0)
  tells_source clean told named wrote (Some (Live s None)) is takes = absurd (no_word (Confirm named) takes.0)
  tells_source clean told named wrote (Some (Live s (Some (Leaving ids)))) is takes = absurd (no_word (Confirm named) takes.0)
  tells_source clean told named wrote (Some (Live s (Some (Owing landing)))) is (inl (k, next, answer, new)) =
      absurd (ask_or_confirm named landing.ids k (sym answer))
  tells_source clean told named wrote (Some (Live s (Some (Owing landing)))) is (inr (all, answer, new)) =
      confirmed f g p q n s landing keeps there clean told is same all (items_are ∙ ap (with_place f.places n) new)
      (subst (λ (k : GraftIds). WritesEvent p (events.Confirm k.graft) ((k.source.0, items.Done k.graft k.peering) ∷ []) q)
      (same_ids landing.ids named answer) wrote)
  tells_source clean told named wrote (Some (Live s (Some (Asking landing)))) is takes = absurd (no_word (Confirm named) takes.0)
  tells_source clean told named wrote (Some (Shadow away)) is takes = absurd (no_word (Confirm named) takes.0)
