-- A router answers one that asks, and takes the answers of those that it asked.
use Rattle.std.proofs.Common.{◌≡◌, ℕ, suc, ◌+◌, ◌<◌, ◌≤◌, [], ◌∷◌, length, Option, Some, None, refl, sym, ap, subst, ◌∙◌, arith, inl, inr}
use Rattle.std.proofs.lemmas.Bool.{cases_lt}
use Rattle.std.proofs.lemmas.List.{get_or_past}
use Rattle.ring_net.specs.declared.post.Post.{Post}
use Rattle.graft_edge.specs.declared.ids.PeeringId.{PeeringId}
use Rattle.graft_steps.specs.Landings.{Landing}
use Rattle.graft_steps.specs.declared.item.Item.{Item}
use Rattle.graft_steps.specs.declared.item.Item.TheVariants as items
use Rattle.bgp_session.specs.Running.{RunningSession, carried}
use Rattle.session_value.specs.Sessions.{SessionValue}
use Rattle.session_places.specs.Places.{PlaceList, with_place}
use Rattle.rib_stages.specs.Values.{rib_of, table_at}
use Rattle.graft_model.specs.Points.{at}
use Rattle.graft_model.specs.Parts as model
use Rattle.graft_model.specs.Parts.{RouterPart, Asked, Answered}
use Rattle.graft_model.specs.RouterRows.{MeshIn, MeshTo}
use Rattle.graft_model.specs.Setups.{routers_in}
use Rattle.graft_model.specs.declared.event.RouterEvent.TheVariants.{Answer, Collect}
use Rattle.graft_actors.specs.Actors.{Router, actor_at}
use Rattle.graft_actors.proofs.Numbers.{there as is_there}
use Rattle.graft_actors.specs.Notes.{WroteOne, dropped}
use Rattle.graft_actors.proofs.Welcome.{router_asked, router_answered}
use Rattle.router_core.specs.Confirming.{IsAwaited, HearsAnswer}
use Rattle.router_core.specs.Parts.{router_part, RouterInvariant, KeepsPlace}
use Rattle.router_core.specs.Places.{place_of, place_at}
use Rattle.router_core.specs.Rounds.{WritesEvent}
use Rattle.router_core.specs.Takes.{RouterTakesIt}
use Rattle.router_core.specs.Visits.{SameButPlaces}
use Rattle.router_core.specs.declared.fields.Fields.{Fields}
use Rattle.router_core.specs.declared.place.Errand.{Errand}
use Rattle.router_core.specs.declared.place.Errand.TheVariants.{Leaving, Owing, Asking}
use Rattle.router_core.specs.declared.place.Place.{Place}
use Rattle.router_core.specs.declared.place.Place.TheVariants.{Live, Shadow}
use Rattle.router_core.proofs.Dids.{did_same, same_router}
use Rattle.router_tables.proofs.Points.{one_or_other}
use Rattle.router_core.proofs.Kept.{live_is, stays_itself}
use Rattle.router_core.proofs.PlaceLists.{same_there}
use Rattle.router_core.proofs.PlaceSteps.{elsewhere, here, keeps_at, part_at}
use Rattle.router_core.proofs.Takings.{drops, is_router, all_stay, takes_then}

module _ (f : Fields) (p q : Post (Item RunningSession)) (from k : ℕ) (peering : PeeringId) (keeps : RouterInvariant f) where
  pub drops_asked : f.routers ≤ from → WroteOne p dropped [] q → RouterTakesIt from (items.Asked k peering) f p f q
  drops_asked past wrote = drops f p q from (items.Asked k peering) keeps wrote
      (λ w. let below : from < routers_in f.known.setup = is_router f.known.setup from
      ((router_asked carried f.known.setup from f.number.0 k (router_part f) peering).0 w) in omega (arith, below, past, keeps.routers))

  pub drops_answered : f.routers ≤ from → WroteOne p dropped [] q → RouterTakesIt from (items.Answered k peering) f p f q
  drops_answered past wrote = drops f p q from (items.Answered k peering) keeps wrote
      (λ w. let below : from < routers_in f.known.setup = is_router f.known.setup from
      ((router_answered carried f.known.setup from f.number.0 k (router_part f) peering).0 w) in omega (arith, below, past, keeps.routers))

  module _ (below : from < f.routers) where
    known : from < routers_in f.known.setup
    known = omega (arith, below, keeps.routers)

    at_from : actor_at f.known.setup from ≡ Some (Router from)
    at_from = is_there f.known.setup (Router from) known

    -- it answers at once
    pub answers : WritesEvent p (Answer from) ((from, items.Answered k peering) ∷ []) q → RouterTakesIt from (items.Asked k peering) f p f q
    answers wrote = takes_then f f f p q q from (items.Asked k peering) (Answer from) []
        (record {
          router = same_router f;
          sent = (from, items.Answered k peering) ∷ [];
          wrote = wrote;
          welcome = (router_asked carried f.known.setup from f.number.0 k (router_part f) peering).1 (from, at_from);
          name = Router from;
          number = refl;
          took = MeshIn from (Asked k peering.0);
          thing = refl;
          gave = MeshTo from (Answered k peering.0) ∷ [];
          row = record { graft = k; peering = peering.0; takes = refl; sends = refl; stays = refl };
          sends = refl;
          known = (known, tt);
          fit = ((Router from, at_from, tt), tt);
          careful = tt;
          still = λ t. refl;
        })
        (λ t. did_same f f q t (same_router f) refl)
        (refl, tt)
        (all_stay f f refl)
        refl
        keeps

    -- an answer that nothing waits for changes nothing
    ignores : ((source : ℕ) (session : SessionValue) → place_of (place_at f.places.places peering.0)
        ≡ model.Live session (Some (model.Asking (record { graft = k; source = source; next = from }))) → ⊥)
        → WritesEvent p (Collect from) [] q → RouterTakesIt from (items.Answered k peering) f p f q
    ignores not wrote = takes_then f f f p q q from (items.Answered k peering) (Collect from) []
        (record {
          router = same_router f;
          sent = [];
          wrote = wrote;
          welcome = (router_answered carried f.known.setup from f.number.0 k (router_part f) peering).1 (from, at_from);
          name = Router from;
          number = refl;
          took = MeshIn from (Answered k peering.0);
          thing = refl;
          gave = [];
          row = inr (record {
            graft = k;
            peering = peering.0;
            takes = refl;
            sends = refl;
            unawaited = λ source session live. not source session live.is;
            stays = refl;
          });
          sends = refl;
          known = tt;
          fit = tt;
          careful = tt;
          still = λ t. refl;
        })
        (λ t. did_same f f q t (same_router f) refl)
        (refl, tt)
        (all_stay f f refl)
        refl
        keeps

    -- the answer that a session waits for
    module _ (g : Fields) (s : RunningSession) (landing : Landing) (is : place_at f.places.places peering.0 ≡ Some (Live s (Some (Asking landing))))
        (awaited : IsAwaited landing k from) (same : SameButPlaces f g)
        (held : g.places ≡ with_place f.places peering.0 (Some (Live s (Some (Owing (record landing { next = landing.next + 1 })))))) where
      abbrev next_place : Option Place
      next_place = Some (Live s (Some (Owing (record landing { next = landing.next + 1 }))))

      inside : peering.0 < length f.places.places
      inside = elim (cases_lt peering.0 (length f.places.places)) [
        | inl under ↦ under
        | inr past ↦ absurd (let e : None ≡ Some (Live s (Some (Asking landing))) = sym (get_or_past f.places.places peering.0 None past) ∙ is in
            (let x : ⊥ = cc in x))
      ]

      place_is : KeepsPlace f.known.setup f.number.0 peering.0 ((rib_of f.rib).entries peering.0)
          (table_at f.due_out peering.0) (Some (Live s (Some (Asking landing))))
      place_is = subst (KeepsPlace f.known.setup f.number.0 peering.0 ((rib_of f.rib).entries peering.0) (table_at f.due_out peering.0)) is
          (keeps.each peering.0)

      one_more : landing.next + 1 ≡ suc from
      one_more = let e : landing.next ≡ from = awaited.1 in omega (arith, e)

      live_same : (u v : RunningSession) (o w : Option Errand) → Some (Live u o) ≡ Some (Live s (Some (Asking landing))) → Some (Live v w) ≡ next_place → v ≡ u
      live_same u v o w a b = let x : u ≡ s = cc in let y : v ≡ s = cc in y ∙ sym x

      counts : WritesEvent p (Collect from) [] q → RouterTakesIt from (items.Answered k peering) f p g q
      counts wrote = takes_then f g g p q q from (items.Answered k peering) (Collect from) []
          (record {
            router = record { setup = ap (λ (h : Fields). h.known.setup) same; number = ap (λ (h : Fields). h.number) same };
            sent = [];
            wrote = wrote;
            welcome = (router_answered carried f.known.setup from f.number.0 k (router_part f) peering).1 (from, at_from);
            name = Router from;
            number = refl;
            took = MeshIn from (Answered k peering.0);
            thing = refl;
            gave = [];
            row = inl (record {
              graft = k;
              peering = peering.0;
              takes = refl;
              sends = refl;
              source = landing.ids.source.0;
              session = s.session;
              live = record {
                is = ap place_of is
                    ∙ (λ i. model.Live s.session (Some (model.Asking (record { graft = awaited.0 i; source = landing.ids.source.0; next = awaited.1 i }))));
              };
              effect = part_at f g peering.0 next_place inside same held
                  ∙ (λ i. let v : RouterPart = record (router_part f) {
                    places = at (router_part f).places peering.0
                        (model.Live s.session (Some (model.Owing (record { graft = awaited.0 i; source = landing.ids.source.0; next = one_more i }))));
                  } in v);
            });
            sends = refl;
            known = tt;
            fit = tt;
            careful = tt;
            still = λ t. refl;
          })
          (λ t. did_same g g q t (same_router g) refl)
          (refl, tt)
          (λ n u v o w a b. stays_itself u v (elim (one_or_other peering.0 n) [
            | inl e ↦ live_same u v o w (sym a.is ∙ ap (place_at f.places.places) e ∙ is)
                (sym b.is ∙ ap (place_at g.places.places) e ∙ here f g peering.0 next_place inside same held)
            | inr not ↦ live_is f.places.places n u v o w a (record { is = sym (elsewhere f g peering.0 next_place inside same held n not) ∙ b.is })
          ]))
          (ap (λ (h : Fields). h.turns) same)
          (keeps_at f g peering.0 next_place inside same held keeps (place_is.0, place_is.1, place_is.2.0, place_is.3))

    -- ---- whichever it is

    no_vacant : (t : SessionValue) (w : model.Word) → model.Vacant ≡ model.Live t (Some (model.Asking w)) → ⊥
    no_vacant t w e = cc

    no_shadow : (m : ℕ) (t : SessionValue) (w : model.Word) → model.Shadow m ≡ model.Live t (Some (model.Asking w)) → ⊥
    no_shadow m t w e = cc

    none_or_asking : (s t : SessionValue) (w : model.Word) → model.Live s None ≡ model.Live t (Some (model.Asking w)) → ⊥
    none_or_asking s t w e = let x : None ≡ Some (model.Asking w) = cc in absurd cc

    leaving_or_asking : (s t : SessionValue) (o : model.Order) (w : model.Word)
        → model.Live s (Some (model.Leaving o)) ≡ model.Live t (Some (model.Asking w)) → ⊥
    leaving_or_asking s t o w e = let x : Some (model.Leaving o) ≡ Some (model.Asking w) = cc in let y : model.Leaving o ≡ model.Asking w = cc in absurd cc

    owing_or_asking : (s t : SessionValue) (v w : model.Word) → model.Live s (Some (model.Owing v)) ≡ model.Live t (Some (model.Asking w)) → ⊥
    owing_or_asking s t v w e = let x : Some (model.Owing v) ≡ Some (model.Asking w) = cc in let y : model.Owing v ≡ model.Asking w = cc in absurd cc

    same_word : (s t : SessionValue) (v w : model.Word) → model.Live s (Some (model.Asking v)) ≡ model.Live t (Some (model.Asking w)) → v ≡ w
    same_word s t v w e = let x : Some (model.Asking v) ≡ Some (model.Asking w) = cc in let y : model.Asking v ≡ model.Asking w = cc in cc

    module _ (g : Fields) (x : Option Place) (wrote : WritesEvent p (Collect from) [] q)
        (same : SameButPlaces f g) (held : g.places ≡ with_place f.places peering.0 x) where
      -- the place stays as it is
      idle : (y : Option Place) → place_at f.places.places peering.0 ≡ y → x ≡ y
          → ((source : ℕ) (session : SessionValue)
          → place_of y ≡ model.Live session (Some (model.Asking (record { graft = k; source = source; next = from }))) → ⊥)
          → RouterTakesIt from (items.Answered k peering) f p g q
      idle y is x_is not =
          let stays : g.places ≡ f.places = held ∙ ap (with_place f.places peering.0) (x_is ∙ sym is) ∙ same_there f.places peering.0 in
          let unchanged : g ≡ f = same ∙ ap (λ (places : PlaceList Place). let h : Fields = record f { places = places } in h) stays in
          subst (λ (h : Fields). RouterTakesIt from (items.Answered k peering) f p h q) (sym unchanged)
          (ignores (λ source session e. not source session (sym (ap place_of is) ∙ e)) wrote)

      pub collects : (y : Option Place) → place_at f.places.places peering.0 ≡ y → HearsAnswer k from y x
          → RouterTakesIt from (items.Answered k peering) f p g q
      collects None is goes = idle None is goes (λ source t e. no_vacant t (record { graft = k; source = source; next = from }) e)
      collects (Some (Live s None)) is goes =
          idle (Some (Live s None)) is goes (λ source t e. none_or_asking s.session t (record { graft = k; source = source; next = from }) e)
      collects (Some (Live s (Some (Leaving ids)))) is goes = idle (Some (Live s (Some (Leaving ids)))) is goes
          (λ source t e. leaving_or_asking s.session t _ (record { graft = k; source = source; next = from }) e)
      collects (Some (Live s (Some (Owing landing)))) is goes = idle (Some (Live s (Some (Owing landing)))) is goes
          (λ source t e. owing_or_asking s.session t _ (record { graft = k; source = source; next = from }) e)
      collects (Some (Live s (Some (Asking landing)))) is (inl (awaited, goes)) =
          counts g s landing is awaited same (held ∙ ap (with_place f.places peering.0) goes) wrote
      collects (Some (Live s (Some (Asking landing)))) is (inr (not, goes)) = idle (Some (Live s (Some (Asking landing)))) is goes
          (λ source t e.
          let w : record { graft = landing.ids.graft; source = landing.ids.source.0; next = landing.next }
          ≡ record { graft = k; source = source; next = from } = same_word s.session t _ (record { graft = k; source = source; next = from }) e in
          not (ap (λ (v : model.Word). v.graft) w, ap (λ (v : model.Word). v.next) w))
      collects (Some (Shadow away)) is goes =
          idle (Some (Shadow away)) is goes (λ source t e. no_shadow away.graft t (record { graft = k; source = source; next = from }) e)
