-- A session that moves here: it lands, or is turned back, or dropped.
use Rattle.std.proofs.Common.{◌≡◌, ◌≢◌, ℕ, ◌+◌, ◌<◌, List, [], ◌∷◌, length, Option, Some, None, refl, sym, ap, subst, ◌∙◌, arith, inl, inr}
use Rattle.std.proofs.lemmas.List.{length-set}
use Rattle.ring_net.specs.declared.post.Post.{Post}
use Rattle.graft_steps.specs.declared.item.Item.{Item}
use Rattle.graft_steps.specs.declared.item.Item.TheVariants as items
use Rattle.graft_steps.specs.Landings.{Landing}
use Rattle.router_core.specs.Rounds.{WritesEvent}
use Rattle.router_core.specs.declared.place.Errand.{Errand}
use Rattle.router_core.specs.declared.place.Errand.TheVariants.{Owing}
use Rattle.graft_steps.specs.declared.refusal.Refusal.{Refusal}
use Rattle.bgp_session.specs.Running.{RunningSession, carried}
use Rattle.rib_stages.specs.Values.{RibValue, rib_of, table_at}
use Rattle.session_value.specs.Sets.{Entries, Prefixes}
use Rattle.graft_model.specs.Points.{at}
use Rattle.graft_model.specs.GraftRows.{Comes, refusal_of}
use Rattle.graft_model.specs.Parts as model
use Rattle.graft_model.specs.Parts.{RouterPart, Moved, Back, PointAt}
use Rattle.graft_model.specs.RouterRows.{MeshIn, MeshTo, OutwardTo}
use Rattle.graft_model.specs.Setups.{routers_in, peerings_in}
use Rattle.graft_model.specs.declared.event.RouterEvent.TheVariants.{Land, TurnBack}
use Rattle.graft_actors.specs.Actors.{Router, FarSide, OutwardItem, actor_at}
use Rattle.graft_actors.proofs.Numbers.{there as is_there}
use Rattle.graft_actors.specs.Items.{IsOnItsWay}
use Rattle.graft_actors.specs.Notes.{WroteOne, dropped}
use Rattle.graft_actors.proofs.Welcome.{router_moved}
use Rattle.router_core.specs.Parts.{router_part, RouterInvariant, KeepsPlace}
use Rattle.router_tables.specs.Owned.{HasNoEntry}
use Rattle.router_core.specs.Places.{place_of, place_at, word_of}
use Rattle.router_core.specs.Reading.{KeepsBut, ReadsAll, SettlesIn}
use Rattle.router_core.specs.Takes.{RouterTakesIt}
use Rattle.router_core.specs.declared.fields.Fields.{Fields}
use Rattle.router_core.specs.declared.place.Place.{Place}
use Rattle.router_core.specs.declared.place.Place.TheVariants.{Live, Shadow}
use Rattle.router_core.proofs.Dids.{did_same, same_router}
use Rattle.router_tables.proofs.Points.{one_or_other, at_is, at_else}
use Rattle.router_core.proofs.Kept.{places_at, placed_here, placed_else, rest_on, with_routes, live_is, stays_itself}
use Rattle.router_core.proofs.LandSteps.{brings_in}
use Rattle.router_core.proofs.PlaceLists.{listed, rooms}
use Rattle.router_core.proofs.Takings.{drops, is_router, all_stay, takes_then}

vacant_of : (place : Option Place) → place_of place ≡ model.Vacant → place ≡ None
vacant_of None e = refl
vacant_of (Some (Live s o)) e = absurd (let x : ⊥ = cc in x)
vacant_of (Some (Shadow away)) e = absurd (let x : ⊥ = cc in x)

-- a session that isn't a router's, or whose place is taken, or that isn't on its way
pub drops_moved : (f : Fields) (a b : Post (Item RunningSession)) (from k : ℕ) (s : RunningSession) → RouterInvariant f
    → (from < f.routers → s.session.config.peering.0 < length f.places.places
    → place_at f.places.places s.session.config.peering.0 ≡ None → IsOnItsWay f.known.setup s.session → ⊥)
    → WroteOne a dropped [] b → RouterTakesIt from (items.Moved k s) f a f b
drops_moved f a b from k s keeps not wrote = drops f a b from (items.Moved k s) keeps wrote
    (λ w.
    let is = (router_moved carried f.known.setup from f.number.0 k (router_part f) s).0 w in
    let known : from < routers_in f.known.setup = is_router f.known.setup from is.0 in
    not (omega (arith, known, keeps.routers)) (omega (arith, is.2, keeps.places)) (vacant_of (place_at f.places.places s.session.config.peering.0) is.3) is.1)

module _ (f : Fields) (a b : Post (Item RunningSession)) (from k : ℕ) (s : RunningSession) (keeps : RouterInvariant f)
    (below : from < f.routers) (there : s.session.config.peering.0 < length f.places.places)
    (vacant : place_at f.places.places s.session.config.peering.0 ≡ None) (way : IsOnItsWay f.known.setup s.session) where
  abbrev p : ℕ
  p = s.session.config.peering.0

  known : from < routers_in f.known.setup
  known = omega (arith, below, keeps.routers)

  peering_known : p < peerings_in f.known.setup
  peering_known = omega (arith, there, keeps.places)

  at_from : actor_at f.known.setup from ≡ Some (Router from)
  at_from = is_there f.known.setup (Router from) known

  abbrev comes : Comes f.known.setup from (router_part f) (Some (MeshIn from (Moved k p s.session)))
  comes = record { graft = k; peering = p; session = s.session; takes = refl; known = peering_known; vacant = ap place_of vacant }

  -- it is sent back
  pub turns_back : (refusal : Refusal) → refusal_of f.known.setup f.number.0 (router_part f) s.session ≡ Some refusal
      → WritesEvent a (TurnBack from) ((from, items.Back k s refusal) ∷ []) b → RouterTakesIt from (items.Moved k s) f a f b
  turns_back refusal cause wrote = takes_then f f f a b b from (items.Moved k s) (TurnBack from) []
      (record {
        router = same_router f;
        sent = (from, items.Back k s refusal) ∷ [];
        wrote = wrote;
        welcome = (router_moved carried f.known.setup from f.number.0 k (router_part f) s).1 ((from, at_from), way, peering_known, ap place_of vacant);
        name = Router from;
        number = refl;
        took = MeshIn from (Moved k p s.session);
        thing = refl;
        gave = MeshTo from (Back k p s.session refusal) ∷ [];
        row = record { comes = comes; refusal = refusal; cause = cause; sends = refl; stays = refl };
        sends = refl;
        known = (known, tt);
        fit = ((Router from, at_from, way), tt);
        careful = tt;
        still = λ t. refl;
      })
      (λ t. did_same f f b t (same_router f) refl)
      (refl, tt)
      (all_stay f f refl)
      refl
      keeps

  -- it lands
  module _ (mid h : Fields) (c : Post (Item RunningSession)) (far : ℕ) (landed : Landing) (settles : SettlesIn f s landed mid) (landed_is : landed
      ≡ record { ids = record { graft = k; peering = s.session.config.peering; source = record { 0 = from }; target = f.number }; next = 0 })
      (far_is : far ≡ f.routers + p) (admitted : refusal_of f.known.setup f.number.0 (router_part f) s.session ≡ None)
      (wrote : WritesEvent a (Land from) ((far, items.PointAt k) ∷ []) b) where
    abbrev held : Option Place
    held = Some (Live s (Some (Owing landed)))

    here : place_at mid.places.places p ≡ held
    here = ap (λ (xs : List (Option Place)). place_at xs p) (listed settles.held) ∙ placed_here f.places.places p held there

    elsewhere : (n : ℕ) → n ≢ p → place_at mid.places.places n ≡ place_at f.places.places n
    elsewhere n not = ap (λ (xs : List (Option Place)). place_at xs n) (listed settles.held) ∙ placed_else f.places.places p held n not

    entries_else : (n : ℕ) → n ≢ p → (rib_of mid.rib).entries n ≡ (rib_of f.rib).entries n
    entries_else n not = ap (λ (v : RibValue). v.entries n) settles.entered.effect ∙ at_else (rib_of f.rib).entries p ((rib_of mid.rib).entries p) n not

    no_entry : HasNoEntry ((rib_of f.rib).entries p)
    no_entry = (subst (λ (x : Option Place). KeepsPlace f.known.setup f.number.0 p ((rib_of f.rib).entries p) (table_at f.due_out p) x) vacant (keeps.each p)).0

    pub keeps_land : KeepsBut p mid
    keeps_land = subst (KeepsBut p) (sym settles.same) (record {
      rest = rest_on f (record f { places = mid.places; rib = mid.rib; due_out = mid.due_out }) keeps refl
          (record {
            places = ap length (listed settles.held) ∙ length-set f.places.places p held;
            reserved = rooms settles.held;
            due_in = refl;
            due_out = settles.sets.length;
            config = ap (λ (v : RibValue). v.config) settles.entered.effect;
            tellings = λ n out. ap (λ (v : RibValue). v.tellings n) settles.entered.effect;
          });
      here = record {
        session = s;
        errand = Some (Owing landed);
        live = record { is = here };
        own = record { peering = refl; sends = way.sends; receives = way.receives };
        for_graft = record {
          peering = ap (λ (l : Landing). l.ids.peering.0) landed_is;
          source = subst (λ (l : Landing). l.ids.source.0 < routers_in f.known.setup) (sym landed_is) known;
          target = ap (λ (l : Landing). l.ids.target.0) landed_is;
        };
        due = λ x has. way.established;
      };
      others = λ n not.
          subst (λ (x : Option Place). KeepsPlace f.known.setup f.number.0 n ((rib_of mid.rib).entries n) (table_at mid.due_out n) x) (sym (elsewhere n not))
          (subst (λ (es : Entries). KeepsPlace f.known.setup f.number.0 n es (table_at mid.due_out n) (place_at f.places.places n)) (sym (entries_else n not))
          (subst (λ (d : Prefixes). KeepsPlace f.known.setup f.number.0 n ((rib_of f.rib).entries n) d (place_at f.places.places n))
          (sym (settles.sets.others n not)) (keeps.each n)));
    })

    -- the place as the model has it
    lands_at : at (router_part f).places p (place_of held)
        ≡ at (router_part f).places p (model.Live s.session (Some (model.Owing (record { graft = k; source = from; next = 0 }))))
    lands_at = ap (λ (l : Landing). at (router_part f).places p (model.Live s.session (Some (model.Owing (word_of l))))) landed_is

    pub lands : ReadsAll p mid b h c → RouterTakesIt from (items.Moved k s) f a h c
    lands reads =
        let to_far : far ≡ routers_in f.known.setup + p = omega (arith, far_is, keeps.routers) in
        takes_then f mid h a b c from (items.Moved k s) (Land from) reads.events
        (record {
          router = record { setup = ap (λ (x : Fields). x.known.setup) settles.same; number = ap (λ (x : Fields). x.number) settles.same };
          sent = (far, items.PointAt k) ∷ [];
          wrote = wrote;
          welcome = (router_moved carried f.known.setup from f.number.0 k (router_part f) s).1 ((from, at_from), way, peering_known, ap place_of vacant);
          name = Router from;
          number = refl;
          took = MeshIn from (Moved k p s.session);
          thing = refl;
          gave = OutwardTo p (PointAt k) ∷ [];
          row = record {
            comes = comes;
            admitted = admitted;
            sends = refl;
            entries = brings_in f s.session (rib_of mid.rib) keeps no_entry settles.entered;
            dirty = settles.entered.dirty;
            due = record { members = settles.due.members };
            effect = ap router_part settles.same
                ∙ (λ i. let v : RouterPart = record (with_routes (router_part f) (settles.entered.effect i)) {
                  places = (ap (λ (xs : List (Option Place)). (λ n. place_of (place_at xs n))) (listed settles.held)
                      ∙ places_at f.places.places p held there ∙ lands_at) i;
                  due_out = at_is (table_at f.due_out) (table_at mid.due_out) p (table_at mid.due_out p) refl (λ n not. settles.sets.others n not) i;
                } in v);
          };
          sends = ap (λ (n : ℕ). (n, OutwardItem (PointAt k)) ∷ []) to_far;
          known = (peering_known, tt);
          fit = ((FarSide p, ap (actor_at f.known.setup) to_far ∙ is_there f.known.setup (FarSide p) peering_known, tt), tt);
          careful = tt;
          still = λ t. refl;
        })
        reads.did
        (refl, reads.at)
        (λ n v w m q x y. elim (one_or_other p n) [
          | inl e ↦ absurd (no_live v m (sym vacant ∙ ap (place_at f.places.places) (sym e) ∙ x.is))
          | inr not ↦ stays_itself v w (live_is f.places.places n v w m q x (record { is = sym (reads.stays.others n not ∙ elsewhere n not) ∙ y.is }))
        ])
        (ap (λ (x : Fields). x.turns) reads.stays.same ∙ ap (λ (x : Fields). x.turns) settles.same)
        reads.keeps
      where
        no_live : (v : RunningSession) (m : Option Errand) → None ≡ Some (Live v m) → ⊥
        no_live v m e = cc
