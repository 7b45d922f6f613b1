-- A session that comes back refused.
use Rattle.std.proofs.Common.{◌≡◌, ◌≢◌, ℕ, ◌+◌, ◌<◌, List, [], ◌∷◌, length, Option, Some, None, refl, sym, ap, subst, ◌∙◌, arith, inl, inr}
use Rattle.std.proofs.lemmas.List.{length-set}
use Rattle.ring_net.specs.declared.post.Post.{Post}
use Rattle.graft_steps.specs.declared.item.Item.{Item}
use Rattle.graft_steps.specs.declared.item.Item.TheVariants as items
use Rattle.session_places.specs.Places.{with_place}
use Rattle.router_core.specs.Rounds.{WritesEvent}
use Rattle.router_core.specs.declared.place.Errand.{Errand}
use Rattle.graft_steps.specs.declared.refusal.Refusal.{Refusal}
use Rattle.graft_steps.specs.declared.refusal.Outcome.TheVariants.{Refused}
use Rattle.bgp_session.specs.Running.{RunningSession, carried}
use Rattle.rib_stages.specs.Values.{rib_of, table_at}
use Rattle.session_value.specs.Sets.{Prefixes}
use Rattle.graft_model.specs.Parts as model
use Rattle.graft_model.specs.Parts.{RouterPart, Back}
use Rattle.graft_model.specs.RouterRows.{MeshIn, ReportOut}
use Rattle.graft_model.specs.Setups.{routers_in, peerings_in}
use Rattle.graft_model.specs.declared.event.RouterEvent.TheVariants.{Return}
use Rattle.graft_actors.specs.Actors.{Router, Operator, ReportItem, actor_at}
use Rattle.graft_actors.proofs.Numbers.{there as is_there, at_operator}
use Rattle.graft_actors.specs.Items.{IsOnItsWay}
use Rattle.graft_actors.specs.Notes.{WroteOne, dropped}
use Rattle.graft_actors.proofs.Welcome.{router_back}
use Rattle.router_core.specs.Parts.{router_part, RouterInvariant, KeepsPlace}
use Rattle.router_core.specs.Places.{place_of, place_at, IsShadowOf}
use Rattle.router_tables.specs.Dues.{IsDueAgain}
use Rattle.router_core.specs.Reading.{KeepsBut, OneSet, ReadsAll}
use Rattle.router_core.specs.Takes.{RouterTakesIt}
use Rattle.router_core.specs.declared.fields.Fields.{Fields}
use Rattle.router_core.specs.declared.place.Place.{Place}
use Rattle.router_core.specs.declared.place.Place.TheVariants.{Live, Shadow}
use Rattle.router_tables.proofs.Points.{one_or_other, at_is}
use Rattle.router_core.proofs.Kept.{places_at, placed_here, placed_else, rest_on, live_is, stays_itself}
use Rattle.router_core.proofs.GraftSteps.{away_of, away_within}
use Rattle.router_core.proofs.PlaceLists.{listed, rooms}
use Rattle.router_core.proofs.Takings.{drops, is_router, takes_then}

module _ (f mid h : Fields) (a b c : Post (Item RunningSession)) (from k to : ℕ) (s : RunningSession) (refusal : Refusal) (keeps : RouterInvariant f)
    (below : from < f.routers) (there : s.session.config.peering.0 < length f.places.places)
    (away : IsShadowOf (place_at f.places.places s.session.config.peering.0) k) (way : IsOnItsWay f.known.setup s.session)
    (to_is : to ≡ f.routers + length f.places.places) (wrote : WritesEvent a (Return from) ((to, items.Report k (Refused refusal)) ∷ []) b)
    (same : mid ≡ record f { places = mid.places; due_out = mid.due_out })
    (held : mid.places ≡ with_place f.places s.session.config.peering.0 (Some (Live s None)))
    (sets : OneSet f.due_out s.session.config.peering.0 mid.due_out)
    (due : IsDueAgain s.session.adj_rib_out f.rib.best (table_at mid.due_out s.session.config.peering.0)) where
  abbrev p : ℕ
  p = s.session.config.peering.0

  here : place_at mid.places.places p ≡ Some (Live s None)
  here = ap (λ (xs : List (Option Place)). place_at xs p) (listed held) ∙ placed_here f.places.places p (Some (Live s None)) there

  elsewhere : (n : ℕ) → n ≢ p → place_at mid.places.places n ≡ place_at f.places.places n
  elsewhere n not = ap (λ (xs : List (Option Place)). place_at xs n) (listed held) ∙ placed_else f.places.places p (Some (Live s None)) n not

  -- all is sound but that the session may have something to read
  pub keeps_return : KeepsBut p mid
  keeps_return = subst (KeepsBut p) (sym same) (record {
    rest = rest_on f (record f { places = mid.places; due_out = mid.due_out }) keeps refl
        (record {
          places = ap length (listed held) ∙ length-set f.places.places p (Some (Live s None));
          reserved = rooms held;
          due_in = refl;
          due_out = sets.length;
          config = refl;
          tellings = λ n out. refl;
        });
    here = record {
      session = s;
      errand = None;
      live = record { is = here };
      own = record { peering = refl; sends = way.sends; receives = way.receives };
      for_graft = tt;
      due = λ x has. way.established;
    };
    others = λ n not.
        subst (λ (x : Option Place). KeepsPlace f.known.setup f.number.0 n ((rib_of f.rib).entries n) (table_at mid.due_out n) x) (sym (elsewhere n not))
        (subst (λ (d : Prefixes). KeepsPlace f.known.setup f.number.0 n ((rib_of f.rib).entries n) d (place_at f.places.places n))
        (sym (sets.others n not)) (keeps.each n));
  })

  pub returns_back : ReadsAll p mid b h c → RouterTakesIt from (items.Back k s refusal) f a h c
  returns_back reads =
      let known : from < routers_in f.known.setup = omega (arith, below, keeps.routers) in
      let at_from : actor_at f.known.setup from ≡ Some (Router from) = is_there f.known.setup (Router from) known in
      let is_to : to ≡ routers_in f.known.setup + peerings_in f.known.setup = omega (arith, to_is, keeps.routers, keeps.places) in
      let shadow : place_of (place_at f.places.places p) ≡ model.Shadow k = ap place_of away.is ∙ ap model.Shadow away.graft in
      takes_then f mid h a b c from (items.Back k s refusal) (Return from) reads.events
      (record {
        router = record { setup = ap (λ (x : Fields). x.known.setup) same; number = ap (λ (x : Fields). x.number) same };
        sent = (to, items.Report k (Refused refusal)) ∷ [];
        wrote = wrote;
        welcome = (router_back carried f.known.setup from f.number.0 k (router_part f) s refusal).1 ((from, at_from), way, shadow);
        name = Router from;
        number = refl;
        took = MeshIn from (Back k p s.session refusal);
        thing = refl;
        gave = ReportOut (record { graft = k; outcome = Refused refusal }) ∷ [];
        row = record {
          graft = k;
          peering = p;
          session = s.session;
          refusal = refusal;
          takes = refl;
          shadow = shadow;
          sends = refl;
          due = record { members = due.members };
          effect = ap router_part same
              ∙ (λ i. let v : RouterPart = record (router_part f) {
                places = (ap (λ (xs : List (Option Place)). (λ n. place_of (place_at xs n))) (listed held)
                    ∙ places_at f.places.places p (Some (Live s None)) there) i;
                due_out = at_is (table_at f.due_out) (table_at mid.due_out) p (table_at mid.due_out p) refl (λ n not. sets.others n not) i;
              } in v);
        };
        sends = ap (λ (n : ℕ). (n, ReportItem (record { graft = k; outcome = Refused refusal })) ∷ []) is_to;
        known = (tt, tt);
        fit = ((Operator, ap (actor_at f.known.setup) is_to ∙ at_operator f.known.setup, tt), tt);
        careful = tt;
        still = λ t. refl;
      })
      reads.did
      (refl, reads.at)
      (λ n v w m q x y. elim (one_or_other p n) [
        | inl e ↦ absurd (no_live v m (sym away.is ∙ ap (place_at f.places.places) (sym e) ∙ x.is))
        | inr not ↦ stays_itself v w (live_is f.places.places n v w m q x (record { is = sym (reads.stays.others n not ∙ elsewhere n not) ∙ y.is }))
      ])
      (ap (λ (x : Fields). x.turns) reads.stays.same ∙ ap (λ (x : Fields). x.turns) same)
      reads.keeps
    where
      no_live : (v : RunningSession) (m : Option Errand) → Some (Shadow away.away) ≡ Some (Live v m) → ⊥
      no_live v m e = cc

-- a session that isn't a router's, or of no shadow of that graft, or isn't on its way
pub drops_back : (f : Fields) (a b : Post (Item RunningSession)) (from k : ℕ) (s : RunningSession) (refusal : Refusal) → RouterInvariant f
    → (from < f.routers → s.session.config.peering.0 < length f.places.places
    → IsShadowOf (place_at f.places.places s.session.config.peering.0) k → IsOnItsWay f.known.setup s.session → ⊥)
    → WroteOne a dropped [] b → RouterTakesIt from (items.Back k s refusal) f a f b
drops_back f a b from k s refusal keeps not wrote = drops f a b from (items.Back k s refusal) keeps wrote
    (λ w.
    let is = (router_back carried f.known.setup from f.number.0 k (router_part f) s refusal).0 w in
    let known : from < routers_in f.known.setup = is_router f.known.setup from is.0 in
    let away : IsShadowOf (place_at f.places.places s.session.config.peering.0) k = away_of (place_at f.places.places s.session.config.peering.0) k is.2 in
    not (omega (arith, known, keeps.routers)) (away_within f s.session.config.peering.0 k away) away is.1)
