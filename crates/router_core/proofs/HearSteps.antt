-- What a router hears from another one.
use Rattle.std.proofs.Common.{◌≡◌, ℕ, ◌<◌, ◌≤◌, [], length, Option, Some, refl, sym, ap, subst, ◌∙◌, arith}
use Rattle.ring_net.specs.declared.post.Post.{Post}
use Rattle.graft_steps.specs.declared.item.Item.{Item}
use Rattle.graft_steps.specs.declared.item.Item.TheVariants as items
use Rattle.bgp_session.specs.Running.{RunningSession, carried}
use Rattle.bgp_types.specs.Prefixes.{PrefixValue}
use Rattle.bgp_types.specs.declared.attrs.Route.{Route}
use Rattle.loc_rib.specs.Values.{with_value}
use Rattle.session_value.specs.Sets.{Entries}
use Rattle.rib_stages.specs.Steps.{SetsTelling}
use Rattle.rib_stages.specs.Values.{RibValue, rib_of, table_at}
use Rattle.graft_model.specs.Parts.{Told}
use Rattle.graft_model.specs.RouterRows.{MeshIn}
use Rattle.graft_model.specs.Setups.{routers_in}
use Rattle.graft_model.specs.declared.event.RouterEvent.TheVariants.{Hear}
use Rattle.graft_actors.specs.Actors.{Router, actor_at}
use Rattle.graft_actors.proofs.Numbers.{there}
use Rattle.graft_actors.specs.Notes.{WroteOne, dropped}
use Rattle.graft_actors.proofs.Welcome.{router_told}
use Rattle.router_core.specs.Rounds.{WritesEvent}
use Rattle.router_core.specs.Parts.{router_part, RouterInvariant, KeepsPlace}
use Rattle.router_core.specs.Places.{place_at}
use Rattle.router_core.specs.Takes.{RouterTakesIt}
use Rattle.router_core.specs.declared.fields.Fields.{Fields}
use Rattle.router_core.proofs.Dids.{did_same, same_router}
use Rattle.router_tables.proofs.Points.{at_else}
use Rattle.router_core.proofs.Kept.{keeps_on, with_routes}
use Rattle.router_core.proofs.Takings.{drops, is_router, all_stay, takes_then}

module _ (f : Fields) (p q : Post (Item RunningSession)) (from : ℕ) (prefix : PrefixValue) (route : Option Route) (keeps : RouterInvariant f) where
  pub drops_told : f.routers ≤ from → WroteOne p dropped [] q → RouterTakesIt from (items.Told prefix route) f p f q
  drops_told past wrote = drops f p q from (items.Told prefix route) keeps wrote
      (λ w. let below : from < routers_in f.known.setup = is_router f.known.setup from
      ((router_told carried f.known.setup from f.number.0 (router_part f) prefix route).0 w) in omega (arith, below, past, keeps.routers))

  pub hears : (g : Fields) (m : ℕ) → m ≡ from → from < f.routers → WritesEvent p (Hear from) [] q → g ≡ record f { rib = g.rib }
      → SetsTelling (rib_of f.rib) m prefix route (rib_of g.rib) → RouterTakesIt from (items.Told prefix route) f p g q
  hears g m is below wrote same given =
      let sets : SetsTelling (rib_of f.rib) from prefix route (rib_of g.rib) =
      subst (λ (n : ℕ). SetsTelling (rib_of f.rib) n prefix route (rib_of g.rib)) is given in
      let known : from < routers_in f.known.setup = omega (arith, below, keeps.routers) in
      let at : actor_at f.known.setup from ≡ Some (Router from) = there f.known.setup (Router from) known in
      takes_then f g g p q q from (items.Told prefix route) (Hear from) []
      (record {
        router = record { setup = ap (λ (h : Fields). h.known.setup) same; number = ap (λ (h : Fields). h.number) same };
        sent = [];
        wrote = wrote;
        welcome = (router_told carried f.known.setup from f.number.0 (router_part f) prefix route).1 (from, at);
        name = Router from;
        number = refl;
        took = MeshIn from (Told prefix route);
        thing = refl;
        gave = [];
        row = record {
          prefix = prefix;
          route = route;
          takes = refl;
          sends = refl;
          dirty = sets.dirty;
          effect = ap router_part same ∙ ap (with_routes (router_part f)) sets.effect;
        };
        sends = refl;
        known = tt;
        fit = tt;
        careful = tt;
        still = λ t. refl;
      })
      (λ t. did_same g g q t (same_router g) refl)
      (refl, tt)
      (all_stay f g (ap (λ (h : Fields). h.places) same))
      (ap (λ (h : Fields). h.turns) same)
      (keeps_on f g keeps
      (subst (λ (h : Fields). h ≡ record f { places = h.places; rib = h.rib; due_in = h.due_in; due_out = h.due_out; turns = h.turns }) (sym same) refl)
      (record {
        places = ap (λ (h : Fields). length h.places.places) same;
        reserved = ap (λ (h : Fields). h.places.room) same;
        due_in = ap (λ (h : Fields). length h.due_in) same;
        due_out = ap (λ (h : Fields). length h.due_out) same;
        config = ap (λ (v : RibValue). v.config) sets.effect;
        tellings = λ n out. ap (λ (v : RibValue). v.tellings n) sets.effect
            ∙ at_else (rib_of f.rib).tellings from (with_value ((rib_of f.rib).tellings from) prefix route) n
            (λ e. let x : ⊥ = omega (arith, e, out, known) in x);
      })
      (λ n. subst (λ (h : Fields). KeepsPlace f.known.setup f.number.0 n ((rib_of g.rib).entries n) (table_at h.due_out n) (place_at h.places.places n))
      (sym same)
      (subst (λ (es : Entries). KeepsPlace f.known.setup f.number.0 n es (table_at f.due_out n) (place_at f.places.places n))
      (sym (ap (λ (v : RibValue). v.entries n) sets.effect)) (keeps.each n))))
