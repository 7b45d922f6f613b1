-- What a router keeps while its places, its routes and what is due change.
use Rattle.std.proofs.Common.{◌≡◌, ◌≢◌, ℕ, ◌<◌, ◌≤◌, List, length, Option, is_some, refl, sym, ap, subst, ◌∙◌, arith, set, None, Some}
use Rattle.std.specs.FinMap as map
use Rattle.std.proofs.lemmas.List.{get_or-set_same, get_or-set_other}
use Rattle.session_value.specs.Sets.{Tellings}
use Rattle.rib_stages.specs.declared.config.RibConfig.{RibConfig}
use Rattle.rib_stages.specs.Values.{RibValue, rib_of, table_at}
use Rattle.graft_model.specs.Points.{at}
use Rattle.graft_model.specs.Parts.{RouterPart}
use Rattle.bgp_session.specs.Running.{RunningSession}
use Rattle.router_core.specs.declared.place.Errand.{Errand}
use Rattle.graft_model.specs.Setups.{routers_in}
use Rattle.actor_configs.specs.Configs.{IsRibOf}
use Rattle.router_tables.proofs.Points.{at_is}
use Rattle.router_core.specs.Parts.{RouterInvariant, KeepsAt, KeepsPlace, KeepsWith}
use Rattle.router_core.specs.Places.{place_of, place_at, RunsAt}
use Rattle.router_core.specs.Reading.{KeepsRest}
use Rattle.router_core.specs.Takes.{Stays}
use Rattle.router_core.specs.declared.fields.Fields.{Fields}
use Rattle.router_core.specs.declared.place.Place.{Place}
use Rattle.router_core.specs.declared.place.Place.TheVariants.{Live}

-- ---- places

pub placed_here : (places : List (Option Place)) (p : ℕ) (x : Option Place) → p < length places → place_at (set places p x) p ≡ x
placed_here places p x there = get_or-set_same places p x None there

pub placed_else : (places : List (Option Place)) (p : ℕ) (x : Option Place) (q : ℕ) → q ≢ p → place_at (set places p x) q ≡ place_at places q
placed_else places p x q not = get_or-set_other places p q x None not

-- the places of the part
pub places_at : (places : List (Option Place)) (p : ℕ) (x : Option Place) → p < length places
    → (λ q. place_of (place_at (set places p x) q)) ≡ at (λ q. place_of (place_at places q)) p (place_of x)
places_at places p x there = at_is (λ q. place_of (place_at places q)) (λ q. place_of (place_at (set places p x) q)) p
    (place_of x) (ap place_of (placed_here places p x there)) (λ q not. ap place_of (placed_else places p x q not))

-- ---- what is kept

-- all but the places, the routes, what is due and the count of turns is as it was
abbrev pub IsSteady : Fields → Fields → Type 0
IsSteady f g = g ≡ record f { places = g.places; rib = g.rib; due_in = g.due_in; due_out = g.due_out; turns = g.turns }

-- and there are as many places and sets, the same configuration of routes, and no more tellings of routers that aren't there
pub record SameSizes (f g : Fields) : Type 0 where
  pub places : length g.places.places ≡ length f.places.places
  pub reserved : g.places.room ≡ f.places.room
  pub due_in : length g.due_in ≡ length f.due_in
  pub due_out : length g.due_out ≡ length f.due_out
  pub config : g.rib.config ≡ f.rib.config
  pub tellings : (q : ℕ) → routers_in f.known.setup ≤ q → (rib_of g.rib).tellings q ≡ (rib_of f.rib).tellings q

module _ {Each : ℕ → Type 0} (f g : Fields) (k : KeepsWith Each f) (steady : IsSteady f g) (sizes : SameSizes f g) where
  -- with another part for each peering
  pub keeps_with : (Then : ℕ → Type 0) → ((p : ℕ) → Then p) → KeepsWith Then g
  keeps_with Then each = subst (KeepsWith Then) (sym steady) (record {
    there = k.there;
    routers = k.routers;
    few_routers = k.few_routers;
    few_peerings = k.few_peerings;
    room = k.room;
    reserved = sizes.reserved ∙ k.reserved;
    home_as = k.home_as;
    policies = k.policies;
    firsts = k.firsts;
    rib = subst (λ (config : RibConfig). IsRibOf f.known.setup f.number.0 config) (sym sizes.config) k.rib;
    places = sizes.places ∙ k.places;
    due_in = sizes.due_in ∙ k.due_in;
    due_out = sizes.due_out ∙ k.due_out;
    tellings = λ q from x. ap (λ (t : Tellings). is_some (map.get t x)) (sizes.tellings q from) ∙ k.tellings q from x;
    each = each;
  })

  pub rest_on : KeepsRest g
  rest_on = keeps_with (λ p. Unit {0}) (λ p. tt)

  pub keeps_on : ((p : ℕ) → KeepsPlace f.known.setup f.number.0 p ((rib_of g.rib).entries p) (table_at g.due_out p) (place_at g.places.places p))
      → RouterInvariant g
  keeps_on each = keeps_with (KeepsAt g) (λ p. subst (λ (h : Fields).
      KeepsPlace h.known.setup h.number.0 p ((rib_of g.rib).entries p) (table_at g.due_out p) (place_at g.places.places p)) (sym steady) (each p))

-- ---- the part with other routes

abbrev pub with_routes : RouterPart → RibValue → RouterPart
with_routes part rib = record part { entries = rib.entries; tellings = rib.tellings; best = rib.best; dirty = rib.dirty }

-- ---- a session that stays

pub live_is : (places : List (Option Place)) (p : ℕ) (s u : RunningSession) (o q : Option Errand) → RunsAt places p s o → RunsAt places p u q → u ≡ s
live_is places p s u o q a b = let e : Some (Live u q) ≡ Some (Live s o) = sym b.is ∙ a.is in cc

pub stays_itself : (s u : RunningSession) → u ≡ s → Stays s u
stays_itself s u e = subst (λ (v : RunningSession). Stays s v) (sym e) (record { acked = omega arith; emitted = refl; at_turn = refl })
