-- The sessions that are found in a channel, by the items that the world has there.
use Rattle.std.proofs.Common.{◌≡◌, ℕ, Bool, true, false, List, [], ◌∷◌, Option, Some, None, map, refl, sym, ◌∙◌, subst, inl, inr, arith}
use Rattle.std.specs.Prelude.{◌==◌, ◌&&◌, ◌||◌}
use Rattle.std.specs.List.{AllByRecursion, flat_map}
use Rattle.std.proofs.lemmas.Bool.Decides.{eqb_tells, nat_tests}
use Rattle.ring_net.specs.Phases.{is_edge}
use Rattle.tcp_seq.specs.Endpoint.{PlacedSegment}
use Rattle.tcp_seq.specs.declared.segment.Way.{Way}
use Rattle.tcp_seq.specs.declared.segment.Way.TheVariants.{Home, Remote}
use Rattle.graft_steps.specs.declared.item.Item.TheVariants as items
use Rattle.graft_model.specs.Setups.{Setup}
use Rattle.graft_model.specs.Parts.{World}
use Rattle.graft_actors.specs.Actors.{Thing, MeshItem, OutwardItem, SegmentItem, OrderItem, ReportItem, StepItem, ActorName, Router, FarSide, Operator}
use Rattle.graft_actors.specs.Seen.{channel_of}
use Rattle.graft_actors.specs.Items.{thing_of, segment_of, segment_thing}
use Rattle.bgp_session.specs.Running.{carried}
use Rattle.world_nodes.specs.Nodes.{Mail}
use Rattle.lab_seen.specs.Found.{carried_by}
use Rattle.lab_seen.specs.declared.found.Found.{Found}
use Rattle.lab_seen.proofs.Phases.{OnMesh}

-- only an item between routers carries a session
abbrev pub OnThing : (Found → Type 0) → Thing → Type 0
OnThing P (MeshItem item) = OnMesh P item
OnThing P (OutwardItem item) = Unit {0}
OnThing P (SegmentItem segment) = Unit {0}
OnThing P (OrderItem order) = Unit {0}
OnThing P (ReportItem report) = Unit {0}
OnThing P (StepItem step) = Unit {0}

module _ (P : Found → Type 0) where
  no_session : (way : Way) (segment : PlacedSegment) → OnThing P (segment_thing way segment)
  no_session Remote segment = tt
  no_session Home segment = tt

  -- what holds of each session that is found in a channel, holds of each that its things carry
  pub found_to_things : (setup : Setup) (xs : List Mail) → AllByRecursion P (flat_map carried_by xs)
      → AllByRecursion (OnThing P) (map (thing_of carried setup) xs)
  found_to_things setup [] all = tt
  found_to_things setup (items.Seg g ∷ xs) all = (no_session g.way (segment_of setup g), found_to_things setup xs all)
  found_to_things setup (items.PointAt k ∷ xs) all = (tt, found_to_things setup xs all)
  found_to_things setup (items.Told prefix route ∷ xs) all = (tt, found_to_things setup xs all)
  found_to_things setup (items.Moved k capsule ∷ xs) all = (λ same. all.0, found_to_things setup xs all.1)
  found_to_things setup (items.Back k capsule refusal ∷ xs) all = (λ same. all.0, found_to_things setup xs all.1)
  found_to_things setup (items.Asked k peering ∷ xs) all = (tt, found_to_things setup xs all)
  found_to_things setup (items.Answered k peering ∷ xs) all = (tt, found_to_things setup xs all)
  found_to_things setup (items.Done k peering ∷ xs) all = (tt, found_to_things setup xs all)
  found_to_things setup (items.GraftOrder k peering target ∷ xs) all = (tt, found_to_things setup xs all)
  found_to_things setup (items.Report k outcome ∷ xs) all = (tt, found_to_things setup xs all)
  found_to_things setup (items.SayOrder step ∷ xs) all = (tt, found_to_things setup xs all)

  -- and the other way
  pub things_to_found : (setup : Setup) (xs : List Mail) → AllByRecursion (OnThing P) (map (thing_of carried setup) xs)
      → AllByRecursion P (flat_map carried_by xs)
  things_to_found setup [] all = tt
  things_to_found setup (items.Seg g ∷ xs) all = things_to_found setup xs all.1
  things_to_found setup (items.PointAt k ∷ xs) all = things_to_found setup xs all.1
  things_to_found setup (items.Told prefix route ∷ xs) all = things_to_found setup xs all.1
  things_to_found setup (items.Moved k capsule ∷ xs) all = (all.0 refl, things_to_found setup xs all.1)
  things_to_found setup (items.Back k capsule refusal ∷ xs) all = (all.0 refl, things_to_found setup xs all.1)
  things_to_found setup (items.Asked k peering ∷ xs) all = things_to_found setup xs all.1
  things_to_found setup (items.Answered k peering ∷ xs) all = things_to_found setup xs all.1
  things_to_found setup (items.Done k peering ∷ xs) all = things_to_found setup xs all.1
  things_to_found setup (items.GraftOrder k peering target ∷ xs) all = things_to_found setup xs all.1
  things_to_found setup (items.Report k outcome ∷ xs) all = things_to_found setup xs all.1
  things_to_found setup (items.SayOrder step ∷ xs) all = things_to_found setup xs all.1

  all_made : {B : Type 0} (f : B → Thing) (xs : List B) → AllByRecursion (λ x. OnThing P (f x)) xs → AllByRecursion (OnThing P) (map f xs)
  all_made f [] all = tt
  all_made f (x ∷ xs) all = (all.0, all_made f xs all.1)

  made : {B : Type 0} (f : B → Thing) → ((x : B) → OnThing P (f x)) → (xs : List B) → AllByRecursion (OnThing P) (map f xs)
  made f each [] = tt
  made f each (x ∷ xs) = (each x, made f each xs)

  -- what holds of each item between routers, holds in each channel
  pub on_channels : (w : World) → ((a b : ℕ) → AllByRecursion (OnMesh P) (w.mesh a b)) → (from to : Option ActorName)
      → AllByRecursion (OnThing P) (channel_of w from to)
  on_channels w each None to = tt
  on_channels w each (Some (Router q)) None = tt
  on_channels w each (Some (FarSide q)) None = tt
  on_channels w each (Some Operator) None = tt
  on_channels w each (Some (Router q)) (Some (Router r)) = all_made MeshItem (w.mesh q r) (each q r)
  on_channels w each (Some (Router r)) (Some (FarSide p)) = made OutwardItem (λ x. tt) (w.outward r p)
  on_channels w each (Some (Router r)) (Some Operator) = made ReportItem (λ x. tt) (w.reports r)
  on_channels w each (Some (FarSide p)) (Some (Router r)) = made SegmentItem (λ x. tt) (w.inward p r)
  on_channels w each (Some (FarSide p)) (Some (FarSide q)) = tt
  on_channels w each (Some (FarSide p)) (Some Operator) = tt
  on_channels w each (Some Operator) (Some (Router r)) = made OrderItem (λ x. tt) (w.orders r)
  on_channels w each (Some Operator) (Some (FarSide p)) = made StepItem (λ x. tt) (w.says p)
  on_channels w each (Some Operator) (Some Operator) = tt

-- ---- edges

is_itself : (a b : ℕ) → (a == a && b == b) ≡ true
is_itself a b = grind (arith, nat_tests)

later : (test rest : Bool) → rest ≡ true → (test || rest) ≡ true
later true rest e = refl
later false rest e = e

-- what holds at each edge holds of all edges of the list
pub all_edges : (P : ℕ → ℕ → Type 0) (edges : List (ℕ × ℕ)) → ((a b : ℕ) → is_edge edges a b ≡ true → P a b) → AllByRecursion (λ e. P e.0 e.1) edges
all_edges P [] each = tt
all_edges P ((a, b) ∷ edges) each = (
  each a b (rw (is_itself a b) refl),
  all_edges P edges (λ x y e. each x y (later (a == x && b == y) (is_edge edges x y) e)),
)

edge_is : (P : ℕ → ℕ → Type 0) (a b x y : ℕ) → P a b → (a == x && b == y) ≡ true → P x y
edge_is P a b x y here e = elim (eqb_tells a x) [
  | inl s ↦ elim (eqb_tells b y) [
    | inl t ↦ subst (λ n. P n y) s.1 (subst (λ n. P a n) t.1 here)
    | inr ne ↦ absurd (let f : false ≡ true = sym (rw (s.0, ne.0) refl) ∙ e in cc)
  ]
  | inr ne ↦ absurd (let f : false ≡ true = sym (rw (ne.0) refl) ∙ e in cc)
]

pub edge_of_all : (P : ℕ → ℕ → Type 0) (edges : List (ℕ × ℕ)) (x y : ℕ) → AllByRecursion (λ e. P e.0 e.1) edges → is_edge edges x y ≡ true → P x y
edge_of_all P [] x y all e = absurd (let f : false ≡ true = e in cc)
edge_of_all P ((a, b) ∷ edges) x y all e = by_test (a == x && b == y) refl e (edge_of_all P edges x y all.1) where
  by_test : (t : Bool) → (a == x && b == y) ≡ t → (t || is_edge edges x y) ≡ true → (is_edge edges x y ≡ true → P x y) → P x y
  by_test true here e rest = edge_is P a b x y all.0 here
  by_test false apart e rest = rest e
