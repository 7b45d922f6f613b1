-- The prefixes of every world that a run leads to, and of the events that follow on it.
use Rattle.std.proofs.Common.{◌≡◌, ◌==◌, ℕ, Bool, true, false, cond, List, [], ◌∷◌, Option, Some, None, refl, sym, subst}
use Rattle.std.specs.Prelude.{slice_get, option_map, unwrap_or, All}
use Rattle.std.specs.FinMap as map
use Rattle.std.specs.List.{AllByRecursion}
use Rattle.std.proofs.lemmas.List.Elements.{recursion_from_All}
use Rattle.std.proofs.lemmas.Option.{slice_get_within, get_or_from_slice_get}
use Rattle.bgp_types.specs.declared.attrs.Attrs.{Attrs}
use Rattle.bgp_types.specs.Prefixes.{IsPrefix}
use Rattle.session_value.specs.Sessions.{begun}
use Rattle.graft_model.specs.Codes.{HasPrefix}
use Rattle.graft_model.specs.First.{first_world, place_in}
use Rattle.graft_model.specs.Parts.{Vacant, Live, Entry, RouterPart, Mesh, World}
use Rattle.graft_model.specs.RouterRows.{RouterTaken, OrderIn, SegmentIn, MeshIn, RouterSent, MeshTo, OutwardTo, ReportOut}
use Rattle.graft_model.specs.Setups.{Setup, RouterSetup, PeeringSetup, IsSetup}
use Rattle.graft_model.specs.declared.event.RouterEvent.{RouterEvent}
use Rattle.graft_model.specs.declared.event.RouterEvent.TheVariants.{Decide, Tell}
use Rattle.graft_model.specs.Steps.{Event, ByRouter, ByFar, ByOperator, Step, router_row}
use Rattle.graft_laws.specs.Keeps.{Reached}
use Rattle.graft_laws.specs.Moves.{RouterHeads, mesh_taken, mesh_sent}
use Rattle.graft_laws.specs.Phases.{only2}
use Rattle.graft_laws.specs.Ranges.{IsInRange}
use Rattle.graft_laws.proofs.FarOctets.{unread_octets}
use Rattle.graft_laws.proofs.Lists.{all_head, all_join, all_moves}
use Rattle.graft_laws.proofs.Moves.{router_moves, far_moves, operator_moves}
use Rattle.graft_laws.proofs.Routers.{at_keeps}
use Rattle.graft_laws.proofs.Runs.{carried}
use Rattle.spelled_events.specs.Spelled.{IsSpelled}
use Rattle.spelled_events.proofs.Tables.{none_has, puts_has}
use Rattle.spelled_events.proofs.Routers.{IsSpelledPlace, IsSpelledItem, IsSpelledTaken, IsSpelledSent, IsSpelledPart, Spells, spelled_row}

-- every router's part, and all that goes between routers
record AreSpelled (w : World) : Type 0 where
  routers : (r : ℕ) → IsSpelledPart (w.router r)
  mesh : (a b : ℕ) → AllByRecursion IsSpelledItem (w.mesh a b)

taken_spelled : (w : World) (r : ℕ) (taken : Option RouterTaken) → RouterHeads w r taken → ((a b : ℕ) → AllByRecursion IsSpelledItem (w.mesh a b))
    → IsSpelledTaken taken
taken_spelled w r None h all = tt
taken_spelled w r (Some (OrderIn order)) h all = tt
taken_spelled w r (Some (SegmentIn p segment)) h all = tt
taken_spelled w r (Some (MeshIn q item)) h all = all_head IsSpelledItem (w.mesh q r) h.rest item h.is (all q r)

one_spelled : (t u : Bool) (item : Mesh) → IsSpelledItem item → AllByRecursion IsSpelledItem (cond t (cond u (item ∷ []) []) [])
one_spelled true true item own = (own, tt)
one_spelled true false item own = tt
one_spelled false u item own = tt

sent_spelled : (r : ℕ) (sent : List RouterSent) (a b : ℕ) → AllByRecursion IsSpelledSent sent → AllByRecursion IsSpelledItem (mesh_sent r sent a b)
sent_spelled r [] a b all = tt
sent_spelled r (MeshTo q item ∷ sent) a b all =
    all_join IsSpelledItem (only2 r q item a b) (mesh_sent r sent a b) (one_spelled (a == r) (b == q) item all.0) (sent_spelled r sent a b all.1)
sent_spelled r (OutwardTo p item ∷ sent) a b all = sent_spelled r sent a b all.1
sent_spelled r (ReportOut report ∷ sent) a b all = sent_spelled r sent a b all.1

-- what a router decides and tells is dirty or due
row_spelled : (setup : Setup) (r : ℕ) (event : RouterEvent) (before : RouterPart) (taken : Option RouterTaken) (sent : List RouterSent) (after : RouterPart)
    → IsSpelledPart before → router_row setup r event before taken sent after → HasPrefix event
row_spelled setup r (Decide prefix) before taken sent after spelled row = spelled.dirty prefix row.dirty
row_spelled setup r (Tell q prefix) before taken sent after spelled row = spelled.due_in q prefix row.due
row_spelled setup r event before taken sent after spelled row = tt

module _ (setup : Setup) (sound : IsSetup setup) (ranges : IsInRange setup) where
  then_spelled : (event : Event) (w v : World) → Reached setup w → Step setup event w v → AreSpelled w → AreSpelled v
  then_spelled (ByRouter q event) w v reached x all =
      let m = router_moves setup q event w v x in
      let f : Spells x.part x.sent = spelled_row setup q (w.router q) x.part (all.routers q) event x.taken x.sent
      (λ p s o live. unread_octets setup ranges w sound reached q p s o live) (taken_spelled w q x.taken m.heads all.mesh) x.row in
      record {
        routers = λ r. subst (λ (g : ℕ → RouterPart). IsSpelledPart (g r)) (sym m.router)
            (at_keeps (λ n part. IsSpelledPart part) w.router q x.part f.part all.routers r);
        mesh = λ a b. all_moves IsSpelledItem (mesh_taken q x.taken a b) (v.mesh a b) (w.mesh a b)
            (mesh_sent q x.sent a b) (m.mesh a b) (all.mesh a b) (sent_spelled q x.sent a b f.items);
      }
  then_spelled (ByFar p event) w v reached x all =
      let m = far_moves setup p event w v x in
      record {
        routers = λ r. subst (λ (g : ℕ → RouterPart). IsSpelledPart (g r)) (sym m.router) (all.routers r);
        mesh = λ a b. subst (λ (g : ℕ → ℕ → List Mesh). AllByRecursion IsSpelledItem (g a b)) (sym m.mesh) (all.mesh a b);
      }
  then_spelled (ByOperator event) w v reached x all =
      let m = operator_moves setup event w v x in
      record {
        routers = λ r. subst (λ (g : ℕ → RouterPart). IsSpelledPart (g r)) (sym m.router) (all.routers r);
        mesh = λ a b. subst (λ (g : ℕ → ℕ → List Mesh). AllByRecursion IsSpelledItem (g a b)) (sym m.mesh) (all.mesh a b);
      }

  first_place : (r : ℕ) (o : Option PeeringSetup) → IsSpelledPlace (place_in r o)
  first_place r None = tt
  first_place r (Some peering) = by_start (peering.start == r) where
    by_start : (t : Bool) → IsSpelledPlace (cond t (Live (begun peering.config) None) Vacant)
    by_start true = none_has Attrs
    by_start false = tt

  own_networks : (r : ℕ) (o : Option RouterSetup) → slice_get setup.routers r ≡ o
      → AllByRecursion IsPrefix (unwrap_or (option_map (λ router. router.networks) o) [])
  own_networks r None is = tt
  own_networks r (Some router) is = recursion_from_All IsPrefix router.networks
      (subst (λ (x : RouterSetup). All IsPrefix x.networks) (get_or_from_slice_get setup.routers r router router is)
      (sound.networks r router (slice_get_within setup.routers r router is)))

  first_spelled : AreSpelled (first_world setup)
  first_spelled = record {
    routers = λ r. record {
      places = λ p. first_place r (slice_get setup.peerings p);
      entries = λ p. none_has Entry;
      dirty = puts_has _ map.empty (own_networks r (slice_get setup.routers r) refl) (none_has _);
      due_in = λ q. none_has _;
    };
    mesh = λ a b. tt;
  }

  pub always_spelled : (w : World) (event : Event) (after : World) → Reached setup w → Step setup event w after → IsSpelled event
  always_spelled w (ByRouter r event) after reached x =
      row_spelled setup r event (w.router r) x.taken x.sent x.part ((carried setup AreSpelled first_spelled then_spelled w reached).routers r) x.row
  always_spelled w (ByFar p event) after reached x = tt
  always_spelled w (ByOperator event) after reached x = tt
