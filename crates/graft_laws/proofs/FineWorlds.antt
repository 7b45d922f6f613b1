-- What is to be told in a world that a run leads to can be written.
use Rattle.std.proofs.Common.{◌≡◌, ◌==◌, ℕ, ◌<◌, Bool, true, false, cond, List, [], ◌∷◌, Option, Some, None, refl, sym, ap, ◌∙◌, subst}
use Rattle.std.specs.Prelude.{slice_get, option_map, is_some}
use Rattle.std.specs.FinMap as map
use Rattle.std.specs.List.{AllByRecursion}
use Rattle.std.proofs.lemmas.Option.{same_Some}
use Rattle.bgp_types.specs.declared.attrs.Attrs.{Attrs}
use Rattle.bgp_types.specs.Prefixes.{PrefixValue}
use Rattle.bgp_types.specs.Tables.{prefix_cmp}
use Rattle.bgp_types.specs.Values.{is_no_host}
use Rattle.bgp_types.specs.Writable.{IsWritableAttrs}
use Rattle.session_value.specs.declared.config.SessionConfig.{SessionConfig}
use Rattle.session_value.specs.Sessions.{SessionValue, begun}
use Rattle.graft_model.specs.Decisions.{out_side, to_tell}
use Rattle.graft_model.specs.First.{first_world, place_in}
use Rattle.graft_model.specs.Parts.{Errand, Vacant, Live, RouterPart, Mesh, World}
use Rattle.graft_model.specs.RouterRows.{RouterTaken, OrderIn, SegmentIn, MeshIn, RouterSent, MeshTo, OutwardTo, ReportOut}
use Rattle.graft_model.specs.Setups.{Setup, PeeringSetup, IsSetup, peerings_in}
use Rattle.graft_model.specs.Steps.{Event, ByRouter, ByFar, ByOperator, Step}
use Rattle.graft_laws.specs.Configs.{HasOwnConfig}
use Rattle.graft_laws.specs.Keeps.{Reached, Has}
use Rattle.graft_laws.specs.Moves.{RouterHeads, mesh_taken, mesh_sent}
use Rattle.graft_laws.specs.Phases.{only2}
use Rattle.graft_laws.specs.Ranges.{IsInRange}
use Rattle.graft_laws.proofs.Configs.{always_own}
use Rattle.graft_laws.proofs.Deeds.{known_place}
use Rattle.graft_laws.proofs.FarOctets.{unread_octets}
use Rattle.graft_laws.proofs.FineRouters.{IsFinePlace, IsFineItem, IsFineTaken, IsFineSent, IsFinePart, Finely, no_entries, fine_row}
use Rattle.graft_laws.proofs.First.{some_peering}
use Rattle.graft_laws.proofs.AllRoutes.{all_of_none}
use Rattle.graft_laws.proofs.Sendable.{IsSendable}
use Rattle.graft_laws.proofs.Lists.{all_head, all_join, all_moves}
use Rattle.graft_laws.proofs.Moves.{router_moves, far_moves, operator_moves}
use Rattle.graft_laws.proofs.Phases.{live_session}
use Rattle.graft_laws.proofs.Routers.{at_keeps}
use Rattle.graft_laws.proofs.Runs.{carried, always_owned}
use Rattle.graft_laws.proofs.Sendable.{rules_in_range, tells_writable}

-- every router's part, and all that goes between routers
record AreFine (w : World) : Type 0 where
  routers : (r : ℕ) → IsFinePart (w.router r)
  mesh : (a b : ℕ) → AllByRecursion IsFineItem (w.mesh a b)

taken_fine : (w : World) (r : ℕ) (taken : Option RouterTaken) → RouterHeads w r taken → ((a b : ℕ) → AllByRecursion IsFineItem (w.mesh a b)) → IsFineTaken taken
taken_fine w r None h all = tt
taken_fine w r (Some (OrderIn order)) h all = tt
taken_fine w r (Some (SegmentIn p segment)) h all = tt
taken_fine w r (Some (MeshIn q item)) h all = all_head IsFineItem (w.mesh q r) h.rest item h.is (all q r)

one_fine : (t u : Bool) (item : Mesh) → IsFineItem item → AllByRecursion IsFineItem (cond t (cond u (item ∷ []) []) [])
one_fine true true item fine = (fine, tt)
one_fine true false item fine = tt
one_fine false u item fine = tt

sent_fine : (r : ℕ) (sent : List RouterSent) (a b : ℕ) → AllByRecursion IsFineSent sent → AllByRecursion IsFineItem (mesh_sent r sent a b)
sent_fine r [] a b all = tt
sent_fine r (MeshTo q item ∷ sent) a b all =
    all_join IsFineItem (only2 r q item a b) (mesh_sent r sent a b) (one_fine (a == r) (b == q) item all.0) (sent_fine r sent a b all.1)
sent_fine r (OutwardTo p item ∷ sent) a b all = sent_fine r sent a b all.1
sent_fine r (ReportOut report ∷ sent) a b all = sent_fine r sent a b all.1

module _ (setup : Setup) (sound : IsSetup setup) (ranges : IsInRange setup) where
  fine_then : (event : Event) (w v : World) → Reached setup w → Step setup event w v → AreFine w → AreFine v
  fine_then (ByRouter q event) w v reached x all =
      let m = router_moves setup q event w v x in
      let f : Finely x.part x.sent = fine_row setup ranges q (w.router q) x.part (all.routers q) event x.taken x.sent
      (λ p s o live. unread_octets setup ranges w sound reached q p s o live) (taken_fine w q x.taken m.heads all.mesh) x.row in
      record {
        routers = λ r. subst (λ (g : ℕ → RouterPart). IsFinePart (g r)) (sym m.router)
            (at_keeps (λ n part. IsFinePart part) w.router q x.part f.part all.routers r);
        mesh = λ a b. all_moves IsFineItem (mesh_taken q x.taken a b) (v.mesh a b) (w.mesh a b)
            (mesh_sent q x.sent a b) (m.mesh a b) (all.mesh a b) (sent_fine q x.sent a b f.items);
      }
  fine_then (ByFar p event) w v reached x all =
      let m = far_moves setup p event w v x in
      record {
        routers = λ r. subst (λ (g : ℕ → RouterPart). IsFinePart (g r)) (sym m.router) (all.routers r);
        mesh = λ a b. subst (λ (g : ℕ → ℕ → List Mesh). AllByRecursion IsFineItem (g a b)) (sym m.mesh) (all.mesh a b);
      }
  fine_then (ByOperator event) w v reached x all =
      let m = operator_moves setup event w v x in
      record {
        routers = λ r. subst (λ (g : ℕ → RouterPart). IsFinePart (g r)) (sym m.router) (all.routers r);
        mesh = λ a b. subst (λ (g : ℕ → ℕ → List Mesh). AllByRecursion IsFineItem (g a b)) (sym m.mesh) (all.mesh a b);
      }

  first_place : (r p : ℕ) (o : Option PeeringSetup) → slice_get setup.peerings p ≡ o → IsFinePlace (place_in r o)
  first_place r p None is = tt
  first_place r p (Some peering) is = by_start (peering.start == r) where
    by_start : (t : Bool) → IsFinePlace (cond t (Live (begun peering.config) None) Vacant)
    by_start true =
        record { adj_rib_in = all_of_none IsSendable; remote_as = ranges.remote_as p peering.config (ap (option_map (λ (x : PeeringSetup). x.config)) is) }
    by_start false = tt

  first_fine : AreFine (first_world setup)
  first_fine = record {
    routers = λ r. record {
      places = λ p. first_place r p (slice_get setup.peerings p) refl;
      entries = λ p. no_entries;
      tellings = λ q x route e. let f : ◌≡◌ {A = Bool} false true = ap is_some (sym (map.get-empty prefix_cmp x) ∙ e) in absurd cc;
      best = λ x b e. let f : ◌≡◌ {A = Bool} false true = ap is_some (sym (map.get-empty prefix_cmp x) ∙ e) in absurd cc;
    };
    mesh = λ a b. tt;
  }

  always_fine : (w : World) → Reached setup w → AreFine w
  always_fine w reached = carried setup AreFine first_fine fine_then w reached

  -- the address of a session is a host's
  host : (w : World) → Reached setup w → (r p : ℕ) (s : SessionValue) (o : Option Errand) → (w.router r).places p ≡ Live s o
      → is_no_host s.config.local_address ≡ false
  host w reached r p s o live =
      let below : p < peerings_in setup = known_place setup w (always_owned setup sound w reached) r p (Live s o) live (λ e. cc) in
      let has : Has setup (HasOwnConfig setup) w p = always_own setup sound w reached p below in
      let is : s ≡ has.session = live_session has.phase has.session s o r (sym live ∙ has.stands.places r) in
      let some = some_peering setup p below in
      let config : some.0.config ≡ has.session.config =
      same_Some some.0.config has.session.config (sym (ap (option_map (λ (x : PeeringSetup). x.config)) some.1) ∙ has.more.config) in
      subst (λ (c : SessionConfig). is_no_host c.local_address ≡ false)
      (config ∙ ap (λ (v : SessionValue). v.config) (sym is)) (sound.peerings p some.0 some.1).next_hop

pub always_written : (setup : Setup) (w : World) (r p : ℕ) (s : SessionValue) (o : Option Errand) (x : PrefixValue) (attrs : Attrs) → IsSetup setup
    → IsInRange setup → Reached setup w
    → (w.router r).places p ≡ Live s o → to_tell setup r (w.router r) s x ≡ Some attrs → IsWritableAttrs attrs
always_written setup w r p s o x attrs sound ranges reached live e =
    tells_writable setup.home_as (out_side setup r s.config) x (map.get (w.router r).best x) attrs ranges.home_as
    (host setup sound ranges w reached r p s o live) (rules_in_range setup ranges r s.config.export)
    (((always_fine setup sound ranges w reached).routers r).best x) e
