-- The session of a peering is the one that is found, and no other is.
use Rattle.std.proofs.Common.{◌≡◌, ◌≢◌, ◌≤◌, ◌<◌, ℕ, zero, suc, true, not, List, [], ◌∷◌, ◌++◌, Option}
use Rattle.std.proofs.Common.{Some, None, map, refl, sym, ap, ◌∙◌, subst, inl, inr, arith}
use Rattle.std.specs.Prelude.{◌⊎◌, ◌==◌, option_map, slice_get}
use Rattle.std.specs.List.{AllByRecursion, flat_map, range_with_len}
use Rattle.std.proofs.lemmas.Bool.Decides.{eqb_tells}
use Rattle.std.proofs.lemmas.Option.{same_Some}
use Rattle.ring_net.specs.declared.entry.Stamped.{Stamped}
use Rattle.ring_net.specs.declared.parts.Left.{Left}
use Rattle.ring_net.specs.Phases.{is_edge}
use Rattle.bgp_session.specs.Running.{RunningSession, carried}
use Rattle.router_core.specs.declared.place.Errand.{Errand}
use Rattle.session_value.specs.Sessions.{SessionValue}
use Rattle.session_value.specs.declared.config.SessionConfig.{SessionConfig}
use Rattle.graft_model.specs.Setups.{Setup, PeeringSetup, IsSetup, routers_in, peerings_in}
use Rattle.graft_model.specs.Parts as model
use Rattle.graft_model.specs.Parts.{World, Mesh}
use Rattle.graft_model.specs.Claims.{sessions_at}
use Rattle.graft_laws.specs.Owned.{Stands, is_on}
use Rattle.graft_laws.specs.Phases.{Phase, place_by, mesh_by}
use Rattle.graft_laws.proofs.Configs.{always_own}
use Rattle.graft_laws.proofs.Runs.{always_owned}
use Rattle.graft_actors.specs.Actors.{Thing, MeshItem}
use Rattle.graft_actors.specs.Actors as names
use Rattle.graft_actors.specs.Seen.{channel_of}
use Rattle.graft_actors.specs.Actors.{actor_at}
use Rattle.graft_actors.proofs.Numbers.{there}
use Rattle.graft_actors.specs.Items.{thing_of}
use Rattle.router_core.specs.declared.place.Place.{Place}
use Rattle.router_core.specs.declared.place.Place.TheVariants.{Live, Shadow}
use Rattle.router_core.specs.Places.{place_of, place_at, errand_of, sessions_in}
use Rattle.world_nodes.specs.declared.node.Node.{Node}
use Rattle.world_nodes.specs.Edges.{talks}
use Rattle.world_nodes.specs.Nodes.{Mail}
use Rattle.lab_report.specs.declared.lab.Place.TheVariants as labs
use Rattle.lab_setup.proofs.Lists.{all_mapped, all_append}
use Rattle.lab_seen.specs.Finished.{IsFinished}
use Rattle.lab_seen.specs.Found.{found_at, held_by, carried_by, carried_in, first_on}
use Rattle.lab_seen.specs.Seen.{session_view, IsSessionPlace}
use Rattle.lab_seen.specs.declared.found.Found.{Found}
use Rattle.lab_seen.proofs.Channels.{OnThing, found_to_things, things_to_found, on_channels, all_edges, edge_of_all}
use Rattle.lab_seen.proofs.Nodes.{HasRouter, router_at}
use Rattle.lab_seen.proofs.Phases.{place_in, held_at, live_by, OnMesh, IsNotOn, CarriesOnly, moved_only, AtRouter, Halts, OnWay, whereabouts}
use Rattle.lab_seen.proofs.Ranges.{all_left, all_right, all_unmapped, all_joined, all_parts, all_then, all_filtered, all_numbers, number_of_all}

-- ---- places

-- what holds of the session at each place holds of all sessions of the places
places_to_sessions : (P : RunningSession → Type 0) (places : List (Option Place))
    → ((q : ℕ) (x : RunningSession) (o : Option Errand) → place_at places q ≡ Some (Live x o) → P x) → AllByRecursion P (sessions_in places)
places_to_sessions P [] each = tt
places_to_sessions P (None ∷ places) each = places_to_sessions P places (λ q x o e. each (suc q) x o e)
places_to_sessions P (Some (Live x o) ∷ places) each = (each 0 x o refl, places_to_sessions P places (λ q y n e. each (suc q) y n e))
places_to_sessions P (Some (Shadow away) ∷ places) each = places_to_sessions P places (λ q x o e. each (suc q) x o e)

sessions_to_places : (P : RunningSession → Type 0) (places : List (Option Place)) (q : ℕ) (x : RunningSession) (o : Option Errand)
    → place_at places q ≡ Some (Live x o) → AllByRecursion P (sessions_in places) → P x
sessions_to_places P [] q x o e all = absurd cc
sessions_to_places P (None ∷ places) zero x o e all = absurd cc
sessions_to_places P (None ∷ places) (suc q) x o e all = sessions_to_places P places q x o e all
sessions_to_places P (Some (Live y n) ∷ places) zero x o e all = let same : y ≡ x = cc in subst P same all.0
sessions_to_places P (Some (Live y n) ∷ places) (suc q) x o e all = sessions_to_places P places q x o e all.1
sessions_to_places P (Some (Shadow away) ∷ places) zero x o e all = absurd cc
sessions_to_places P (Some (Shadow away) ∷ places) (suc q) x o e all = sessions_to_places P places q x o e all

-- a place that the model has live is live
record IsLiveAt (place : Option Place) (s : SessionValue) : Type 0 where
  running : RunningSession
  order : Option Errand
  is : place ≡ Some (Live running order)
  session : running.session ≡ s

live_at : (place : Option Place) (s : SessionValue) (o : Option model.Errand) → place_of place ≡ model.Live s o → IsLiveAt place s
live_at None s o e = absurd cc
live_at (Some (Live running order)) s o e = record { running = running; order = order; is = refl; session = cc }
live_at (Some (Shadow away)) s o e = absurd cc

never_frozen : (place : Option Place) (s : SessionValue) (order : model.Order) → place_of place ≡ model.Frozen s order → ⊥
never_frozen None s order e = cc
never_frozen (Some (Live running o)) s order e = cc
never_frozen (Some (Shadow away)) s order e = cc

-- ---- what is found first

-- each session of the peering that was found is this one, and there is one
pub found_one : (found : List Found) (p : ℕ) (one : Found) → AllByRecursion (λ x. x.peering.0 ≡ p → x ≡ one) found
    → (AllByRecursion (IsNotOn p) found → ⊥) → first_on found p ≡ Some one
found_one [] p one all some = absurd (some tt)
found_one (x ∷ found) p one all some = elim (eqb_tells x.peering.0 p) [
  | inl same ↦ rw (same.0) (ap (λ (y : Found). Some y) (all.0 same.1))
  | inr apart ↦ rw (apart.0) (found_one found p one all.1 (λ none. some (apart.1, none)))
]

-- ---- of a net that has finished

module _ (setup : Setup) (w : World) (actors : List Node) (left : List (Left Mail)) (done : IsFinished setup w actors left) (sound : IsSetup setup) where
  -- how a peering stands
  pub record Known (p : ℕ) : Type 0 where
    pub phase : Phase
    pub session : SessionValue
    pub stands : Stands setup w p phase session
    pub number : session.config.peering.0 ≡ p

  pub known : (p : ℕ) → p < peerings_in setup → Known p
  known p below =
      let has = always_own setup sound w done.world.1 p below in
      record {
        phase = has.phase;
        session = has.session;
        stands = has.stands;
        number = number_is has.session.config (slice_get setup.peerings p) refl has.more.config;
      }
    where
      number_is : (config : SessionConfig) (o : Option PeeringSetup) → slice_get setup.peerings p ≡ o
          → option_map (λ peering. peering.config) o ≡ Some config → config.peering.0 ≡ p
      number_is config None e is = absurd cc
      number_is config (Some peering) e is = ap (λ (c : SessionConfig). c.peering.0) (sym (same_Some peering.config config is))
          ∙ (sound.peerings p peering e).number

  place_is : (r q : ℕ) (here : HasRouter setup w actors left done r) → place_of (place_at here.router.fields.places.places q) ≡ (w.router r).places q
  place_is r q here = ap (λ (part : model.RouterPart). part.places q) here.part_is

  below_or_past : (k n : ℕ) → (k < n) ⊎ (n ≤ k)
  below_or_past k n = grind arith

  -- a session at a router has the number of its place
  number_at : (r q : ℕ) (here : HasRouter setup w actors left done r) (x : RunningSession) (o : Option Errand)
      → place_at here.router.fields.places.places q ≡ Some (Live x o) → x.session.config.peering.0 ≡ q
  number_at r q here x o e = elim (below_or_past q (peerings_in setup)) [
    | inl below ↦
        let k = known q below in
        let it = live_by k.phase k.session r x.session (option_map errand_of o) (sym (k.stands.places r) ∙ sym (place_is r q here) ∙ ap place_of e) in
        ap (λ (s : SessionValue). s.config.peering.0) it.same ∙ k.number
    | inr past ↦ absurd (let f : model.Vacant ≡ model.Live x.session (option_map errand_of o) =
        sym (((always_owned setup sound w done.world.1).no_others q past).places r) ∙ sym (place_is r q here) ∙ ap place_of e in cc)
  ]

  things : (a b : ℕ) → is_edge done.edges a b ≡ true
      → map (thing_of carried setup) (map (λ (x : Stamped Mail). x.item) (done.stand.view.channel a b)) ≡ channel_of w (actor_at setup a) (actor_at setup b)
  things a b e =
      let there_is : done.stand.view.edge a b ≡ true = done.channels a b ∙ sym (done.edges_are.each a b) ∙ e in
      ap (λ (xs : List Mail). map (thing_of carried setup) xs) (sym (done.world.0.is.channels a b there_is)) ∙ done.world.0.sees.sees.channels a b

  -- all that is found
  abbrev pub all_found : List Found
  all_found = flat_map (λ r. held_by r (slice_get actors r)) (range_with_len 0 (routers_in setup)) ++ flat_map carried_in left

  module _ (p : ℕ) (k : Known p) where
    -- as the session of the peering is found
    abbrev pub one : Found
    one = record { peering = k.session.config.peering; place = place_in k.phase; view = session_view k.session }

    abbrev IsOnly : Found → Type 0
    IsOnly x = x.peering.0 ≡ p → x ≡ one

    same_one : (x : SessionValue) (place : _) → x ≡ k.session → place ≡ place_in k.phase
        → record { peering = x.config.peering; place = place; view = session_view x } ≡ one
    same_one x place same at = ap (λ (y : SessionValue). record { peering = y.config.peering; place = place; view = session_view y }) same
        ∙ ap (λ at. record { peering = k.session.config.peering; place = at; view = session_view k.session }) at

    -- ---- no other is found

    held_only : (r : ℕ) → r < routers_in setup → AllByRecursion IsOnly (held_by r (slice_get actors r))
    held_only r below =
        let here = router_at setup w actors left done r below in
        let places = here.router.fields.places.places in
        subst (λ (o : Option Node). AllByRecursion IsOnly (held_by r o)) (sym here.is)
        (all_mapped (found_at (held_at r)) (λ x. IsOnly (found_at (held_at r) x)) IsOnly (λ x only. only)
        (sessions_in places) (places_to_sessions (λ x. IsOnly (found_at (held_at r) x)) places (each here)))
      where
        each : (here : HasRouter setup w actors left done r) (q : ℕ) (x : RunningSession) (o : Option Errand)
            → place_at here.router.fields.places.places q ≡ Some (Live x o) → IsOnly (found_at (held_at r) x)
        each here q x o e on =
            let same : q ≡ p = sym (number_at r q here x o e) ∙ on in
            let it = live_by k.phase k.session r x.session (option_map errand_of o) (sym (k.stands.places r) ∙ sym (place_is r p here)
            ∙ ap (λ n. place_of (place_at here.router.fields.places.places n)) (sym same) ∙ ap place_of e) in
            same_one x.session (held_at r) it.same it.place

    mesh_only : (a b : ℕ) → AllByRecursion (OnMesh IsOnly) (w.mesh a b)
    mesh_only a b = all_then (CarriesOnly p k.phase k.session) (OnMesh IsOnly) carries
        (w.mesh a b) (moved_only p k.phase k.session a b (w.mesh a b) (k.stands.mesh a b))
      where
        carries : (item : Mesh) → CarriesOnly p k.phase k.session item → OnMesh IsOnly item
        carries (model.Told prefix route) c = tt
        carries (model.Moved graft q x) c = λ tied on. let it = c (tied ∙ on) in same_one x labs.Moving it.0 it.1
        carries (model.Back graft q x refusal) c = λ tied on. let it = c (tied ∙ on) in same_one x labs.Moving it.0 it.1
        carries (model.Asked graft q) c = tt
        carries (model.Answered graft q) c = tt
        carries (model.Done graft q) c = tt

    moving_only : AllByRecursion IsOnly (flat_map carried_in left)
    moving_only =
        let channel : ℕ → ℕ → List Mail = λ a b. map (λ (x : Stamped Mail). x.item) (done.stand.view.channel a b) in
        all_joined IsOnly carried_in left (subst (λ (xs : List (Left Mail)). AllByRecursion (λ x. AllByRecursion IsOnly (carried_in x)) xs) (sym done.left_is)
        (all_mapped (λ (e : ℕ × ℕ). record { from = e.0; to = e.1; items = channel e.0 e.1 }) (λ e. AllByRecursion IsOnly
        (flat_map carried_by (channel e.0 e.1))) (λ (x : Left Mail). AllByRecursion IsOnly (carried_in x)) (λ e all. all) done.edges
        (all_edges (λ a b. AllByRecursion IsOnly (flat_map carried_by (channel a b))) done.edges (λ a b e. things_to_found IsOnly setup (channel a b)
        (subst (λ (xs : List Thing). AllByRecursion (OnThing IsOnly) xs) (sym (things a b e))
        (on_channels IsOnly w mesh_only (actor_at setup a) (actor_at setup b)))))))

    only_one : AllByRecursion IsOnly all_found
    only_one = all_append IsOnly (flat_map (λ r. held_by r (slice_get actors r)) (range_with_len 0 (routers_in setup))) (flat_map carried_in left)
        (all_joined IsOnly (λ r. held_by r (slice_get actors r)) (range_with_len 0 (routers_in setup))
        (all_numbers (λ r. AllByRecursion IsOnly (held_by r (slice_get actors r))) (routers_in setup) held_only)) moving_only

    -- ---- it is found

    held_some : (r : ℕ) (order : Option model.Errand) → r < routers_in setup → place_by k.phase k.session r ≡ model.Live k.session order
        → AllByRecursion (IsNotOn p) (held_by r (slice_get actors r)) → ⊥
    held_some r order below is none =
        let here = router_at setup w actors left done r below in
        let places = here.router.fields.places.places in
        let live = live_at (place_at places p) k.session order (place_is r p here ∙ k.stands.places r ∙ is) in
        let all = subst (λ (o : Option Node). AllByRecursion (IsNotOn p) (held_by r o)) here.is none in
        sessions_to_places (λ x. IsNotOn p (found_at (held_at r) x)) places p live.running live.order live.is
        (all_unmapped (IsNotOn p) (found_at (held_at r)) (sessions_in places) all)
        (ap (λ (s : SessionValue). s.config.peering.0) live.session ∙ k.number)

    halts_nowhere : (r : ℕ) (order : model.Order) → r < routers_in setup → place_by k.phase k.session r ≡ model.Frozen k.session order → ⊥
    halts_nowhere r order below is =
        let here = router_at setup w actors left done r below in
        never_frozen (place_at here.router.fields.places.places p) k.session order (place_is r p here ∙ k.stands.places r ∙ is)

    moves : (a b : ℕ) (item : Mesh) → a < routers_in setup → b < routers_in setup → a ≢ b → mesh_by k.phase p k.session a b ≡ item ∷ []
        → AllByRecursion (IsNotOn p) (flat_map carried_in left) → OnMesh (IsNotOn p) item
    moves a b item a_in b_in apart is none =
        let channel : ℕ → ℕ → List Mail = λ x y. map (λ (z : Stamped Mail). z.item) (done.stand.view.channel x y) in
        let from : actor_at setup a ≡ Some (names.Router a) = there setup (names.Router a) a_in in
        let to : actor_at setup b ≡ Some (names.Router b) = there setup (names.Router b) b_in in
        let edge : is_edge done.edges a b ≡ true =
        done.edges_are.each a b ∙ ap (λ x. talks x (actor_at setup b)) from ∙ ap (λ y. talks (Some (names.Router a)) y) to ∙ differ a b apart in
        let each = subst (λ (xs : List (Left Mail)). AllByRecursion (λ x. AllByRecursion (IsNotOn p) (carried_in x)) xs) done.left_is
        (all_parts (IsNotOn p) carried_in left none) in
        let by_edge = all_unmapped (λ (x : Left Mail). AllByRecursion (IsNotOn p) (carried_in x))
        (λ (e : ℕ × ℕ). record { from = e.0; to = e.1; items = channel e.0 e.1 }) done.edges each in
        let here = edge_of_all (λ x y. AllByRecursion (IsNotOn p) (flat_map carried_by (channel x y))) done.edges a b by_edge edge in
        let seen = subst (λ (xs : List Thing). AllByRecursion (OnThing (IsNotOn p)) xs) (things a b edge ∙ ap (λ x. channel_of w x (actor_at setup b)) from
        ∙ ap (λ y. channel_of w (Some (names.Router a)) y) to) (found_to_things (IsNotOn p) setup (channel a b) here) in
        let mesh = all_filtered (OnMesh (IsNotOn p)) (is_on p) (w.mesh a b) (all_unmapped (OnThing (IsNotOn p)) MeshItem (w.mesh a b) seen) in
        (subst (λ (xs : List Mesh). AllByRecursion (OnMesh (IsNotOn p)) xs) (k.stands.mesh a b ∙ is) mesh).0
      where
        differ : (m n : ℕ) → m ≢ n → not (m == n) ≡ true
        differ m n ne = elim (eqb_tells m n) [ inl same ↦ absurd (ne same.1) | inr h ↦ ap not h.0 ]

    some_one : AllByRecursion (IsNotOn p) all_found → ⊥
    some_one none =
        let held = flat_map (λ r. held_by r (slice_get actors r)) (range_with_len 0 (routers_in setup)) in
        let at_routers = all_parts (IsNotOn p) (λ r. held_by r (slice_get actors r))
        (range_with_len 0 (routers_in setup)) (all_left (IsNotOn p) held (flat_map carried_in left) none) in
        elim (whereabouts setup p k.phase k.session k.stands.bounds) [
          | AtRouter r order below is at ↦ held_some r order below is
              (number_of_all (λ r. AllByRecursion (IsNotOn p) (held_by r (slice_get actors r))) (routers_in setup) r at_routers below)
          | Halts r order below is at ↦ halts_nowhere r order below is
          | OnWay a b item a_in b_in apart is carries at nowhere ↦
              carries (moves a b item a_in b_in apart is (all_right (IsNotOn p) held (flat_map carried_in left) none)) k.number
        ]

    pub is_found : first_on all_found p ≡ Some one
    is_found = found_one all_found p one only_one some_one

    -- ---- its place

    pub is_placed : IsSessionPlace w p (place_in k.phase)
    is_placed = elim (whereabouts setup p k.phase k.session k.stands.bounds) [
      | AtRouter r order below is at ↦ subst (λ place. IsSessionPlace w p place) (sym at) (there_is r (ap sessions_at (k.stands.places r ∙ is)))
      | Halts r order below is at ↦ subst (λ place. IsSessionPlace w p place) (sym at) (there_is r (ap sessions_at (k.stands.places r ∙ is)))
      | OnWay a b item a_in b_in apart is carries at nowhere ↦
          subst (λ place. IsSessionPlace w p place) (sym at) (λ r. ap sessions_at (k.stands.places r) ∙ nowhere r)
    ]
      where
        there_is : (r : ℕ) → sessions_at ((w.router r).places p) ≡ k.session ∷ [] → sessions_at ((w.router r).places p) ≢ []
        there_is r is none = let e : k.session ∷ [] ≡ [] = sym is ∙ none in cc
