-- What each actor did on a leg of the way is real.
use Rattle.std.proofs.Common.{◌≡◌, ◌≢◌, ◌≤◌, ◌<◌, ◌+◌, ◌∙◌, ℕ, zero, suc, ◌==◌, Bool, true, false, if◌then◌else◌}
use Rattle.std.proofs.Common.{List, [], ◌∷◌, ◌++◌, length, get_or, map, refl, ap, sym, subst, arith}
use Rattle.std.specs.Prelude.{Option, Some, None, All, option_map, slice_get}
use Rattle.std.specs.List.{AllByRecursion}
use Rattle.std.proofs.Math.Path.{subst⁻¹}
use Rattle.std.proofs.lemmas.List.{map-append}
use Rattle.link_bag.specs.declared.plan.Fault.{Fault}
use Rattle.ring_net.specs.declared.entry.JournalEntry.{JournalEntry}
use Rattle.ring_net.specs.Deeds.{Deed, Noted, Replay, deeds}
use Rattle.ring_net.specs.Phases.{View}
use Rattle.ring_net.specs.Turns.{ActorDid}
use Rattle.ring_net.proofs.Replays.{replay-append, all-append}
use Rattle.journal_merge.specs.Merges.{Interleaves}
use Rattle.session_value.specs.Sessions.{SessionValue}
use Rattle.router_core.specs.declared.place.Errand.{Errand}
use Rattle.bgp_session.specs.Running.{RunningSession, carried}
use Rattle.graft_model.specs.Codes.{router_code, far_code, operator_code}
use Rattle.graft_model.specs.First.{place_in, first_router, first_far}
use Rattle.graft_model.specs.Parts as model
use Rattle.graft_model.specs.Parts.{World, RouterPart, FarPart, OperatorPart}
use Rattle.graft_model.specs.Setups.{Setup, PeeringSetup, keepalive_interval_of, routers_in, peerings_in}
use Rattle.graft_model.specs.declared.event.FarEvent.{FarEvent}
use Rattle.graft_actors.specs.Actors as names
use Rattle.graft_actors.specs.Actors.{RouterIs, FarIs, OperatorIs}
use Rattle.graft_actors.specs.Seen.{part_of}
use Rattle.graft_actors.specs.Acts.{OwnPart, acts}
use Rattle.router_core.specs.Parts.{router_part}
use Rattle.router_core.specs.Places.{place_of, RunsAt}
use Rattle.router_core.specs.declared.fields as router_fields
use Rattle.router_core.specs.declared.router as router_type
use Rattle.bgp_story.specs.Legal.{IsEarlier}
use Rattle.far_side.specs.Parts.{far_part}
use Rattle.far_side.specs.declared.far as far_type
use Rattle.operator_core.specs.Operators as operators
use Rattle.operator_state.specs.Holds.{NothingToOrder}
use Rattle.operator_core.specs.declared.operator as operator_type
use Rattle.world_runs.specs.Marks.{MarksStandForWorlds, operator_number}
use Rattle.world_runs.specs.Runs.{Ran}
use Rattle.world_runs.specs.Laws.{NothingWasDropped}
use Rattle.world_nodes.specs.Fresh.{IsFresh}
use Rattle.world_nodes.specs.Nodes.{Mail, own, took, turned}
use Rattle.world_nodes.specs.Ways.{Stand, IsFirstStand}
use Rattle.world_nodes.specs.declared.node.Node.{Node}
use Rattle.world_nodes.specs.declared.node.Node.TheVariants.{Router, Far, Operator}
use Rattle.real_rounds.proofs.Calls.{CallsSay}
use Rattle.real_rounds.specs.Entries.{between}
use Rattle.real_rounds.specs.Fars.{Links, empty_links, RealFar}
use Rattle.real_rounds.specs.Routers.{RealRouter}
use Rattle.real_rounds.specs.Whole.{RouterDid, FarDid, OperatorDid}
use Rattle.real_rounds.proofs.FarRounds.{FarAt, links_of, real_far, far_after}
use Rattle.real_rounds.proofs.FarRounds as far_rounds
use Rattle.real_rounds.proofs.Leading as leading
use Rattle.real_rounds.proofs.Leading.{deeds_kept, next_is}
use Rattle.real_rounds.proofs.Lists.{all_at}
use Rattle.real_rounds.proofs.Legs.{Paused, Legs, entry_in}
use Rattle.real_rounds.proofs.NodeRounds.{RouterPhase, router_phase, FarPhase, far_phase, operator_phase, operator_events, replay_setup}
use Rattle.real_rounds.proofs.RouterDeeds.{IsKept}
use Rattle.real_rounds.proofs.RouterRounds.{RouterAt, MayPassThen, real_router, router_after}
use Rattle.real_rounds.proofs.RouterRounds as router_proofs
use Rattle.real_rounds.proofs.Slices.{entries_in_deeds}
use Rattle.graft_actors.specs.Makes.{AreCoded, AreDeeds}

-- ---- by their names

no_router : (p r : ℕ) → names.FarSide p ≢ names.Router r
no_router p r e = absurd cc

node_router : (n : Node) (r : ℕ) → (own n).name ≡ names.Router r → (x : router_type.Router.Router) × (n ≡ Router x)
node_router (Router x) r e = (x, refl)
node_router (Far x) r e = absurd (let h : names.FarSide x.fields.peering.0 ≡ names.Router r = e in cc)
node_router (Operator x) r e = absurd (let h : names.Operator ≡ names.Router r = e in cc)

node_far : (n : Node) (p : ℕ) → (own n).name ≡ names.FarSide p → (x : far_type.Far.Far) × (n ≡ Far x)
node_far (Far x) p e = (x, refl)
node_far (Router x) p e = absurd (let h : names.Router x.fields.number.0 ≡ names.FarSide p = e in cc)
node_far (Operator x) p e = absurd (let h : names.Operator ≡ names.FarSide p = e in cc)

node_operator : (n : Node) → (own n).name ≡ names.Operator → (x : operator_type.Operator.Operator) × (n ≡ Operator x)
node_operator (Operator x) e = (x, refl)
node_operator (Router x) e = absurd (let h : names.Router x.fields.number.0 ≡ names.Operator = e in cc)
node_operator (Far x) e = absurd (let h : names.FarSide x.fields.peering.0 ≡ names.Operator = e in cc)

same_node_router : (x y : router_type.Router.Router) → Router x ≡ Router y → x ≡ y
same_node_router x y e = cc

same_node_far : (x y : far_type.Far.Far) → Far x ≡ Far y → x ≡ y
same_node_far x y e = cc

router_number : {r s : ℕ} → names.Router r ≡ names.Router s → r ≡ s
router_number e = cc

far_number : {p q : ℕ} → names.FarSide p ≡ names.FarSide q → p ≡ q
far_number e = cc

router_is : {x y : RouterPart} → RouterIs x ≡ RouterIs y → x ≡ y
router_is e = cc

far_is : {x y : FarPart} → FarIs x ≡ FarIs y → x ≡ y
far_is e = cc

operator_is : {x y : OperatorPart} → OperatorIs x ≡ OperatorIs y → x ≡ y
operator_is e = cc

-- ---- at the beginning

first_acked : (setup : Setup) (r p : ℕ) (s : SessionValue) (o : Option model.Errand) → (first_router setup r).places p ≡ model.Live s o → s.end.acked ≡ 0
first_acked setup r p s o is = by_peering (slice_get setup.peerings p) is
  where
    live_end : (x s : SessionValue) (o q : Option model.Errand) → model.Live x q ≡ model.Live s o → s ≡ x
    live_end x s o q e = cc

    by_start : (b : Bool) (x : SessionValue) → x.end.acked ≡ 0 → (if b then model.Live x None else model.Vacant) ≡ model.Live s o → s.end.acked ≡ 0
    by_start true x zero_acked e = ap (λ (y : SessionValue). y.end.acked) (live_end x s o None e) ∙ zero_acked
    by_start false x zero_acked e = absurd cc

    by_peering : (peering : Option PeeringSetup) → place_in r peering ≡ model.Live s o → s.end.acked ≡ 0
    by_peering None e = absurd cc
    by_peering (Some peering) e = by_start (peering.start == r) _ refl e

-- what stands in the links of an actor
abbrev pub links_in : Node → Links
links_in (Router x) = empty_links
links_in (Far x) = links_of x.fields
links_in (Operator x) = empty_links

fresh_links : (setup : Setup) (faults : List Fault) (n : Node) → IsFresh setup faults n → links_in n ≡ empty_links
fresh_links setup faults (Router x) fresh = refl
fresh_links setup faults (Far x) fresh = λ i. record {
  home = record { plans = fresh.homeward.0 i; put = fresh.homeward.1 i };
  remote = record { plans = fresh.remoteward.0 i; put = fresh.remoteward.1 i };
}
fresh_links setup faults (Operator x) fresh = refl

-- ---- what is used of the hold timers

-- the Ticks of each session that runs at a router have lower numbers
abbrev pub HasEarlier : ℕ → router_fields.Fields.Fields → Type 0
HasEarlier round f = (p : ℕ) (s : RunningSession) (o : Option Errand) → RunsAt f.places.places p s o → All (IsEarlier round) s.session.story

-- On a session that stands through a round, with a hold time that runs, the round may pass in the turn.
abbrev pub Ticking : Type 0
Ticking = (x c : router_fields.Fields.Fields) (ds : List (Deed Mail)) (ph : RouterPhase x c ds) (n : ℕ) → RouterAt n x → HasEarlier (n + 1) x
    → MayPassThen x ph.mid c (ph.takes.moments ++ (ph.turns.first ++ ph.turns.later))

-- ---- on the way

module _ (law : CallsSay) (setup : Setup) (faults : List Fault) (a b : Stand) (begins : IsFirstStand setup a)
    (fresh : AllByRecursion (IsFresh setup faults) begins.actors) (d : Node) (d_fresh : IsFresh setup faults d)
    (legs : Legs setup a b) (journal : List JournalEntry) (merge : Interleaves b.view.journal journal)
    (b_ran : Ran own carried setup b.view) (worlds : MarksStandForWorlds own carried) (dropped : NothingWasDropped) where
  abbrev pub world : ℕ → World
  world k = leading.world setup a b begins legs journal merge b_ran worlds dropped k

  abbrev at_mark : ℕ → ℕ → Node
  at_mark k j = get_or (legs.at k).actors j d

  own_at : (k : ℕ) → k ≤ legs.made → (x : names.ActorName) → names.IsActor setup x
      → own (at_mark k (names.number_in setup x)) ≡ record { setup = setup; name = x; part = part_of (world k) x }
  own_at k k_in x known = leading.own_at setup a b begins legs journal merge b_ran worlds dropped k k_in x known d

  first_fresh : (j : ℕ) → IsFresh setup faults (at_mark 0 j)
  first_fresh j = subst⁻¹ (λ (xs : List Node). IsFresh setup faults (get_or xs j d))
      (ap (λ (v : View Node Mail). v.actors) legs.first ∙ begins.new.all) (all_at (IsFresh setup faults) begins.actors d j fresh d_fresh)

  pub links_at : ℕ → ℕ → Links
  links_at k p = links_in (at_mark k (routers_in setup + p))

  pub links_first : (p : ℕ) → links_at 0 p ≡ empty_links
  unfolding links_at
  links_first p = fresh_links setup faults (at_mark 0 (routers_in setup + p)) (first_fresh (routers_in setup + p))

  abbrev notes : (k : ℕ) → k < legs.made → ℕ → List (Noted Mail)
  notes k k_in j = (legs.phase k k_in).notes j

  -- what is left of the law: each Tick of a session that is live at a mark has the number of a round before it
  abbrev pub TicksAreEarlier : Type 0
  TicksAreEarlier = (k : ℕ) → k ≤ legs.made → (r p : ℕ) (s : SessionValue) (o : Option model.Errand) → ((world k).router r).places p ≡ model.Live s o
      → All (IsEarlier (k + 1)) s.story

  -- ---- routers

  router_apart : (r : ℕ) → r < routers_in setup → r ≢ operator_number setup
  router_apart r l e = absurd (omega (arith, l, e))

  pub router_at : (k : ℕ) → k ≤ legs.made → (r : ℕ) → r < routers_in setup → (x : router_type.Router.Router) × (at_mark k r ≡ Router x)
  router_at k k_in r r_in = node_router (at_mark k r) r (ap (λ (o : OwnPart). o.name) (own_at k k_in (names.Router r) r_in))

  router_own : (k : ℕ) → k ≤ legs.made → (r : ℕ) → r < routers_in setup → (x : router_type.Router.Router) → at_mark k r ≡ Router x
      → own (Router x) ≡ record { setup = setup; name = names.Router r; part = RouterIs ((world k).router r) }
  router_own k k_in r r_in x is = sym (ap own is) ∙ own_at k k_in (names.Router r) r_in

  pub router_leg : (k : ℕ) (k_in : k < legs.made) (r : ℕ) → r < routers_in setup → (x : router_type.Router.Router) → at_mark k r ≡ Router x
      → (c : router_type.Router.Router) × (at_mark (k + 1) r ≡ Router c) × RouterPhase x.fields c.fields (deeds (notes k k_in r))
  router_leg k k_in r r_in x is =
      router_phase r (get_or (legs.from k).actors r d) (at_mark (k + 1) r) ((legs.from k).clock r) ((legs.at (k + 1)).clock r) (notes k k_in r)
      ((legs.phase k k_in).actors r d (let n = leading.size_from setup a b begins legs journal merge b_ran worlds dropped k k_in in omega (arith, r_in, n)))
      (leading.leg_kept setup a b begins legs journal merge b_ran worlds dropped k k_in r []
      (leading.no_front setup a b begins legs journal merge b_ran worlds dropped k k_in r (router_apart r r_in))).1
      x ((legs.pause k k_in).others r d (router_apart r r_in) ∙ is)

  router_first : (r : ℕ) → r < routers_in setup → (x : router_type.Router.Router) → at_mark 0 r ≡ Router x → RouterAt 0 x.fields
  router_first r r_in x is =
      let new = subst (λ (n : Node). IsFresh setup faults n) is (first_fresh r) in
      let own_first : own (Router x) ≡ record { setup = setup; name = names.Router r; part = RouterIs (first_router setup r) } =
      sym (ap own is) ∙ ap (λ (xs : List Node). own (get_or xs r d)) (ap (λ (v : View Node Mail). v.actors) legs.first ∙ begins.new.all)
      ∙ begins.first.routers r d r_in in
      record {
        turns = new.turns;
        level = λ p s o runs. new.at_turn p s o runs
            ∙ sym (first_acked setup r p s.session _
            (sym (ap (λ (part : RouterPart). part.places p) (router_is (ap (λ (o : OwnPart). o.part) own_first))) ∙ ap place_of runs.is));
      }

  pub router_level : (k : ℕ) → k ≤ legs.made → (r : ℕ) → r < routers_in setup → (x : router_type.Router.Router) → at_mark k r ≡ Router x → RouterAt k x.fields
  router_level zero k_in r r_in x is = router_first r r_in x is
  router_level (suc k) k_in r r_in x is =
      let (y, y_is) = router_at k (omega (arith, k_in)) r r_in in
      let (c, c_is, ph) = router_leg k (omega (arith, k_in)) r r_in y y_is in
      let same : c ≡ x = same_node_router c x (sym c_is ∙ ap (λ (i : ℕ). at_mark i r) (next_is k) ∙ is) in
      subst (λ (z : router_type.Router.Router). RouterAt (suc k) z.fields) same (subst (λ (i : ℕ). RouterAt i c.fields) (next_is k)
      (router_after law.turns y.fields ph.mid c.fields ph.first ph.second ph.takes ph.turns ph.calm k (router_level k (omega (arith, k_in)) r r_in y y_is)))

  module _ (ticking : Ticking) (earlier : TicksAreEarlier) (k : ℕ) (k_in : k < legs.made) where
    abbrev slices : ℕ → List JournalEntry
    slices = between journal (legs.mark k) (legs.mark (k + 1))

    pub router_did : (r : ℕ) → r < routers_in setup → RouterDid setup r (k + 1) (world k) slices (world (k + 1))
    router_did r r_in =
        let (x, x_is) = router_at k (omega (arith, k_in)) r r_in in
        let (c, c_is, ph) = router_leg k k_in r r_in x x_is in
        let at : RouterAt k x.fields = router_level k (omega (arith, k_in)) r r_in x x_is in
        let before = router_own k (omega (arith, k_in)) r r_in x x_is in
        let after = router_own (k + 1) (omega (arith, k_in)) r r_in c c_is in
        let start : router_part x.fields ≡ (world k).router r = router_is (ap (λ (o : OwnPart). o.part) before) in
        let had : HasEarlier (k + 1) x.fields =
        λ p s o runs. earlier k (omega (arith, k_in)) r p s.session _ (sym (ap (λ (part : RouterPart). part.places p) start) ∙ ap place_of runs.is) in
        let real = real_router law.turns x.fields ph.mid c.fields ph.first ph.second ph.takes ph.turns ph.calm k at
        (ticking x.fields c.fields (deeds (notes k k_in r)) ph k at had) in
        record {
          events = ph.takes.events ++ (ph.turns.again ++ ph.turns.work);
          coded = subst⁻¹ (λ (es : List JournalEntry). AreCoded router_code (ph.takes.events ++ (ph.turns.again ++ ph.turns.work)) es)
              (leading.slice_is setup a b begins legs journal merge b_ran worlds dropped k k_in r []
              (leading.no_front setup a b begins legs journal merge b_ran worlds dropped k k_in r (router_apart r r_in)))
              (subst (λ (es : List JournalEntry). AreCoded router_code (ph.takes.events ++ (ph.turns.again ++ ph.turns.work)) es)
              (entries_in_deeds (notes k k_in r))
              (subst⁻¹ (λ (ds : List (Deed Mail)). AreDeeds router_code (ph.takes.events ++ (ph.turns.again ++ ph.turns.work)) ds) ph.split
              (router_proofs.router_coded law.turns x.fields ph.mid c.fields ph.first ph.second ph.takes ph.turns ph.calm k at)));
          real = subst (λ (s : Setup). RealRouter s r (k + 1) ((world k).router r)
              (ph.takes.events ++ (ph.turns.again ++ ph.turns.work)) ((world (k + 1)).router r)) (ap (λ (o : OwnPart). o.setup) before)
              (subst (λ (i : ℕ). RealRouter x.fields.known.setup i (k + 1) ((world k).router r)
              (ph.takes.events ++ (ph.turns.again ++ ph.turns.work)) ((world (k + 1)).router r)) (router_number (ap (λ (o : OwnPart). o.name) before))
              (subst (λ (part : RouterPart). RealRouter x.fields.known.setup x.fields.number.0 (k + 1) part
              (ph.takes.events ++ (ph.turns.again ++ ph.turns.work)) ((world (k + 1)).router r)) start
              (subst (λ (part : RouterPart). RealRouter x.fields.known.setup x.fields.number.0 (k + 1) (router_part x.fields)
              (ph.takes.events ++ (ph.turns.again ++ ph.turns.work)) part) (router_is (ap (λ (o : OwnPart). o.part) after)) real)));
        }

  -- ---- far sides

  far_apart : (p : ℕ) → p < peerings_in setup → routers_in setup + p ≢ operator_number setup
  far_apart p l e = absurd (omega (arith, l, e))

  far_at : (k : ℕ) → k ≤ legs.made → (p : ℕ) → p < peerings_in setup → (x : far_type.Far.Far) × (at_mark k (routers_in setup + p) ≡ Far x)
  far_at k k_in p p_in = node_far (at_mark k (routers_in setup + p)) p (ap (λ (o : OwnPart). o.name) (own_at k k_in (names.FarSide p) p_in))

  far_own : (k : ℕ) → k ≤ legs.made → (p : ℕ) → p < peerings_in setup → (x : far_type.Far.Far) → at_mark k (routers_in setup + p) ≡ Far x
      → own (Far x) ≡ record { setup = setup; name = names.FarSide p; part = FarIs ((world k).far p) }
  far_own k k_in p p_in x is = sym (ap own is) ∙ own_at k k_in (names.FarSide p) p_in

  far_leg : (k : ℕ) (k_in : k < legs.made) (p : ℕ) → p < peerings_in setup → (x : far_type.Far.Far) → at_mark k (routers_in setup + p) ≡ Far x
      → (c : far_type.Far.Far) × (at_mark (k + 1) (routers_in setup + p) ≡ Far c) × FarPhase x.fields c.fields (deeds (notes k k_in (routers_in setup + p)))
  far_leg k k_in p p_in x is =
      let j : ℕ = routers_in setup + p in
      far_phase law (routers_in setup + p) (get_or (legs.from k).actors (routers_in setup + p) d) (at_mark (k + 1) (routers_in setup + p))
      ((legs.from k).clock (routers_in setup + p)) ((legs.at (k + 1)).clock (routers_in setup + p))
      (notes k k_in (routers_in setup + p))
      ((legs.phase k k_in).actors (routers_in setup + p) d
      (let n = leading.size_from setup a b begins legs journal merge b_ran worlds dropped k k_in in omega (arith, p_in, n)))
      (leading.leg_kept setup a b begins legs journal merge b_ran worlds dropped k k_in (routers_in setup + p) []
      (leading.no_front setup a b begins legs journal merge b_ran worlds dropped k k_in (routers_in setup + p) (far_apart p p_in))).1
      x ((legs.pause k k_in).others (routers_in setup + p) d (far_apart p p_in) ∙ is)

  far_first : (p : ℕ) → p < peerings_in setup → (x : far_type.Far.Far) → at_mark 0 (routers_in setup + p) ≡ Far x → FarAt faults 0 x.fields
  far_first p p_in x is =
      let new = subst (λ (n : Node). IsFresh setup faults n) is (first_fresh (routers_in setup + p)) in
      let peering = some_peering setup.peerings p p_in in
      let own_first : own (Far x) ≡ record { setup = setup; name = names.FarSide p; part = FarIs (first_far (Some peering.0)) } =
      sym (ap own is)
      ∙ ap (λ (xs : List Node). own (get_or xs (routers_in setup + p) d)) (ap (λ (v : View Node Mail). v.actors) legs.first ∙ begins.new.all)
      ∙ begins.first.far_sides p d peering.0 peering.1 in
      record {
        turns = new.turns;
        level = new.at_turn ∙ sym (ap (λ (part : FarPart). part.end.acked) (far_is (ap (λ (o : OwnPart). o.part) own_first)));
        links = new.links;
        keepalive_interval = (λ i. option_map keepalive_interval_of (slice_get (own_first i).setup.peerings x.fields.peering.0)) ∙ new.keepalive_interval;
        fates = new.fates;
      }
    where
      some_peering : (xs : List PeeringSetup) (i : ℕ) → i < length xs → (y : PeeringSetup) × (slice_get xs i ≡ Some y)
      some_peering [] i l = absurd (omega arith)
      some_peering (y ∷ xs) zero l = (y, refl)
      some_peering (y ∷ xs) (suc i) l = some_peering xs i (omega (arith, l))

  far_level : (k : ℕ) → k ≤ legs.made → (p : ℕ) → p < peerings_in setup → (x : far_type.Far.Far) → at_mark k (routers_in setup + p) ≡ Far x
      → FarAt faults k x.fields
  far_level zero k_in p p_in x is = far_first p p_in x is
  far_level (suc k) k_in p p_in x is =
      let (y, y_is) = far_at k (omega (arith, k_in)) p p_in in
      let (c, c_is, ph) = far_leg k (omega (arith, k_in)) p p_in y y_is in
      let same : c ≡ x = same_node_far c x (sym c_is ∙ ap (λ (i : ℕ). at_mark i (routers_in setup + p)) (next_is k) ∙ is) in
      subst (λ (z : far_type.Far.Far). FarAt faults (suc k) z.fields) same (subst (λ (i : ℕ). FarAt faults i c.fields) (next_is k)
      (far_after law.links_turning faults y.fields ph.mid c.fields ph.first ph.second ph.takes ph.turns k (far_level k (omega (arith, k_in)) p p_in y y_is)))

  far_links : (k p : ℕ) (x : far_type.Far.Far) → at_mark k (routers_in setup + p) ≡ Far x → links_of x.fields ≡ links_at k p
  unfolding links_at
  far_links k p x is = sym (ap links_in is)

  pub far_did : (k : ℕ) (k_in : k < legs.made) (p : ℕ) → p < peerings_in setup
      → FarDid setup faults p (k + 1) (world k) (links_at k p) (between journal (legs.mark k) (legs.mark (k + 1))) (world (k + 1)) (links_at (k + 1) p)
  far_did k k_in p p_in =
      let (x, x_is) = far_at k (omega (arith, k_in)) p p_in in
      let (c, c_is, ph) = far_leg k k_in p p_in x x_is in
      let at : FarAt faults k x.fields = far_level k (omega (arith, k_in)) p p_in x x_is in
      let before = far_own k (omega (arith, k_in)) p p_in x x_is in
      let after = far_own (k + 1) (omega (arith, k_in)) p p_in c c_is in
      let events : List FarEvent =
      ph.takes.events ++ far_rounds.turn law.links_turning faults x.fields ph.mid c.fields ph.first ph.second ph.takes ph.turns k at in
      let real = real_far law.links_turning faults x.fields ph.mid c.fields ph.first ph.second ph.takes ph.turns k at in
      record {
        events = events;
        coded = subst⁻¹ (λ (es : List JournalEntry). AreCoded far_code events es)
            (leading.slice_is setup a b begins legs journal merge b_ran worlds dropped k k_in (routers_in setup + p) []
            (leading.no_front setup a b begins legs journal merge b_ran worlds dropped k k_in (routers_in setup + p) (far_apart p p_in)))
            (subst (λ (es : List JournalEntry). AreCoded far_code events es) (entries_in_deeds (notes k k_in (routers_in setup + p)))
            (subst⁻¹ (λ (ds : List (Deed Mail)). AreDeeds far_code events ds) ph.split
            (far_rounds.far_coded law.links_turning faults x.fields ph.mid c.fields ph.first ph.second ph.takes ph.turns k at)));
        real = real_at x c {events = events} before after (far_links k p x x_is) (far_links (k + 1) p c c_is) real;
      }
    where
      real_at : (x c : far_type.Far.Far) {start end : FarPart} {l m : Links} {events : List FarEvent}
          → own (Far x) ≡ record { setup = setup; name = names.FarSide p; part = FarIs start }
          → own (Far c) ≡ record { setup = setup; name = names.FarSide p; part = FarIs end }
          → links_of x.fields ≡ l → links_of c.fields ≡ m
          → RealFar x.fields.known.setup faults x.fields.peering.0 (k + 1) (far_part x.fields)
          (links_of x.fields) events (far_part c.fields) (links_of c.fields)
          → RealFar setup faults p (k + 1) start l events end m
      real_at x c {start} {end} {l} {m} {events} before after first last real =
          subst (λ (s : Setup). RealFar s faults p (k + 1) start l events end m) (ap (λ (o : OwnPart). o.setup) before)
          (subst (λ (i : ℕ). RealFar x.fields.known.setup faults i (k + 1) start l events end m) (far_number (ap (λ (o : OwnPart). o.name) before))
          (subst (λ (part : FarPart). RealFar x.fields.known.setup faults x.fields.peering.0 (k + 1) part l events end m)
          (far_is (ap (λ (o : OwnPart). o.part) before))
          (subst (λ (part : FarPart). RealFar x.fields.known.setup faults x.fields.peering.0 (k + 1) (far_part x.fields) l events part m)
          (far_is (ap (λ (o : OwnPart). o.part) after))
          (subst (λ (h : Links). RealFar x.fields.known.setup faults x.fields.peering.0 (k + 1) (far_part x.fields) h events (far_part c.fields) m) first
          (subst (λ (h : Links). RealFar x.fields.known.setup faults x.fields.peering.0 (k + 1)
          (far_part x.fields) (links_of x.fields) events (far_part c.fields) h) last real)))))

  -- ---- the operator

  operator_at : (k : ℕ) → k ≤ legs.made → (x : operator_type.Operator.Operator) × (at_mark k (operator_number setup) ≡ Operator x)
  operator_at k k_in = node_operator (at_mark k (operator_number setup)) (ap (λ (o : OwnPart). o.name) (own_at k k_in names.Operator tt))

  pub operator_did : (k : ℕ) (k_in : k < legs.made) → OperatorDid setup (world k) (between journal (legs.mark k) (legs.mark (k + 1))) (world (k + 1))
  operator_did k k_in =
      let pause : Paused setup (legs.at k) (legs.from k) = legs.pause k k_in in
      let (x, x_is) = operator_at k (omega (arith, k_in)) in
      let (m, m_is) = pause.operator d x x_is in
      let before = own_at k (omega (arith, k_in)) names.Operator tt in
      let after = own_at (k + 1) (omega (arith, k_in)) names.Operator tt in
      let n = leading.size_from setup a b begins legs journal merge b_ran worlds dropped k k_in in
      let did : ActorDid own (acts carried) took turned (operator_number setup) (get_or (legs.from k).actors (operator_number setup) d)
      ((legs.from k).clock (operator_number setup)) (notes k k_in (operator_number setup)) (at_mark (k + 1) (operator_number setup))
      ((legs.at (k + 1)).clock (operator_number setup)) = (legs.phase k k_in).actors (operator_number setup) d (omega (arith, n)) in
      let kept = leading.leg_kept setup a b begins legs journal merge b_ran worlds dropped k k_in
      (operator_number setup) (map entry_in pause.deeds) pause.journal in
      let ds : List (Deed Mail) = pause.deeds ++ deeds (notes k k_in (operator_number setup)) in
      let replay : Replay (acts carried) (operator_number setup) (own (at_mark k (operator_number setup))) ds (own (at_mark (k + 1) (operator_number setup))) =
      replay-append (acts carried) (operator_number setup) (own (at_mark k (operator_number setup)))
      (own (get_or (legs.from k).actors (operator_number setup) d))
      (own (at_mark (k + 1) (operator_number setup))) pause.deeds (deeds (notes k k_in (operator_number setup)))
      (pause.replay d) did.replay in
      let (events, coded, goes) = operator_events setup (operator_number setup) (world k).operator (world (k + 1)).operator
      (own (at_mark k (operator_number setup))) (own (at_mark (k + 1) (operator_number setup))) ds before after replay
      (all-append IsKept pause.deeds (deeds (notes k k_in (operator_number setup))) (deeds_kept pause.deeds kept.0) kept.1) in
      let (c, c_is, done) = operator_phase (operator_number setup) (get_or (legs.from k).actors (operator_number setup) d)
      (at_mark (k + 1) (operator_number setup)) ((legs.from k).clock (operator_number setup)) ((legs.at (k + 1)).clock (operator_number setup))
      (notes k k_in (operator_number setup)) did m m_is in
      let m_setup : operators.operator_setup m ≡ setup =
      ap (λ (n : Node). (own n).setup) (sym m_is)
      ∙ replay_setup (operator_number setup) (own (at_mark k (operator_number setup)))
      (own (get_or (legs.from k).actors (operator_number setup) d)) pause.deeds (pause.replay d)
      ∙ ap (λ (o : OwnPart). o.setup) before in
      record {
        events = events;
        coded = subst⁻¹ (λ (es : List JournalEntry). AreCoded operator_code events es)
            (leading.slice_is setup a b begins legs journal merge b_ran worlds dropped k k_in (operator_number setup) (map entry_in pause.deeds) pause.journal
            ∙ ap (λ (es : List JournalEntry). map entry_in pause.deeds ++ es) (sym (entries_in_deeds (notes k k_in (operator_number setup))))
            ∙ sym (map-append entry_in pause.deeds (deeds (notes k k_in (operator_number setup)))))
            coded;
        real = record {
          goes = goes;
          issued = subst (λ (s : Setup). NothingToOrder s (world (k + 1)).operator) m_setup
              (subst (λ (part : OperatorPart). NothingToOrder (operators.operator_setup m) part)
              (operator_is (ap (λ (o : OwnPart). o.part) (sym (ap own c_is) ∙ after))) done);
        };
      }
