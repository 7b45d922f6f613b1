-- The actors of a finished net by their numbers: each is what the world has of it.
use Rattle.std.proofs.Common.{◌≡◌, ◌<◌, ◌+◌, ℕ, List, [], ◌∷◌, Option, Some, map, length, get_or, refl, sym, ap, ◌∙◌, arith}
use Rattle.std.specs.Prelude.{slice_get}
use Rattle.std.specs.List.{flat_map}
use Rattle.std.proofs.lemmas.Option.{get_or_from_slice_get}
use Rattle.ring_net.specs.declared.parts.Left.{Left}
use Rattle.graft_model.specs.Setups.{Setup, routers_in, peerings_in, router_numbers, peering_numbers}
use Rattle.graft_model.specs.Parts.{RouterPart, FarPart, OperatorPart, World}
use Rattle.graft_actors.specs.Actors.{RouterIs, FarIs, OperatorIs, ActorName, IsActor, number_in}
use Rattle.graft_actors.specs.Actors as names
use Rattle.graft_actors.specs.Seen.{part_of}
use Rattle.graft_actors.proofs.Numbers.{there}
use Rattle.router_core.specs.declared.router as router_types
use Rattle.bgp_session.specs.Running.{carried}
use Rattle.router_core.specs.Routers as routers
use Rattle.far_side.specs.declared.far.Far.{Far as TheFar}
use Rattle.far_side.specs.Fars as fars
use Rattle.operator_core.specs.declared.operator.Operator.{Operator as TheOperator}
use Rattle.operator_state.specs.Grafts.{log_of}
use Rattle.operator_core.specs.Operators.{operator_setup, operator_part}
use Rattle.lab_setup.proofs.Lists.{below_get}
use Rattle.world_runs.specs.Labs.{actors_in}
use Rattle.world_nodes.specs.declared.node.Node.{Node}
use Rattle.world_nodes.specs.declared.node.Node.TheVariants.{Router, Far, Operator}
use Rattle.world_nodes.specs.Nodes.{Mail, own}
use Rattle.world_nodes.proofs.Seen.{part_is}
use Rattle.lab_seen.specs.Finished.{IsFinished}
use Rattle.lab_seen.specs.Found.{router_in, far_in, operator_in, router_tables_of, fars_of, log_in}
use Rattle.lab_seen.specs.Seen.{far_view, router_table_of}
use Rattle.lab_seen.proofs.Ranges.{each_one}

-- ---- what an actor is, by its part

pub record IsRouter (node : Node) (part : RouterPart) : Type 0 where
  pub router : router_types.Router.Router
  pub is : node ≡ Router router
  pub part_is : routers.part_of_router router ≡ part

router_of : (node : Node) (setup : Setup) (r : ℕ) (part : RouterPart)
    → own node ≡ record { setup = setup; name = names.Router r; part = RouterIs part } → IsRouter node part
router_of (Router router) setup r part e = let same = ap (λ o. o.part) e in record { router = router; is = refl; part_is = cc }
router_of (Far far) setup r part e = absurd (let same = ap (λ o. o.name) e in cc)
router_of (Operator operator) setup r part e = absurd (let same = ap (λ o. o.name) e in cc)

record IsFar (node : Node) (part : FarPart) : Type 0 where
  far : TheFar
  is : node ≡ Far far
  part_is : fars.part_of_far far ≡ part

far_of : (node : Node) (setup : Setup) (p : ℕ) (part : FarPart) → own node ≡ record { setup = setup; name = names.FarSide p; part = FarIs part }
    → IsFar node part
far_of (Router router) setup p part e = absurd (let same = ap (λ o. o.name) e in cc)
far_of (Far far) setup p part e = let same = ap (λ o. o.part) e in record { far = far; is = refl; part_is = cc }
far_of (Operator operator) setup p part e = absurd (let same = ap (λ o. o.name) e in cc)

record IsOperator (node : Node) (setup : Setup) (part : OperatorPart) : Type 0 where
  operator : TheOperator
  is : node ≡ Operator operator
  setup_is : operator_setup operator ≡ setup
  part_is : operator_part operator ≡ part

operator_of : (node : Node) (setup : Setup) (part : OperatorPart)
    → own node ≡ record { setup = setup; name = names.Operator; part = OperatorIs part } → IsOperator node setup part
operator_of (Router router) setup part e = absurd (let same = ap (λ o. o.name) e in cc)
operator_of (Far far) setup part e = absurd (let same = ap (λ o. o.name) e in cc)
operator_of (Operator operator) setup part e =
    let same = ap (λ o. o.part) e in record { operator = operator; is = refl; setup_is = ap (λ o. o.setup) e; part_is = cc }

-- ---- of a net that has finished

module _ (setup : Setup) (w : World) (actors : List Node) (left : List (Left Mail)) (done : IsFinished setup w actors left) where
  record NodeAt (x : ActorName) : Type 0 where
    node : Node
    is : slice_get actors (number_in setup x) ≡ Some node
    own_is : own node ≡ record { setup = setup; name = x; part = part_of w x }

  node_at : (x : ActorName) → IsActor setup x → number_in setup x < actors_in setup → NodeAt x
  node_at x known below =
      let view = done.stand.view in
      let here = below_get actors (number_in setup x) (omega (arith, below, done.all)) in
      let size : length view.actors ≡ actors_in setup = ap length (sym done.actors_are) ∙ done.all in
      let within : number_in setup x < length view.actors = omega (arith, below, size) in
      let read : get_or view.actors (number_in setup x) here.x ≡ here.x =
      ap (λ (xs : List Node). get_or xs (number_in setup x) here.x) (sym done.actors_are)
      ∙ get_or_from_slice_get actors (number_in setup x) here.x here.x here.is in
      record {
        node = here.x;
        is = here.is;
        own_is = ap own (sym read) ∙ part_is own carried setup view w done.world.0 size (number_in setup x) x here.x (there setup x known) within;
      }

  -- the actor of a router's number
  pub record HasRouter (r : ℕ) : Type 0 where
    pub router : router_types.Router.Router
    pub is : slice_get actors r ≡ Some (Router router)
    pub part_is : routers.part_of_router router ≡ w.router r

  pub router_at : (r : ℕ) → r < routers_in setup → HasRouter r
  router_at r below =
      let at = node_at (names.Router r) below (omega (arith, below)) in
      let it = router_of at.node setup r (w.router r) at.own_is in
      record { router = it.router; is = at.is ∙ ap (λ (x : Node). Some x) it.is; part_is = it.part_is }

  pub tables_are : flat_map (λ r. router_tables_of setup (router_in (slice_get actors r))) (router_numbers setup)
      ≡ map (λ r. router_table_of setup (w.router r)) (router_numbers setup)
  tables_are = each_one (λ r. router_tables_of setup (router_in (slice_get actors r))) (λ r. router_table_of setup (w.router r)) 0 (routers_in setup) each where
    each : (r : ℕ) → r < 0 + routers_in setup → router_tables_of setup (router_in (slice_get actors r)) ≡ router_table_of setup (w.router r) ∷ []
    each r below =
        let at = router_at r (omega (arith, below)) in
        ap (λ (o : Option Node). router_tables_of setup (router_in o)) at.is ∙ ap (λ (part : RouterPart). router_table_of setup part ∷ []) at.part_is

  pub fars_are : flat_map (λ p. fars_of (far_in (slice_get actors (routers_in setup + p)))) (peering_numbers setup)
      ≡ map (λ p. far_view (w.far p)) (peering_numbers setup)
  fars_are = each_one (λ p. fars_of (far_in (slice_get actors (routers_in setup + p)))) (λ p. far_view (w.far p)) 0 (peerings_in setup) each where
    each : (p : ℕ) → p < 0 + peerings_in setup → fars_of (far_in (slice_get actors (routers_in setup + p))) ≡ far_view (w.far p) ∷ []
    each p below =
        let at = node_at (names.FarSide p) (omega (arith, below)) (omega (arith, below)) in
        let it = far_of at.node setup p (w.far p) at.own_is in
        ap (λ (o : Option Node). fars_of (far_in o)) (at.is ∙ ap (λ (x : Node). Some x) it.is) ∙ ap (λ (part : FarPart). far_view part ∷ []) it.part_is

  pub log_is : log_in (operator_in (slice_get actors (routers_in setup + peerings_in setup))) ≡ log_of setup w.operator
  log_is =
      let at = node_at names.Operator tt (omega arith) in
      let it = operator_of at.node setup w.operator at.own_is in
      ap (λ (o : Option Node). log_in (operator_in o)) (at.is ∙ ap (λ (x : Node). Some x) it.is)
      ∙ ap (λ (s : Setup). log_of s (operator_part it.operator)) it.setup_is
      ∙ ap (λ (part : OperatorPart). log_of setup part) it.part_is
