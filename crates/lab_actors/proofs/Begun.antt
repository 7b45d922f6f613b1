-- Actors that were made by the configurations of their laboratory.
use Rattle.std.proofs.Common.{◌≡◌, ℕ, ap, sym, ◌∙◌}
use Rattle.std.specs.Prelude.{List, Some, option_map, slice_get}
use Rattle.graft_edge.specs.declared.ids.PeeringId.{PeeringId}
use Rattle.graft_edge.specs.declared.ids.RouterId.{RouterId}
use Rattle.tcp_seq.specs.declared.segment.Way.{Way}
use Rattle.link_bag.specs.declared.plan.Fault.{Fault}
use Rattle.link_bag.specs.declared.plan.Plan.{Plan}
use Rattle.link_bag.specs.Planned.{fate_in, fate_of}
use Rattle.graft_model.specs.Setups.{Setup, keepalive_interval_of}
use Rattle.graft_actors.specs.Actors.{ActorName, Router, FarSide, Operator}
use Rattle.graft_actors.specs.Acts.{OwnPart}
use Rattle.router_core.specs.Routers as routers
use Rattle.actor_configs.specs.declared.router.RouterConfig.{RouterConfig}
use Rattle.router_core.specs.declared.router as made_routers
use Rattle.far_side.specs.Fars.{far_own_part, IsNewFar}
use Rattle.actor_configs.specs.Fars.{IsFarConfigOf}
use Rattle.actor_configs.specs.declared.far.FarConfig.{FarConfig}
use Rattle.far_side.specs.declared.far as made_fars
use Rattle.world_nodes.specs.declared.node.Node.TheVariants as nodes
use Rattle.lab_actors.specs.Firsts.{first_own, IsFirstNode}

pub router_first : (setup : Setup) (faults : List Fault) (number : RouterId) (config : RouterConfig) (router : made_routers.Router.Router)
    → config.number ≡ number → routers.IsNewRouter setup config router
    → IsFirstNode setup faults (Router number.0) (nodes.Router router)
router_first setup faults number config router its new = record {
  is = new.0.is ∙ ap (λ (n : RouterId). first_own setup (Router n.0)) its;
  works = new.1;
  fresh = record { turns = new.0.turns; at_turn = new.0.at_turn };
}

-- whose far side has this name
abbrev peering_of : ActorName → ℕ
peering_of (Router r) = 0
peering_of (FarSide p) = p
peering_of Operator = 0

same_id : (p q : PeeringId) → p.0 ≡ q.0 → p ≡ q
same_id p q e = ap (λ (n : ℕ). (let x : PeeringId = record { 0 = n } in x)) e

module _ (setup : Setup) (faults : List Fault) (peering : PeeringId) (config : FarConfig) (far : made_fars.Far.Far)
    (of : IsFarConfigOf setup config) (its : config.peering ≡ peering) (new : IsNewFar setup config far) where
  own_is : far_own_part far ≡ first_own setup (FarSide peering.0)
  own_is = new.is ∙ ap (λ (p : PeeringId). first_own setup (FarSide p.0)) its

  number_is : far.fields.peering ≡ peering
  number_is = same_id far.fields.peering peering (ap (λ (o : OwnPart). peering_of o.name) own_is)

  interval_is : option_map keepalive_interval_of (slice_get setup.peerings far.fields.peering.0) ≡ Some far.fields.keepalive_interval
  interval_is =
      ap (λ (p : PeeringId). option_map keepalive_interval_of (slice_get setup.peerings p.0)) (number_is ∙ sym its)
      ∙ ap (option_map keepalive_interval_of) of.is ∙ ap Some (sym of.beat) ∙ ap Some (sym new.keepalive_interval)

  -- with the plan of these faults it is the first far side of its peering
  pub far_first : ((way : Way) (segment : ℕ) → fate_in config.plan peering way segment ≡ fate_of faults peering way segment)
      → IsFirstNode setup faults (FarSide peering.0) (nodes.Far far)
  far_first planned = record {
    is = own_is;
    works = tt;
    fresh = record {
      turns = new.turns;
      at_turn = new.at_turn;
      links = new.links;
      homeward = new.homeward;
      remoteward = new.remoteward;
      keepalive_interval = interval_is;
      fates = λ way segment. ap (λ (plan : Plan). fate_in plan far.fields.peering way segment) new.plan
          ∙ ap (λ (p : PeeringId). fate_in config.plan p way segment) number_is
          ∙ planned way segment
          ∙ ap (λ (p : PeeringId). fate_of faults p way segment) (sym number_is);
    };
  }
