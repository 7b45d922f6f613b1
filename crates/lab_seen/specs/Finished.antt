-- The end of a laboratory's net.
use Rattle.std.specs.Prelude.{ℕ, ◌≡◌, List, length}
use Rattle.ring_net.specs.declared.parts.Left.{Left}
use Rattle.ring_net.specs.Left.{items_left}
use Rattle.graft_model.specs.Setups.{Setup}
use Rattle.graft_model.specs.Parts.{World}
use Rattle.world_runs.specs.Labs.{actors_in}
use Rattle.world_nodes.specs.declared.node.Node.{Node}
use Rattle.world_nodes.specs.Edges.{AreEdgesOf, has_channel}
use Rattle.world_nodes.specs.Looks.{IsWorldAt}
use Rattle.world_nodes.specs.Nodes.{Mail}
use Rattle.world_nodes.specs.Ways.{Stand}

-- The net is seen as this world of a run, with the channels of the laboratory. These are all its actors, and these items are left on their way along
-- each edge.
pub record IsFinished (setup : Setup) (w : World) (actors : List Node) (left : List (Left Mail)) : Type 0 where
  pub stand : Stand
  pub world : IsWorldAt setup stand w
  pub channels : (a b : ℕ) → stand.view.edge a b ≡ has_channel setup a b
  pub actors_are : actors ≡ stand.view.actors
  pub all : length actors ≡ actors_in setup
  pub edges : List (ℕ × ℕ)
  pub edges_are : AreEdgesOf setup edges
  pub left_is : left ≡ items_left stand.view edges
