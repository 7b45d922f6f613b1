-- What contracts see of a running laboratory.
use Rattle.std.specs.Prelude.{ℕ, ◌≡◌, ◌+◌, length}
use Rattle.std.specs.List.{AllByRecursion}
use Rattle.ring_net.specs.Shown.{view, marks}
use Rattle.world_nodes.specs.Nodes.{Works}
use Rattle.world_nodes.specs.Ways.{Stand}
use Rattle.world_nodes.specs.declared.running_lab.RunningLab.{RunningLab}

abbrev pub stand : RunningLab → Stand
stand c = record { view = view c.net; marks = marks c.net }

-- the numbers of routers and of peerings
abbrev pub counts : RunningLab → ℕ × ℕ
counts c = (c.routers, c.peerings)

-- Every actor exists and works: it never ran out of memory.
pub record AllWork (c : RunningLab) : Type 0 where
  pub size : length (stand c).view.actors ≡ (counts c).0 + (counts c).1 + 1
  pub each : AllByRecursion Works (stand c).view.actors
