use Rattle.std.specs.FinMap as map
use Rattle.ring_net.specs.Posts.{SameEdges}
use Rattle.rib_stages.specs.Values.{table_at}
use Rattle.router_core.specs.Tellings.{TellsSome}
use Rattle.router_core.proofs.stages.tell.tell_router.Given as goal

-- some of what is due to it was told
abbrev pub invariant-loop-prefix : goal.invariant-loop-prefix
invariant-loop-prefix l = TellsSome l.fn.q l.initial.router l.initial.post l.router l.post × SameEdges l.initial.post l.post

-- how much is due to it
abbrev pub decreases-loop-prefix : goal.decreases-loop-prefix
decreases-loop-prefix l = map.len (table_at l.router.due_in l.fn.q)
