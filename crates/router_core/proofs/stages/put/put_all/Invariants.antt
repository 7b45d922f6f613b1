use Rattle.ring_net.specs.Posts.{SameEdges}
use Rattle.router_core.specs.Putting.{PutsFirst}
use Rattle.router_core.proofs.stages.put.put_all.Given as goal

abbrev pub invariant-loop-n : goal.invariant-loop-n
invariant-loop-n l = record {
  edges : SameEdges l.fn.post l.post;
  first : PutsFirst l.n l.fn.router l.fn.post l.router l.post;
}
