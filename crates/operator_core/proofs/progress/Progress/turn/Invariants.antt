use Rattle.ring_net.specs.Posts.{SameEdges}
use Rattle.operator_core.proofs.Calls.{Turning}
use Rattle.operator_core.proofs.progress.Progress.turn.Given as goal

abbrev pub invariant-loop-index : goal.invariant-loop-index
invariant-loop-index g l = record {
  turning : Turning l.fn.self l.fn.post l.index l.self l.post;
  edges : SameEdges l.fn.post l.post;
}
