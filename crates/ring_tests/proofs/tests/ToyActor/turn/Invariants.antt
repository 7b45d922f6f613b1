use Rattle.std.proofs.Common.{ℕ, List}
use Rattle.std.specs.List.{AllByRecursion}
use Rattle.ring_net.specs.Deeds.{Deed, TakesNone}
use Rattle.ring_net.specs.Posts.{Wrote, SameEdges}
use Rattle.ring_tests.proofs.tests.ToyActor.turn.Given as goal

-- the events so far
abbrev pub invariant-loop-item : goal.invariant-loop-item
invariant-loop-item l = record {
  wrote : (ds : List (Deed ℕ)) × Wrote l.initial.post ds l.post × AllByRecursion TakesNone ds;
  edges : SameEdges l.initial.post l.post;
}
