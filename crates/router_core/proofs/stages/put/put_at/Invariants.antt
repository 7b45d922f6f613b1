use Rattle.std.proofs.Common.{length}
use Rattle.std.specs.Prelude.{reverse}
use Rattle.ring_net.specs.Posts.{SameEdges}
use Rattle.update_plan.specs.Gathering.{AreSound}
use Rattle.router_core.specs.Parts.{router_part}
use Rattle.router_core.specs.Places.{place_at}
use Rattle.router_core.specs.Putting.{PlannedAt, PutsSomeAt}
use Rattle.router_core.proofs.stages.put.put_at.Given as goal

abbrev pub invariant-loop-batch : goal.invariant-loop-batch
invariant-loop-batch l = record {
  edges : SameEdges l.fn.post l.post;
  some : PutsSomeAt l.n l.fn.router l.fn.post l.router l.post;
  planned : PlannedAt l.router.known.setup l.router.number.0 (router_part l.router) l.n (place_at l.router.places.places l.n) (reverse l.batches.items);
  sound : AreSound l.batches.items;
}

abbrev pub decreases-loop-batch : goal.decreases-loop-batch
decreases-loop-batch l = length l.batches.items
