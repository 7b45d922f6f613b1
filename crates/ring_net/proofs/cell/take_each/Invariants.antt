use Rattle.std.proofs.Common.{ℕ, get_or}
use Rattle.std.specs.Prelude.{None}
use Rattle.ring_net.specs.Posts.{SameEdges}
use Rattle.ring_net.specs.Ends.{SameIn}
use Rattle.ring_net.proofs.Peers.{WalkingEach}
use Rattle.ring_net.proofs.cell.take_each.Given as goal

-- the senders so far were taken from
abbrev pub invariant-loop-from : goal.invariant-loop-from
invariant-loop-from g l = record {
  rings : (a : ℕ) → SameIn (get_or l.initial.ins a None) (get_or l.ins a None);
  edges : SameEdges l.initial.post l.post;
  walk : WalkingEach g.A.Actor.part g.A.Actor.makes g.A.Actor.took l.senders l.from-index l.initial.actor l.initial.post l.initial.ins l.actor l.post l.ins;
}
