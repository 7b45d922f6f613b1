use Rattle.ring_net.specs.Posts.{SameEdges}
use Rattle.router_core.specs.Places.{place_at}
use Rattle.router_core.specs.Reading.{unread_at}
use Rattle.router_core.proofs.ReadRows.{ReadsSome}
use Rattle.router_core.proofs.takes.reads.read_all.Given as goal

abbrev pub invariant-messages : goal.invariant-messages
invariant-messages l = record {
  some : ReadsSome l.peering.0 l.initial.router l.initial.post l.router l.post;
  edges : SameEdges l.initial.post l.post;
}

abbrev pub decreases-messages : goal.decreases-messages
decreases-messages l = unread_at (place_at l.router.places.places l.peering.0)
