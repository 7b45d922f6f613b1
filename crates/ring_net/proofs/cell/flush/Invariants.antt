use Rattle.std.proofs.Common.{◌≡◌, ◌++◌, ◌+◌, length}
use Rattle.rtrb.specs.Ring.{sent, known_free, SameProducer}
use Rattle.ring_net.proofs.cell.flush.Given as goal

-- so many items went into the ring, of which the slots were free
abbrev pub invariant-loop : goal.invariant-loop
invariant-loop g l = record {
  ring : SameProducer l.initial.out l.out;
  said : sent l.out ++ l.outbox.items ≡ sent l.initial.out ++ l.initial.outbox.items;
  free : known_free l.out + l.counter ≡ l.free;
  pushes : length (sent l.out) ≡ length (sent l.initial.out) + l.counter;
}
