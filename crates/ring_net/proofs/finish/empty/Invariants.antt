use Rattle.std.proofs.Common.{◌≡◌, ◌+◌, ◌++◌, length, map}
use Rattle.rtrb.specs.Ring.{known_items}
use Rattle.ring_net.specs.declared.entry.Stamped.{Stamped}
use Rattle.ring_net.proofs.finish.empty.Given as goal

-- what was taken so far and what is left are what there was
abbrev pub invariant-loop : goal.invariant-loop
invariant-loop g l = record {
  whole : l.items ++ map (λ (x : Stamped _). x.item) (known_items l.into) ≡ l.initial.items ++ map (λ (x : Stamped _). x.item) (known_items l.initial.into);
  left : l.counter + length (known_items l.into) ≡ l.count;
}
