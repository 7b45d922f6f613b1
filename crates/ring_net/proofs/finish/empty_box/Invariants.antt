use Rattle.std.proofs.Common.{◌≡◌, ◌++◌, map}
use Rattle.ring_net.specs.declared.entry.Stamped.{Stamped}
use Rattle.ring_net.proofs.finish.empty_box.Given as goal

-- the items so far
abbrev pub invariant-loop-mail : goal.invariant-loop-mail
invariant-loop-mail g l = l.items ≡ l.initial.items ++ map (λ (x : Stamped _). x.item) l.yielded
