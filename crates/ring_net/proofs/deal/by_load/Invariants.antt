use Rattle.std.proofs.Common.{ℕ, ◌<◌, length}
use Rattle.std.specs.List.{All}
use Rattle.ring_net.proofs.deal.by_load.Given as goal

-- the actors so far
abbrev pub invariant-loop-actor : goal.invariant-loop-actor
invariant-loop-actor l = All (λ (dealt : ℕ × ℕ). dealt.1 < length l.loads) l.order.items
