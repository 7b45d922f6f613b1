use Rattle.std.proofs.Common.{ℕ, ◌<◌, length}
use Rattle.std.proofs.lemmas.List.Sorted.{All-permutation}
use Rattle.ring_net.proofs.deal.by_load.Goals as goal

pub returns : goal.returns
returns c = All-permutation (λ (dealt : ℕ × ℕ). dealt.1 < length c.args.loads.now) c.loop-actor.order.items c.sort_unstable_by.new.self.items
    c.sort_unstable_by.ensures.permutation c.loop-actor.invariant
