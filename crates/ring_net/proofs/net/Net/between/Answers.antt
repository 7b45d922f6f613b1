use Rattle.std.proofs.Common.{◌≡◌, ◌++◌, ◌∙◌, arith, drop, length, take}
use Rattle.ring_net.proofs.Lists.{written_back}
use Rattle.ring_net.proofs.net.Net.between.Goals as goal

pub invariant_of-self : goal.invariant_of-self
invariant_of-self g c =
    let old = c.args.self.now in
    let back : take old.cells.len (c.pause_all.new.cells ++ drop (length c.pause_all.new.cells) old.cells.items) ≡ c.pause_all.new.cells = written_back
    old.cells.len c.pause_all.new.cells old.cells.items old.cells.ok.0 (c.pause_all.auto.cells ∙ c.as_mut_slice.ensures.len ∙ old.cells.ok.0) in
    record {
      sound = rw back (c.in-Ok.ensures.net old.edges.items (rw c.as_mut_slice.ensures.value old.sound));
      some = rw back (omega (arith, old.some, c.pause_all.auto.cells, c.as_mut_slice.ensures.len, old.cells.ok.0));
      once = old.once;
      ordered = λ fine. rw back
          (c.in-Ok.ensures.order old.edges.items (rw c.as_mut_slice.ensures.value old.sound) (rw c.as_mut_slice.ensures.value (old.ordered fine)));
    }
