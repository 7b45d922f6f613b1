use Rattle.std.proofs.Common.{◌≡◌, ◌∙◌, ◌++◌, get_or, length, take, drop, subst}
use Rattle.std.specs.Prelude.{None}
use Rattle.ring_net.specs.Ends.{SameOut}
use Rattle.ring_net.proofs.Lists.{written_back}
use Rattle.ring_net.proofs.Peers.{lists_outs}
use Rattle.ring_net.proofs.cell.flush_all.Goals as goal

pub invariant_of-rings : goal.invariant_of-rings
invariant_of-rings g c =
    let old = c.args.rings.now in
    let len : length c.flush_each.new.rings ≡ length old.slots.items = c.flush_each.auto.rings ∙ c.as_mut_slice.ensures.len ∙ old.slots.ok.0 in
    let back : take old.slots.len (c.flush_each.new.rings ++ drop (length c.flush_each.new.rings) old.slots.items) ≡ c.flush_each.new.rings =
    written_back old.slots.len c.flush_each.new.rings old.slots.items old.slots.ok.0 len in
    record {
      listed = rw back (lists_outs old.slots.items c.flush_each.new.rings old.peers.items len
          (λ k. subst (λ xs. SameOut (get_or xs k None) (get_or c.flush_each.new.rings k None)) c.as_mut_slice.ensures.value
          (c.flush_each.ensures k).same) old.listed);
    }
