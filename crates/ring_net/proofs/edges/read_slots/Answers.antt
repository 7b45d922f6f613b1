use Rattle.std.proofs.Common.{◌<◌, ap, arith, length, ◌∙◌}
use Rattle.std.specs.Prelude.{is_some, None}
use Rattle.std.proofs.lemmas.List.{get_or_default}
use Rattle.ring_net.proofs.Peers.{lists_set, looked_out_none, looked_in_none}
use Rattle.ring_net.proofs.edges.read_slots.Goals as goal

pub invariant_of-rings : goal.invariant_of-rings
invariant_of-rings g c =
    let old = c.args.rings.now in
    let within : c.args.b < length old.slots.items = omega (arith, c.len.ensures, old.slots.ok.0) in
    record {
      listed = lists_set old.slots.items c.args.b c.read_both.new.out old.peers.items
          (λ h. looked_out_none c.index_mut.result.now c.read_both.new.out c.read_both.ensures.outs
          (ap is_some (c.index_mut.ensures.value ∙ get_or_default old.slots.items c.args.b c.index_mut.result.now None within) ∙ h)) old.listed;
    }

pub invariant_of-ins : goal.invariant_of-ins
invariant_of-ins g c =
    let old = c.args.ins.now in
    let within : c.args.a < length old.slots.items = omega (arith, c.len-then-b-len.ensures, old.slots.ok.0) in
    record {
      listed = lists_set old.slots.items c.args.a c.read_both.new.into old.peers.items
          (λ h. looked_in_none c.index_mut-then-a-len.result.now c.read_both.new.into c.read_both.ensures.ins (ap is_some
          (c.index_mut-then-a-len.ensures.value ∙ get_or_default old.slots.items c.args.a c.index_mut-then-a-len.result.now None within) ∙ h)) old.listed;
    }
