use Rattle.std.proofs.Common.{◌≡◌, ◌∙◌, ◌++◌, get_or, length, take, drop, subst}
use Rattle.std.proofs.lemmas.Result.{on_ok_weaker}
use Rattle.std.specs.Prelude.{None}
use Rattle.ring_net.specs.Ends.{SameIn}
use Rattle.ring_net.specs.Takes.{TookEach}
use Rattle.ring_net.proofs.Lists.{written_back}
use Rattle.ring_net.proofs.Peers.{lists_ins}
use Rattle.ring_net.proofs.Acts.{acts}
use Rattle.ring_net.proofs.cell.act.Goals as goal

pub invariant_of-ins : goal.invariant_of-ins
invariant_of-ins g c =
    let old = c.args.ins.now in
    let len : length c.take_each.new.ins ≡ length old.slots.items = c.take_each.auto.ins ∙ c.as_mut_slice.ensures.len ∙ old.slots.ok.0 in
    let back : take old.slots.len (c.take_each.new.ins ++ drop (length c.take_each.new.ins) old.slots.items) ≡ c.take_each.new.ins =
    written_back old.slots.len c.take_each.new.ins old.slots.items old.slots.ok.0 len in
    record {
      listed = rw back (lists_ins old.slots.items c.take_each.new.ins old.peers.items len
          (λ k. subst (λ xs. SameIn (get_or xs k None) (get_or c.take_each.new.ins k None)) c.as_mut_slice.ensures.value (c.take_each.ensures.rings k))
          old.listed);
    }

pub returns-clause-acts : goal.returns-clause-acts
returns-clause-acts g c =
    let old = c.args.ins.now in
    let len : length c.take_each.new.ins ≡ length old.slots.items = c.take_each.auto.ins ∙ c.as_mut_slice.ensures.len ∙ old.slots.ok.0 in
    let back : take old.slots.len (c.take_each.new.ins ++ drop (length c.take_each.new.ins) old.slots.items) ≡ c.take_each.new.ins =
    written_back old.slots.len c.take_each.new.ins old.slots.items old.slots.ok.0 len in
    let taken : TookEach g.A.Actor.part g.A.Actor.makes g.A.Actor.took c.args.actor.now c.args.post.now old.slots.items
    c.take_each.new.actor c.take_each.new.post c.take_each.new.ins = rw (← c.as_mut_slice.ensures.value) c.in_ok-take_each.ensures.took in
    on_ok_weaker c.turn.result
    (λ m. rw back (acts g.A.Actor.part g.A.Actor.makes g.A.Actor.took g.A.Actor.turned c.args.actor.now c.take_each.new.actor
    c.turn.new.self c.args.post.now c.take_each.new.post c.turn.new.post old.slots.items c.take_each.new.ins taken m))
    c.turn.ensures.turned
