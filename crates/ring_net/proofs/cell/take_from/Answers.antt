use Rattle.std.proofs.Common.{rules, arith, inl, ◌∙◌}
use Rattle.ring_net.proofs.Takes.{taking_none, taking_more, taking_done}
use Rattle.ring_net.proofs.cell.take_from.Goals as goal

pub loop-init : goal.loop-init
loop-init g c = record {
  ring = search rules;
  edges = search rules;
  taking = taking_none g.A.Actor.part g.A.Actor.makes g.A.Actor.took c.args.from c.args.actor.now c.args.post.now c.args.into.now;
}

pub loop-preserved : goal.loop-preserved
loop-preserved g c = record {
  ring = search rules;
  edges = record {
    actor = c.take_one.ensures.edges.actor ∙ c.loop.invariant.edges.actor;
    edges = λ b. c.take_one.ensures.edges.edges b ∙ c.loop.invariant.edges.edges b;
  };
  taking = taking_more g.A.Actor.part g.A.Actor.makes g.A.Actor.took c.args.from c.loop.counter
      c.in-Ok.mail.stamp.0 c.in-Ok.mail.item c.args.actor.now c.loop.actor c.take_one.new.actor
      c.args.post.now c.loop.post c.take_one.new.post c.args.into.now c.loop.into c.pop.new.self
      c.loop.invariant.taking c.in-Ok.ensures.ok.0 c.in-Ok.ensures.ok.1 c.in_ok-take_one-in-Ok.ensures.took;
}

pub returns-clause-took : goal.returns-clause-took
returns-clause-took g c = taking_done g.A.Actor.part g.A.Actor.makes g.A.Actor.took c.args.from
    c.loop.counter c.args.actor.now c.loop.actor c.args.post.now c.loop.post c.args.into.now c.loop.into
    c.loop.invariant.taking (omega arith) c.args.into.now.counts (inl (omega arith))
