use Rattle.ring_net.proofs.TakesEach.{took_one_none}
use Rattle.ring_net.proofs.cell.take_maybe.Goals as goal

pub returns-in-None-clause-took : goal.returns-in-None-clause-took
returns-in-None-clause-took g c =
    took_one_none g.A.Actor.part g.A.Actor.makes g.A.Actor.took c.args.from c.args.actor.now c.args.post.now c.args.into.now c.in-None.is
