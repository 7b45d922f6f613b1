use Rattle.std.proofs.Common.{Some, refl}
use Rattle.ring_tests.proofs.tests.ToyActor.take.Goals as goal

pub returns-clause-took : goal.returns-clause-took
returns-clause-took c = record {
  deeds = _;
  wrote = c.in_ok-event.ensures.ok (Some (c.args._from, c.args.item));
  first = (refl, tt);
  replay = (tt, tt, refl);
  took = tt;
}
