use Rattle.std.proofs.Common.{[], refl}
use Rattle.ring_net.proofs.PostLaws.{wrote_none}
use Rattle.ring_tests.proofs.tests.ToyActor.between.Goals as goal

pub returns-clause-paused : goal.returns-clause-paused
returns-clause-paused c = record {
  moved = record { deeds = []; wrote = wrote_none c.args._post.now; none = tt; replay = refl; moved = tt };
  none = (λ _. refl, λ _. refl);
}
