use Rattle.capsule_parts.proofs.Puts.{put_stays}
use Rattle.capsule_parts.proofs.offer.put_again.Goals as goal

pub returns-in-Ok-clause-stays : goal.returns-in-Ok-clause-stays
returns-in-Ok-clause-stays c = put_stays c.args.session.now.session c.offer.new.self.session c.in-Some.update c.in-Ok.ensures.ok
