use Rattle.std.proofs.Common.{refl}
use Rattle.ring_net.proofs.PostLaws.{wrote_send}
use Rattle.ring_tests.proofs.tests.event.Goals as goal

pub returns-in-Ok-clause-ok : goal.returns-in-Ok-clause-ok
returns-in-Ok-clause-ok c =
    λ taken. wrote_send c.args.post.now c.note.new.self c.send.new.self _ taken c.args.to c.args.item refl refl c.in_ok-note.ensures.ok c.in-Ok.ensures.ok
