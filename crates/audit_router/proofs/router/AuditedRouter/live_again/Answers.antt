use Rattle.std.proofs.Common.{refl, arith}
use Rattle.audit_router.proofs.AtSource.{lives_again}
use Rattle.audit_router.proofs.router.AuditedRouter.live_again.Goals as goal

pub index_mut-requires : goal.index_mut-requires
index_mut-requires c = omega (arith, c.requires.there, c.requires.sound.all, c.args.self.now.places.ok.0)

pub returns : goal.returns
returns c = lives_again c.args.self.now c.requires.sound c.args.p (omega (arith, c.requires.there, c.requires.sound.all)) c.args.session c.requires.own _ refl
    (record { routers = refl; room = refl }) c.in_ok-set_due_again.ensures.changes c.in_ok-set_due_again.ensures.forgets c.in_ok-set_due_again.ensures.due
