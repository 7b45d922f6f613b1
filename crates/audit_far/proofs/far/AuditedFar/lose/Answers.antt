use Rattle.std.proofs.Common.{refl, subst, sym}
use Rattle.tcp_seq.specs.declared.segment.Way.{Way}
use Rattle.graft_model.specs.declared.event.FarEvent.TheVariants.{Lose}
use Rattle.audit_far.specs.Decides.{DecidesFar}
use Rattle.audit_far.specs.declared.far.AuditedFar.{AuditedFar}
use Rattle.audit_far.proofs.Rows.{lose_home_either, lose_remote_either}
use Rattle.audit_far.proofs.far.AuditedFar.lose.Goals as goal

pub returns-in-Home : goal.returns-in-Home
returns-in-Home c =
    let f = c.args.self.now in
    let g : AuditedFar = record f { homeward = c.lose.new.bag } in
    subst (λ (way : Way). DecidesFar (Lose way c.args.index) f c.lose.result g) (sym c.in-Home.is)
    (lose_home_either f g c.requires c.args.index c.lose.result c.lose.new.bag c.lose.ensures.lost c.lose.ensures.none refl)

pub returns-in-Remote : goal.returns-in-Remote
returns-in-Remote c =
    let f = c.args.self.now in
    let g : AuditedFar = record f { remoteward = c.lose-in-Remote.new.bag } in
    subst (λ (way : Way). DecidesFar (Lose way c.args.index) f c.lose-in-Remote.result g) (sym c.in-Remote.is)
    (lose_remote_either f g c.requires c.args.index c.lose-in-Remote.result c.lose-in-Remote.new.bag
    c.lose-in-Remote.ensures.lost c.lose-in-Remote.ensures.none refl)
