use Rattle.std.proofs.Common.{◌∙◌, sym, refl, arith}
use Rattle.graft_steps.specs.declared.item.Item.TheVariants as items
use Rattle.audit_channels.specs.Channels.{parcels_in}
use Rattle.audit_far.proofs.Heads.{landed_is, point_follows, point_none, point_stays, taken_is}
use Rattle.audit_far.proofs.far.AuditedFar.point.Goals as goal

pub returns-in_default : goal.returns-in_default
returns-in_default c = point_none c.args.self.now c.args.self.now c.requires.sound c.args.router.0 (parcels_in c.args.channel.now)
    (parcels_in c.args.channel.now) (sym c.next_landing.ensures ∙ c.in_default.is) refl refl

pub returns-then-self-graft : goal.returns-then-self-graft
returns-then-self-graft c = point_stays c.args.self.now c.args.self.now c.requires.sound c.args.router.0 (parcels_in c.args.channel.now)
    (parcels_in c.take.new.self) c.in-Some.graft (omega (arith, c.if-self-graft.true))
    (taken_is c.take.result (parcels_in c.args.channel.now) (parcels_in c.take.new.self) (items.PointAt c.in-Some.graft)
    c.take.ensures.some c.take.ensures.none (landed_is _ c.in-Some.graft (sym c.next_landing.ensures ∙ c.in-Some.is))) refl

pub returns : goal.returns
returns c = point_follows c.args.self.now _ c.requires.sound c.args.router.0 (parcels_in c.args.channel.now)
    (parcels_in c.take.new.self) c.in-Some.graft c.args.router refl (omega (arith, c.if-self-graft.false))
    (taken_is c.take.result (parcels_in c.args.channel.now) (parcels_in c.take.new.self) (items.PointAt c.in-Some.graft)
    c.take.ensures.some c.take.ensures.none (landed_is _ c.in-Some.graft (sym c.next_landing.ensures ∙ c.in-Some.is))) refl
