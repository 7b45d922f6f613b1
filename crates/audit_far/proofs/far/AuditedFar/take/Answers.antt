use Rattle.std.proofs.Common.{Option, ◌≡◌, ◌∷◌, false, refl, subst}
use Rattle.std.specs.Prelude.{IfNone, IfSome, slice_get}
use Rattle.tcp_seq.specs.declared.segment.Segment.{Segment}
use Rattle.graft_steps.specs.declared.item.Item.TheVariants as items
use Rattle.audit_channels.specs.Channels.{parcels_in}
use Rattle.audit_far.specs.Heads.{is_segment}
use Rattle.audit_far.proofs.Heads.{take_made, take_none}
use Rattle.audit_far.proofs.far.AuditedFar.take.Goals as goal

pub returns-in_default : goal.returns-in_default
returns-in_default c =
    let none = subst (λ (o : Option Segment). IfNone o ((is_segment (slice_get (parcels_in c.args.channel.now) 0) ≡ false)
    × (parcels_in c.take_segment.new.channel ≡ parcels_in c.args.channel.now))) c.in_default.is c.take_segment.ensures.none in
    take_none c.args.self.now c.args.self.now c.requires.sound c.args.router.0 (parcels_in c.args.channel.now)
    (parcels_in c.take_segment.new.channel) none.0 refl none.1

pub returns : goal.returns
returns c =
    let some = subst (λ (o : Option Segment). IfSome o (λ segment. parcels_in c.args.channel.now
    ≡ items.Seg segment ∷ parcels_in c.take_segment.new.channel)) c.in-Some.is c.take_segment.ensures.some in
    take_made c.args.self.now _ c.requires.sound c.args.router.0 (parcels_in c.args.channel.now)
    (parcels_in c.take_segment.new.channel) c.requires.fits c.in-Some.segment c.put.new.bag some c.in_ok-put.ensures refl
