use Rattle.std.proofs.Common.{◌≡◌, ◌∷◌, ◌<◌, ℕ, Option, length, refl, ap, ◌∙◌, subst, arith}
use Rattle.std.specs.Prelude.{IfNone, IfSome, slice_get, slice_index_or, slice_set, false}
use Rattle.std.specs.List.{AllByRecursion}
use Rattle.tcp_seq.specs.declared.segment.Segment.{Segment}
use Rattle.tcp_seq.specs.declared.segment.Way.TheVariants.{Home}
use Rattle.bgp_session.specs.Running.{RunningSession, carried}
use Rattle.graft_steps.specs.declared.item.Item.TheVariants as items
use Rattle.graft_model.specs.declared.event.RouterEvent.TheVariants.{Arrive}
use Rattle.graft_actors.specs.Actors.{FarSide, Router}
use Rattle.graft_actors.specs.Items.{IsSegmentOf, MayGo}
use Rattle.audit_channels.specs.Channels.{parcels_in}
use Rattle.audit_router.specs.Nexts.{is_segment}
use Rattle.audit_router.specs.declared.place.Place.{Place}
use Rattle.audit_router.specs.declared.place.Place.TheVariants.{Live}
use Rattle.audit_router.proofs.Kept as kept
use Rattle.audit_router.proofs.LiveSessions.{arrive_none, arrive_nothing, arrives, in_streams, none_there, peering_is}
use Rattle.audit_router.proofs.Searching.{seen_at}
use Rattle.audit_router.proofs.router.AuditedRouter.arrive.Goals as goal

pub returns-in_default : goal.returns-in_default
returns-in_default c =
    let r = c.args.self.now in
    let p = c.args.p.0 in
    let now : Place = c.index_mut.result.now in
    let seen = c.index_mut.ensures.value ∙ ap (λ (n : ℕ). slice_index_or r.places.items n now) c.from.ensures in
    let at = seen_at r.places.items p now now (omega (arith, c.requires.there, c.requires.sound.all)) seen refl in
    kept.refused_taking_back r c.requires.sound (Arrive p) (FarSide p) (parcels_in c.args.channel.now) _ _ p now at
    (ap (λ (n : ℕ). slice_set r.places.items n now) c.from.ensures) refl (record { routers = refl; room = refl }) refl
    (arrive_none r c.requires.sound p (parcels_in c.args.channel.now) (none_there r p now at c.in_default.not-Live))

pub returns-in_default-take_segment : goal.returns-in_default-take_segment
returns-in_default-take_segment c =
    let r = c.args.self.now in
    let p = c.args.p.0 in
    let s = c.in-Live.session in
    let o = c.in-Live.errand in
    let now : Place = c.index_mut.result.now in
    let seen = c.index_mut.ensures.value ∙ ap (λ (n : ℕ). slice_index_or r.places.items n now) c.from.ensures in
    let at = seen_at r.places.items p now (Live s o) (omega (arith, c.requires.there, c.requires.sound.all)) seen c.in-Live.is in
    let none = subst (λ (segment : Option Segment). IfNone segment ((is_segment (slice_get (parcels_in c.args.channel.now) 0) ≡ false)
    × (parcels_in c.take_segment.new.channel ≡ parcels_in c.args.channel.now))) c.in_default-take_segment.is c.take_segment.ensures.none in
    kept.refused_taking_back r c.requires.sound (Arrive p) (FarSide p) (parcels_in c.args.channel.now) _ _ p (Live s o) at
    (ap (λ (n : ℕ). slice_set r.places.items n (Live s o)) c.from.ensures) refl (record { routers = refl; room = refl }) none.1
    (arrive_nothing r c.requires.sound p (parcels_in c.args.channel.now) none.0)

pub arrive-requires : goal.arrive-requires
arrive-requires c =
    let r = c.args.self.now in
    let p = c.args.p.0 in
    let s = c.in-Live.session in
    let o = c.in-Live.errand in
    let g : Segment = c.in-Some.segment in
    let now : Place = c.index_mut.result.now in
    let channel = parcels_in c.args.channel.now in
    let rest = parcels_in c.take_segment.new.channel in
    let seen = c.index_mut.ensures.value ∙ ap (λ (n : ℕ). slice_index_or r.places.items n now) c.from.ensures in
    let at = seen_at r.places.items p now (Live s o) (omega (arith, c.requires.there, c.requires.sound.all)) seen c.in-Live.is in
    let some = subst (λ (segment : Option Segment). IfSome segment (λ x. channel ≡ items.Seg x ∷ rest)) c.in-Some.is c.take_segment.ensures.some in
    let fits = subst (AllByRecursion (MayGo carried r.tables.known.setup (FarSide p) (Router r.tables.number.0))) some c.requires.fits in
    let of : IsSegmentOf r.tables.known.setup p Home g = fits.0 in
    record {
      peering = peering_is r c.requires.sound p channel g rest some of s o at;
      way = of.way;
      len = of.len;
      in_streams = in_streams r c.requires.sound p channel g rest some of s o at;
    }

pub returns : goal.returns
returns c =
    let r = c.args.self.now in
    let p = c.args.p.0 in
    let s = c.in-Live.session in
    let o = c.in-Live.errand in
    let t : RunningSession = c.arrive.new.self in
    let g : Segment = c.in-Some.segment in
    let now : Place = c.index_mut.result.now in
    let channel = parcels_in c.args.channel.now in
    let rest = parcels_in c.take_segment.new.channel in
    let there : p < length r.places.items = omega (arith, c.requires.there, c.requires.sound.all) in
    let seen = c.index_mut.ensures.value ∙ ap (λ (n : ℕ). slice_index_or r.places.items n now) c.from.ensures in
    let at = seen_at r.places.items p now (Live s o) there seen c.in-Live.is in
    let some = subst (λ (segment : Option Segment). IfSome segment (λ x. channel ≡ items.Seg x ∷ rest)) c.in-Some.is c.take_segment.ensures.some in
    let fits = subst (AllByRecursion (MayGo carried r.tables.known.setup (FarSide p) (Router r.tables.number.0))) some c.requires.fits in
    arrives r c.requires.sound p channel g rest some fits.0 s o at there _ t
    (ap (λ (n : ℕ). slice_set r.places.items n (Live t o)) c.from.ensures) refl (record { routers = refl; room = refl })
    c.in_ok-arrive.field-0 c.in_ok-arrive.ensures
