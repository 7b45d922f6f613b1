use Rattle.std.proofs.Common.{◌≡◌, ◌∷◌, ℕ, List, Option, ap, ◌∙◌, sym, subst, arith}
use Rattle.std.proofs.lemmas.Bool.{false≢true}
use Rattle.std.specs.Prelude.{IfNone, IfSome, slice_get, slice_index_or, false}
use Rattle.std.specs.List.{AllByRecursion}
use Rattle.tcp_seq.specs.declared.segment.Segment.{Segment}
use Rattle.bgp_session.specs.Running.{carried}
use Rattle.graft_steps.specs.declared.item.Item.TheVariants as items
use Rattle.graft_model.specs.declared.event.RouterEvent.TheVariants.{Stray}
use Rattle.graft_actors.specs.Actors.{FarSide, Router}
use Rattle.graft_actors.specs.Items.{MayGo}
use Rattle.audit_channels.specs.Channels.{parcels_in}
use Rattle.audit_ruling.specs.Rulings.{Parcel}
use Rattle.audit_ruling.specs.declared.ruling.Ruling.TheVariants.{Refused}
use Rattle.audit_router.specs.Decides.{DecidesTaking}
use Rattle.audit_router.specs.Nexts.{is_segment}
use Rattle.audit_router.specs.declared.place.Place.{Place}
use Rattle.audit_router.proofs.LiveSessions.{none_there, stray_live, stray_nothing, strays}
use Rattle.audit_router.proofs.Searching.{seen_at}
use Rattle.audit_router.proofs.router.AuditedRouter.stray.Goals as goal

pub returns-then-is_live : goal.returns-then-is_live
returns-then-is_live c =
    let r = c.args.self.now in
    let p = c.args.p.0 in
    let now : Place = c.index.result.now in
    let live = c.is_live.ensures.0 c.if-is_live.true in
    let seen = c.index.ensures ∙ ap (λ (n : ℕ). slice_index_or r.places.items n now) c.from.ensures in
    stray_live r c.requires.sound p (parcels_in c.args.channel.now) live.0 live.1
    (seen_at r.places.items p now _ (omega (arith, c.requires.there, c.requires.sound.all)) seen live.2)

pub returns-in_default : goal.returns-in_default
returns-in_default c =
    let r = c.args.self.now in
    let p = c.args.p.0 in
    let channel = parcels_in c.args.channel.now in
    let none = subst (λ (segment : Option Segment). IfNone segment ((is_segment (slice_get channel 0) ≡ false)
    × (parcels_in c.take_segment.new.channel ≡ channel))) c.in_default.is c.take_segment.ensures.none in
    subst (λ (rest : List Parcel). DecidesTaking (Stray p) (FarSide p) r channel Refused r rest) (sym none.1)
    (stray_nothing r c.requires.sound p channel none.0)

pub returns : goal.returns
returns c =
    let r = c.args.self.now in
    let p = c.args.p.0 in
    let now : Place = c.index.result.now in
    let channel = parcels_in c.args.channel.now in
    let rest = parcels_in c.take_segment.new.channel in
    let seen = c.index.ensures ∙ ap (λ (n : ℕ). slice_index_or r.places.items n now) c.from.ensures in
    let at = seen_at r.places.items p now now (omega (arith, c.requires.there, c.requires.sound.all)) seen (λ i. now) in
    let some = subst (λ (segment : Option Segment). IfSome segment (λ x. channel ≡ items.Seg x ∷ rest)) c.in-Some.is c.take_segment.ensures.some in
    let fits = subst (AllByRecursion (MayGo carried r.tables.known.setup (FarSide p) (Router r.tables.number.0))) some c.requires.fits in
    strays r c.requires.sound p channel c.in-Some._segment rest some fits.0
    (none_there r p now at (λ s o is. false≢true (sym c.if-is_live.false ∙ c.is_live.ensures.1 (s, o, is))))
