use Rattle.std.proofs.Common.{◌≡◌, ◌<◌, ◌∷◌, ℕ, List, length, Some, None, option_map, refl, sym, ap, ◌∙◌, arith}
use Rattle.std.specs.Prelude.{slice_set}
use Rattle.std.proofs.lemmas.Bool.{false≢true}
use Rattle.std.proofs.lemmas.Option.{none-some}
use Rattle.bgp_session.specs.Running.{RunningSession}
use Rattle.graft_steps.specs.declared.item.Item.TheVariants as items
use Rattle.graft_steps.specs.declared.order.GraftIds.{GraftIds}
use Rattle.audit_channels.specs.Channels.{parcels_in}
use Rattle.audit_ruling.specs.Rulings.{Parcel}
use Rattle.audit_router.specs.Nexts.{order_of}
use Rattle.audit_router.specs.Places.{place_at}
use Rattle.audit_router.specs.declared.place.Errand.TheVariants.{Leaving}
use Rattle.audit_router.specs.declared.place.Place.{Place}
use Rattle.audit_router.specs.declared.place.Place.TheVariants.{Live}
use Rattle.audit_router.proofs.AtSource.{admit_nothing, admit_other, admits, free_here}
use Rattle.audit_router.proofs.Firsts.{order_first, takes_first}
use Rattle.audit_router.proofs.Searching.{read_is, there_is}
use Rattle.audit_router.proofs.router.AuditedRouter.admit.Goals as goal

pub returns-in_default : goal.returns-in_default
returns-in_default c = admit_nothing c.args.self.now c.requires.sound c.args.graft (parcels_in c.args.channel.now)
    (λ peering target is known session live. none-some _ (sym (sym c.next_order.ensures ∙ ap (option_map order_of) c.in_default.is) ∙ is))

pub returns-then-order-graft : goal.returns-then-order-graft
returns-then-order-graft c = admit_other c.args.self.now c.requires.sound c.args.graft (parcels_in c.args.channel.now) (order_of c.in-Some.order)
    (sym c.next_order.ensures ∙ ap (option_map order_of) c.in-Some.is) (λ own known session live. c.if-order-graft.true own)

pub returns-then-from-self : goal.returns-then-from-self
returns-then-from-self c = admit_other c.args.self.now c.requires.sound c.args.graft (parcels_in c.args.channel.now) (order_of c.in-Some.order)
    (sym c.next_order.ensures ∙ ap (option_map order_of) c.in-Some.is)
    (λ own known session live. omega (arith, known, c.if-from-self.true, c.from.ensures, c.requires.sound.routers))

pub returns-then-not-is_free : goal.returns-then-not-is_free
returns-then-not-is_free c = admit_other c.args.self.now c.requires.sound c.args.graft (parcels_in c.args.channel.now) (order_of c.in-Some.order)
    (sym c.next_order.ensures ∙ ap (option_map order_of) c.in-Some.is)
    (λ own known session live.
    let free = free_here c.args.self.now c.in-Some.order.peering.0 session live in
    false≢true (c.if-not-is_free.ensures.1 (free.0, ap (place_at c.args.self.now.places.items) c.from-p.ensures ∙ free.1)))

pub index_mut-requires : goal.index_mut-requires
index_mut-requires c =
    let is = (c.if-not-is_free.ensures.0 refl).1 in
    let there = there_is c.args.self.now.places.items c.from-p.result (λ vacant. let no : ⊥ = cc in no) in
    omega (arith, there, c.args.self.now.places.ok.0)

pub returns : goal.returns
returns c =
    let r = c.args.self.now in
    let now = parcels_in c.args.channel.now in
    let order = c.in-Some.order in
    let s : RunningSession = (c.if-not-is_free.ensures.0 refl).0 in
    let is : place_at r.places.items c.from-p.result ≡ Live s None = (c.if-not-is_free.ensures.0 refl).1 in
    let there : c.from-p.result < length r.places.items = there_is r.places.items c.from-p.result (λ vacant. let no : ⊥ = cc in no) in
    let here = read_is r.places.items c.from-p.result c.index_mut.result.now there c.index_mut.ensures.value in
    let first = order_first now (order_of order) (sym c.next_order.ensures ∙ ap (option_map order_of) c.in-Some.is) in
    let item : Parcel = items.GraftOrder order.graft first.own first.target in
    let took = takes_first c.take.result now (parcels_in c.take.new.self) c.take.ensures.some c.take.ensures.none item first.rest first.is in
    let ids : GraftIds = record { graft = c.args.graft; peering = order.peering; source = c.number.result; target = order.target } in
    let then : Place = Live s (Some (Leaving ids)) in
    admits r c.requires.sound c.args.graft now (order_of order) (parcels_in c.take.new.self) item
    (first.is ∙ ap (λ (xs : List Parcel). item ∷ xs) (sym took.1))
    (record { peering = first.own; target = first.target; is = refl; peering_is = first.peering_is; target_is = first.target_is })
    (omega (arith, c.if-order-graft.false)) (omega (arith, c.if-from-self.false, c.from.ensures, c.requires.sound.routers)) s
    (ap (place_at r.places.items) (sym c.from-p.ensures) ∙ is) (omega (arith, there, c.from-p.ensures)) ids refl refl c.number.ensures refl _
    (ap (slice_set r.places.items c.from-p.result) (c.store.ensures s (here ∙ is)) ∙ ap (λ (n : ℕ). slice_set r.places.items n then) c.from-p.ensures)
    refl (record { routers = refl; room = refl })
