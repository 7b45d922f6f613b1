use Rattle.std.proofs.Common.{◌≡◌, ℕ, ◌≤◌, List, [], length, Bool, true, false, refl, sym, ap, subst, ◌∙◌, arith, Option}
use Rattle.std.specs.Prelude.{fold}
use Rattle.std.specs.FinMap as map
use Rattle.bgp_types.specs.declared.message.Update.{Update}
use Rattle.bgp_types.specs.Prefixes.{PrefixValue}
use Rattle.rib_stages.specs.Values.{table_at}
use Rattle.session_value.specs.Cases.{update_for}
use Rattle.session_value.specs.Points.{at}
use Rattle.graft_model.specs.declared.event.RouterEvent.TheVariants.{Put}
use Rattle.router_core.specs.Rounds.{WritesEvent}
use Rattle.router_core.specs.Parts.{router_part}
use Rattle.router_core.specs.Places.{place_at}
use Rattle.router_core.specs.Putting.{OfferedAt, OffersAt}
use Rattle.router_core.specs.declared.place.Place.{Place}
use Rattle.router_core.proofs.PutPlaces.{offers_at, offered_none, offered_rest, offered_some, offered_stuck, next_fits}
use Rattle.router_core.proofs.stages.put.put_one.Goals as goal

pub offer-requires : goal.offer-requires
offer-requires c =
    let f = c.args.router.now in
    let x = place_at f.places.places c.args.n in
    subst (λ (u : Update). OffersAt x u) (sym c.into_update-update.ensures)
    (offers_at f.known.setup f.number.0 (router_part f) c.args.n x c.args.batch c.requires.next c.requires.sound c.requires.writable)

-- what was offered, with its answer
offered_as : (b put : Bool) (u v : Update) (x y : Option Place) → put ≡ b → u ≡ v → OfferedAt put u x y → OfferedAt b v x y
offered_as b put u v x y e g h = subst (λ (w : Update). OfferedAt b w x y) g (subst (λ (t : Bool). OfferedAt t u x y) e h)

pub returns-then-not-branch-clause-some : goal.returns-then-not-branch-clause-some
returns-then-not-branch-clause-some c =
    let f = c.args.router.now in
    let x = place_at f.places.places c.args.n in
    offered_none f (record f { places = c.offer.new.places }) c.args.post.now c.args.post.now c.args.n c.in_ok-offer.ensures.place
    c.args.batch c.requires.keeps c.requires.place c.in_ok-offer.ensures.stays refl x refl c.requires.next
    (offered_as false c.in_ok-offer.field-0 c.into_update-update.result (update_for c.args.batch.attrs c.args.batch.prefixes)
    x c.in_ok-offer.ensures.place c.if-not-branch.true c.into_update-update.ensures c.in_ok-offer.ensures.goes)

pub returns-then-not-branch-clause-put : goal.returns-then-not-branch-clause-put
returns-then-not-branch-clause-put c =
    let f = c.args.router.now in
    let x = place_at f.places.places c.args.n in
    offered_stuck f (record f { places = c.offer.new.places }) c.args.post.now c.args.post.now c.args.n c.in_ok-offer.ensures.place
    c.args.batch c.requires.keeps c.requires.place c.in_ok-offer.ensures.stays refl x refl c.requires.next
    (offered_as false c.in_ok-offer.field-0 c.into_update-update.result (update_for c.args.batch.attrs c.args.batch.prefixes) x
    c.in_ok-offer.ensures.place c.if-not-branch.true c.into_update-update.ensures c.in_ok-offer.ensures.goes) c.requires.writable

small : (m n : ℕ) (xs ys : List PrefixValue) → m ≡ length xs → xs ≡ ys → length ys ≤ 4096 → m ≤ 4096
small m n xs ys e f l = subst (λ k. k ≤ 4096) (sym (e ∙ ap (λ (zs : List PrefixValue). length zs) f)) l

pub overflow_cast-count : goal.overflow_cast-count
overflow_cast-count c =
    let f = c.args.router.now in
    let few = small c.len.result 0 c.in_ok-prefixes.prefixes c.args.batch.prefixes c.len.ensures c.in_ok-prefixes.ensures
    (next_fits f.known.setup f.number.0 (router_part f) c.args.n (place_at f.places.places c.args.n) c.args.batch c.requires.next) in
    omega (arith, few)

pub returns-clause-some : goal.returns-clause-some
returns-clause-some c =
    let f = c.args.router.now in
    let n = c.args.n in
    let batch = c.args.batch in
    let x = place_at f.places.places n in
    let offered = offered_as true c.in_ok-offer.field-0 c.into_update-update.result (update_for batch.attrs batch.prefixes)
    x c.in_ok-offer.ensures.place c.if-not-branch.false c.into_update-update.ensures c.in_ok-offer.ensures.goes in
    let prefixes : c.deref.result.now ≡ batch.prefixes = c.deref.ensures ∙ c.in_ok-prefixes.ensures in
    let due = c.settle.ensures.settled ∙ ap (λ (l : List PrefixValue). at (table_at f.due_out) n (fold map.remove (table_at f.due_out n) l)) prefixes in
    let size : c.len.result ≡ length batch.prefixes = c.len.ensures ∙ ap (λ (l : List PrefixValue). length l) c.in_ok-prefixes.ensures in
    let wrote = subst (λ k. WritesEvent c.args.post.now (Put n k) [] c.note_router.new.post) size c.in_ok-note_router.ensures.ok in
    offered_some f (record f { places = c.offer.new.places; due_out = c.settle.new.due }) c.args.post.now
    c.note_router.new.post n c.in_ok-offer.ensures.place batch c.requires.keeps c.requires.place
    c.in_ok-offer.ensures.stays due c.settle.ensures.length refl x refl c.requires.next offered wrote

pub returns-clause-put : goal.returns-clause-put
returns-clause-put c =
    let f = c.args.router.now in
    let n = c.args.n in
    let batch = c.args.batch in
    let x = place_at f.places.places n in
    let offered = offered_as true c.in_ok-offer.field-0 c.into_update-update.result (update_for batch.attrs batch.prefixes)
    x c.in_ok-offer.ensures.place c.if-not-branch.false c.into_update-update.ensures c.in_ok-offer.ensures.goes in
    let prefixes : c.deref.result.now ≡ batch.prefixes = c.deref.ensures ∙ c.in_ok-prefixes.ensures in
    let due = c.settle.ensures.settled ∙ ap (λ (l : List PrefixValue). at (table_at f.due_out) n (fold map.remove (table_at f.due_out n) l)) prefixes in
    offered_rest f (record f { places = c.offer.new.places; due_out = c.settle.new.due }) c.args.post.now
    c.note_router.new.post n c.in_ok-offer.ensures.place batch c.requires.keeps c.requires.place
    c.in_ok-offer.ensures.stays due c.settle.ensures.length refl x refl c.requires.next offered
