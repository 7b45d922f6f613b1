use Rattle.std.proofs.Common.{◌≡◌, ◌∷◌, ℕ, List, Some, option_map, refl, sym, ap, ◌∙◌, arith}
use Rattle.std.specs.Prelude.{slice_set}
use Rattle.std.proofs.lemmas.Option.{none-some, same_Some}
use Rattle.graft_steps.specs.declared.item.Item.TheVariants as items
use Rattle.graft_model.specs.Parts.{Done}
use Rattle.graft_model.specs.RouterRows.{MeshIn}
use Rattle.audit_channels.specs.Channels.{parcels_in}
use Rattle.audit_ruling.specs.Rulings.{Parcel}
use Rattle.audit_router.specs.Nexts.{of_graft}
use Rattle.audit_router.specs.Places.{place_at, place_of}
use Rattle.audit_router.specs.declared.place.Place.TheVariants.{Shadow, Vacant}
use Rattle.audit_router.proofs.AtSource.{clear_nothing, clears, not_away}
use Rattle.audit_router.proofs.Firsts.{done_first, takes_first}
use Rattle.audit_router.proofs.Searching.{there_is}
use Rattle.audit_router.proofs.router.AuditedRouter.clear.Goals as goal

pub returns-in_default : goal.returns-in_default
returns-in_default c = clear_nothing c.args.self.now c.requires.sound c.args.q.0 (parcels_in c.args.channel.now)
    (λ graft p is shadow. none-some (graft, p) (sym (sym c.next_word.ensures ∙ ap (option_map of_graft) c.in_default.is) ∙ is))

pub returns-then-not-is_away : goal.returns-then-not-is_away
returns-then-not-is_away c =
    let here = sym c.next_word.ensures ∙ ap (option_map of_graft) c.in-Some.is in
    clear_nothing c.args.self.now c.requires.sound c.args.q.0 (parcels_in c.args.channel.now)
    (λ graft p is. not_away c.args.self.now c.in-Some.word.graft c.in-Some.word.peering.0 c.if-not-is_away.ensures graft p
    (same_Some (of_graft c.in-Some.word) (graft, p) (sym here ∙ is)))

pub index_mut-requires : goal.index_mut-requires
index_mut-requires c =
    let away : place_at c.args.self.now.places.items c.in-Some.word.peering.0 ≡ Shadow c.in-Some.word.graft = c.if-not-is_away.ensures.0 refl in
    let there = there_is c.args.self.now.places.items c.in-Some.word.peering.0 (λ vacant. let no : ⊥ = cc in no) in
    omega (arith, there, c.from.ensures, c.args.self.now.places.ok.0)

pub returns : goal.returns
returns c =
    let r = c.args.self.now in
    let word = c.in-Some.word in
    let now = parcels_in c.args.channel.now in
    let away : place_at r.places.items word.peering.0 ≡ Shadow word.graft = c.if-not-is_away.ensures.0 refl in
    let first = done_first now (of_graft word) (sym c.next_word.ensures ∙ ap (option_map of_graft) c.in-Some.is) in
    let item : Parcel = items.Done word.graft first.own in
    let took = takes_first c.take.result now (parcels_in c.take.new.self) c.take.ensures.some c.take.ensures.none item first.rest first.is in
    clears r c.requires.sound c.args.q.0 now word.graft word.peering.0 item (parcels_in c.take.new.self)
    (first.is ∙ ap (λ (xs : List Parcel). item ∷ xs) (sym took.1)) (λ i. Some (word.graft, first.peering i)) (ap place_of away)
    (there_is r.places.items word.peering.0 (λ vacant. let no : ⊥ = cc in no)) _
    (ap (λ (n : ℕ). slice_set r.places.items n Vacant) c.from.ensures) (record { routers = refl; room = refl })
    c.in_ok-drop_entries.ensures.changes c.in_ok-drop_entries.ensures.none c.in_ok-drop_entries.ensures.dirty
    (λ i. Some (MeshIn c.args.q.0 (Done word.graft (first.peering i)))) c.operator-to.result c.operator-to.ensures
