use Rattle.std.proofs.Common.{◌≡◌, ◌<◌, ◌∷◌, ℕ, List, length, option_map, refl, sym, ap, ◌∙◌, subst, arith}
use Rattle.std.specs.Prelude.{slice_set}
use Rattle.std.proofs.lemmas.List.{get_or_past}
use Rattle.graft_steps.specs.declared.item.Item.TheVariants as items
use Rattle.audit_channels.specs.Channels.{parcels_in}
use Rattle.audit_ruling.specs.Rulings.{Parcel}
use Rattle.audit_router.specs.Nexts.{of_graft}
use Rattle.audit_router.specs.Places.{HearsAnswer, place_at}
use Rattle.audit_router.specs.declared.place.Place.TheVariants.{Vacant}
use Rattle.audit_router.proofs.AtTarget.{collect_nothing, collects, ignores}
use Rattle.audit_router.proofs.Kept.{keeps_itself}
use Rattle.audit_router.proofs.Searching.{read_is}
use Rattle.audit_router.proofs.Firsts.{answered_first, takes_first}
use Rattle.audit_router.proofs.router.AuditedRouter.collect.Goals as goal

pub returns-in_default : goal.returns-in_default
returns-in_default c = collect_nothing c.args.self.now c.requires.sound c.args.q.0 (parcels_in c.args.channel.now)
    (sym c.next_answer.ensures ∙ ap (option_map of_graft) c.in_default.is)

pub returns-then-p-len : goal.returns-then-p-len
returns-then-p-len c =
    let r = c.args.self.now in
    let now = parcels_in c.args.channel.now in
    let answered = c.in-Some.answered in
    let first = answered_first now (of_graft answered) (sym c.next_answer.ensures ∙ ap (option_map of_graft) c.in-Some.is) in
    let item : Parcel = items.Answered answered.graft answered.peering in
    let is : now ≡ item ∷ first.rest = first.is ∙ (λ i. items.Answered answered.graft (record { 0 = first.peering i }) ∷ first.rest) in
    let took = takes_first c.take.result now (parcels_in c.take.new.self) c.take.ensures.some c.take.ensures.none item first.rest is in
    ignores r c.requires.sound c.args.q.0 now answered.graft answered.peering (parcels_in c.take.new.self)
    (is ∙ ap (λ (xs : List Parcel). item ∷ xs) (sym took.1))
    (λ s landing at graft next.
    let none = get_or_past r.places.items answered.peering.0 Vacant
    (omega (arith, c.if-p-len.true, c.from-p.ensures, c.len.ensures, r.places.ok.0)) in
    let no : ⊥ = cc in no) r refl (keeps_itself r c.requires.sound)

pub returns : goal.returns
returns c =
    let r = c.args.self.now in
    let now = parcels_in c.args.channel.now in
    let answered = c.in-Some.answered in
    let first = answered_first now (of_graft answered) (sym c.next_answer.ensures ∙ ap (option_map of_graft) c.in-Some.is) in
    let item : Parcel = items.Answered answered.graft answered.peering in
    let is : now ≡ item ∷ first.rest = first.is ∙ (λ i. items.Answered answered.graft (record { 0 = first.peering i }) ∷ first.rest) in
    let took = takes_first c.take.result now (parcels_in c.take.new.self) c.take.ensures.some c.take.ensures.none item first.rest is in
    let there : answered.peering.0 < length r.places.items = omega (arith, c.if-p-len.false, c.from-p.ensures, c.len.ensures, r.places.ok.0) in
    let here = read_is r.places.items c.from-p.result c.index_mut.result.now (omega (arith, there, c.from-p.ensures)) c.index_mut.ensures.value in
    collects r c.requires.sound c.args.q.0 now answered.graft answered.peering (parcels_in c.take.new.self)
    (is ∙ ap (λ (xs : List Parcel). item ∷ xs) (sym took.1)) there c.index_mut.result.now c.hear_answer.new.self
    (ap (place_at r.places.items) (sym c.from-p.ensures) ∙ sym here)
    (subst (λ (n : ℕ). HearsAnswer answered.graft n c.index_mut.result.now c.hear_answer.new.self) c.from.ensures c.hear_answer.ensures) _
    (ap (λ (n : ℕ). slice_set r.places.items n c.hear_answer.new.self) c.from-p.ensures) refl (record { routers = refl; room = refl })
