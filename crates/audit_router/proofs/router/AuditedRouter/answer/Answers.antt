use Rattle.std.proofs.Common.{◌≡◌, ◌∷◌, List, option_map, sym, ap, ◌∙◌}
use Rattle.graft_steps.specs.declared.item.Item.TheVariants as items
use Rattle.audit_channels.specs.Channels.{parcels_in}
use Rattle.audit_ruling.specs.Rulings.{Parcel}
use Rattle.audit_router.specs.Nexts.{of_graft}
use Rattle.audit_router.proofs.AtTarget.{answer_nothing, answers}
use Rattle.audit_router.proofs.Firsts.{asked_first, takes_first}
use Rattle.audit_router.proofs.router.AuditedRouter.answer.Goals as goal

pub returns-in_default : goal.returns-in_default
returns-in_default c = answer_nothing c.args.self.now c.requires.sound c.args.q.0 (parcels_in c.args.channel.now)
    (sym c.next_question.ensures ∙ ap (option_map of_graft) c.in_default.is)

pub returns : goal.returns
returns c =
    let now = parcels_in c.args.channel.now in
    let asked = c.in-Some.asked in
    let first = asked_first now (of_graft asked) (sym c.next_question.ensures ∙ ap (option_map of_graft) c.in-Some.is) in
    let item : Parcel = items.Asked asked.graft asked.peering in
    let is : now ≡ item ∷ first.rest = first.is ∙ (λ i. items.Asked asked.graft (record { 0 = first.peering i }) ∷ first.rest) in
    let took = takes_first c.take.result now (parcels_in c.take.new.self) c.take.ensures.some c.take.ensures.none item first.rest is in
    answers c.args.self.now c.requires.sound c.args.q.0 now asked.graft asked.peering (parcels_in c.take.new.self)
    (is ∙ ap (λ (xs : List Parcel). item ∷ xs) (sym took.1)) c.requires.there c.from.result c.from.ensures
