use Rattle.std.proofs.Common.{◌≡◌, ◌≢◌, ◌∙◌, ℕ, ◌++◌, List, [], ◌∷◌, length, Option, Some, None, refl, subst, sym, ap}
use Rattle.std.specs.Vec.{with_items}
use Rattle.graft_model.specs.Codes.{EventHasPrefix, actor_code}
use Rattle.graft_model.specs.Points.{at2}
use Rattle.graft_model.specs.declared.code.Code.{Code}
use Rattle.graft_model.specs.declared.event.ActorEvent.{ActorEvent}
use Rattle.audit_channels.specs.Channels.{IsSquare, parcels}
use Rattle.audit_channels.specs.declared.inboxes.Inbox.{Inbox}
use Rattle.audit_ruling.specs.declared.ruling.Ruling.{Ruling}
use Rattle.audit_ruling.specs.declared.ruling.Ruling.TheVariants.{Refused, Silent, Sends}
use Rattle.run_auditor.specs.Ruled.{AnswersActor}
use Rattle.run_auditor.specs.declared.auditor.Auditor.{Auditor}
use Rattle.run_auditor.proofs.Answering.{made_sending, made_silent, of_no_actor, of_none, one_sent, refilled, refused, unknown}
use Rattle.run_auditor.proofs.auditor.Auditor.step.Goals as goal

pub returns-in_default : goal.returns-in_default
returns-in_default c = unknown c.args.entry.now c.args.self.now c.args.self.now c.requires refl (of_none c.args.self.now.known.setup c.args.entry.now
    (subst (λ (k : Code). (event : ActorEvent) → EventHasPrefix event → actor_code event ≢ k) c.code_of.ensures c.in_default.ensures.none))

pub returns-in_default-2 : goal.returns-in_default-2
returns-in_default-2 c =
    let f = c.args.self.now in
    let answer : AnswersActor c.args.entry.now.actor c.in-Some.event None f c.rule.new.self =
    subst (λ (n : ℕ). AnswersActor n c.in-Some.event None f c.rule.new.self) c.from-actor.ensures
    (subst (λ (o : Option Ruling). AnswersActor c.from-actor.result c.in-Some.event o f c.rule.new.self) c.in_default-2.is c.in_ok-ruling.ensures) in
    unknown c.args.entry.now f c.rule.new.self c.requires answer.1 (of_no_actor f.known.setup c.args.entry.now c.codes_are_exact.ensures.any
    c.in-Some.event (c.in-Some.ensures.some.0 ∙ c.code_of.ensures) answer.0)

pub returns-in-Refused : goal.returns-in-Refused
returns-in-Refused c =
    let f = c.args.self.now in
    let answer : AnswersActor c.args.entry.now.actor c.in-Some.event (Some Refused) f c.rule.new.self =
    subst (λ (n : ℕ). AnswersActor n c.in-Some.event (Some Refused) f c.rule.new.self) c.from-actor.ensures
    (subst (λ (o : Option Ruling). AnswersActor c.from-actor.result c.in-Some.event o f c.rule.new.self) (c.in-Some-2.is ∙ ap Some c.in-Refused.is)
    c.in_ok-ruling.ensures) in
    refused c.args.entry.now c.in-Some.event (c.in-Some.ensures.some.0 ∙ c.code_of.ensures) c.in-Some.ensures.some.1 f c.rule.new.self
    answer.0 answer.1 answer.2

pub returns-in-Silent : goal.returns-in-Silent
returns-in-Silent c =
    let f = c.args.self.now in
    let answer : AnswersActor c.args.entry.now.actor c.in-Some.event (Some Silent) f c.rule.new.self =
    subst (λ (n : ℕ). AnswersActor n c.in-Some.event (Some Silent) f c.rule.new.self) c.from-actor.ensures
    (subst (λ (o : Option Ruling). AnswersActor c.from-actor.result c.in-Some.event o f c.rule.new.self) (c.in-Some-2.is ∙ ap Some c.in-Silent.is)
    c.in_ok-ruling.ensures) in
    made_silent c.args.entry.now c.in-Some.event (c.in-Some.ensures.some.0 ∙ c.code_of.ensures) c.in-Some.ensures.some.1 f c.rule.new.self
    answer.0 answer.1 c.giver_of-from.result c.giver_of-from.ensures answer.2

pub returns-in_ok-send-in-Sends : goal.returns-in_ok-send-in-Sends
returns-in_ok-send-in-Sends c =
    let f = c.args.self.now in
    let g = c.rule.new.self in
    let entry = c.args.entry.now in
    let sent = Sends c.in-Sends.to c.in-Sends.item in
    let answer : AnswersActor entry.actor c.in-Some.event (Some sent) f g =
    subst (λ (n : ℕ). AnswersActor n c.in-Some.event (Some sent) f g) c.from-actor.ensures
    (subst (λ (o : Option Ruling). AnswersActor c.from-actor.result c.in-Some.event o f g) (c.in-Some-2.is ∙ ap Some c.in-Sends.is)
    c.in_ok-ruling.ensures) in
    let new = c.send.new.inboxes in
    let h : Auditor = record g { inboxes = with_items g.inboxes new } in
    let was = c.as_mut_slice.ensures.value in
    let square : IsSquare (length g.inboxes.items) new = subst (λ (xs : List Inbox). IsSquare (length xs) new) was c.in_ok-send-in-Sends.ensures.square in
    let is : h.inboxes.items ≡ new = refilled g.inboxes.len g.inboxes.items new g.inboxes.ok.0 square.all in
    let put : parcels new ≡ at2 (parcels g.inboxes.items) entry.actor c.in-Sends.to (parcels g.inboxes.items entry.actor c.in-Sends.to ++ c.in-Sends.item ∷ []) =
    subst (λ (n : ℕ). parcels new ≡ at2 (parcels g.inboxes.items) n c.in-Sends.to (parcels g.inboxes.items n c.in-Sends.to ++ c.in-Sends.item ∷ []))
    c.from-actor.ensures (subst (λ (xs : List Inbox). parcels new
    ≡ at2 (parcels xs) c.from-actor.result c.in-Sends.to (parcels xs c.from-actor.result c.in-Sends.to ++ c.in-Sends.item ∷ [])) was
    c.in_ok-send-in-Sends.ensures.sent) in
    made_sending entry c.in-Some.event (c.in-Some.ensures.some.0 ∙ c.code_of.ensures) c.in-Some.ensures.some.1 f g answer.0 answer.1
    c.giver_of-from.result c.giver_of-from.ensures c.in-Sends.to c.in-Sends.item answer.2 h (one_sent entry.actor c.in-Sends.to c.in-Sends.item g h refl
    (subst (IsSquare (length g.inboxes.items)) (sym is) square) (ap parcels is ∙ put))
