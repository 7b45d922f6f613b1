use Rattle.std.proofs.Common.{◌≡◌, ◌∙◌, Some, None, option_map, refl, subst, sym, ap}
use Rattle.std.specs.Vec.{with_item}
use Rattle.std.proofs.lemmas.Result.{IfOk-weaker}
use Rattle.graft_model.specs.Steps.{ByRouter}
use Rattle.graft_actors.specs.Actors.{ActorName, IsActor, Router}
use Rattle.graft_actors.proofs.Numbers.{some_same}
use Rattle.audit_channels.specs.Channels.{parcels_in}
use Rattle.audit_channels.specs.declared.inboxes.Inbox.{Inbox}
use Rattle.audit_router.specs.Decides.{AllFit, Decides, DecidesTaking}
use Rattle.audit_router.specs.Parts.{setup_of_router}
use Rattle.audit_ruling.specs.Named.{name_of}
use Rattle.audit_ruling.specs.Senders.{router_sender}
use Rattle.run_auditor.specs.Ruled.{RulesOn}
use Rattle.run_auditor.specs.declared.auditor.Auditor.{Auditor}
use Rattle.run_auditor.proofs.AtNumbers.{items_there, router_at, router_may_take, router_sound, set_there}
use Rattle.run_auditor.proofs.Routers.{decided, ruled_taking}
use Rattle.run_auditor.proofs.Unsent.{router_without}
use Rattle.run_auditor.proofs.auditor.Auditor.rule_router.Goals as goal

pub decide-requires : goal.decide-requires
decide-requires c = router_sound c.args.self.now c.requires.sound c.args.r c.requires.there c.index_mut.result.now c.index_mut.ensures.value

pub returns-in_default : goal.returns-in_default
returns-in_default c =
    let f = c.args.self.now in
    let inv = c.requires.sound in
    let r = c.args.r in
    let event = c.args.event.now in
    let x = c.index_mut.result.now in
    let y = c.decide.new.self in
    let g : Auditor = record f { routers = with_item f.routers r y } in
    let alone : router_sender event ≡ None = sym c.router_sender.ensures ∙ ap (option_map name_of) c.in_default.is in
    IfOk-weaker c.decide.result (λ ruling. Decides event x ruling y) (λ ruling. RulesOn (ByRouter r event) ruling f g)
    (λ ruling d. decided f g inv r x y (router_at f inv r c.requires.there x c.index_mut.ensures.value) refl refl c.requires.there
    c.rulings_have_grounds.ensures event alone refl ruling d)
    c.decide.ensures

pub returns-in_default-number_of : goal.returns-in_default-number_of
returns-in_default-number_of c = router_without c.rulings_have_grounds.ensures c.args.self.now c.requires.sound (name_of c.in-Some.sender)
    c.in_default-number_of.ensures.none c.args.r c.args.event.now c.requires.there
    (sym c.router_sender.ensures ∙ ap (option_map name_of) c.in-Some.is)

pub decide_taking-requires-clause-sound : goal.decide_taking-requires-clause-sound
decide_taking-requires-clause-sound c =
    router_sound c.args.self.now c.requires.sound c.args.r c.requires.there c.index_mut-2.result.now c.index_mut-2.ensures.value

pub decide_taking-requires-clause-sender : goal.decide_taking-requires-clause-sender
decide_taking-requires-clause-sender c = λ from is.
    let f = c.args.self.now in
    let inv = c.requires.sound in
    let r = c.args.r in
    let known = c.in-Some-number_of.ensures.some in
    let same : name_of c.in-Some.sender ≡ from =
    some_same (name_of c.in-Some.sender) from (sym (ap (option_map name_of) c.in-Some.is) ∙ c.router_sender.ensures ∙ is) in
    subst (λ (a : ActorName). IsActor (setup_of_router c.index_mut-2.result.now) a × AllFit c.index_mut-2.result.now a (parcels_in c.index_mut-4.result.now)) same
    (router_may_take f inv r c.requires.there c.index_mut-2.result.now c.index_mut-2.ensures.value (name_of c.in-Some.sender)
    (parcels_in c.index_mut-4.result.now) known.0
    (items_there f inv (name_of c.in-Some.sender) (Router r) c.in-Some-number_of.from r known (c.requires.there, refl)
    c.index_mut-3.result.now c.index_mut-3.ensures.value c.index_mut-4.result.now c.index_mut-4.ensures.value))

pub returns : goal.returns
returns c =
    let f = c.args.self.now in
    let inv = c.requires.sound in
    let r = c.args.r in
    let event = c.args.event.now in
    let x = c.index_mut-2.result.now in
    let y = c.decide_taking.new.self in
    let from = name_of c.in-Some.sender in
    let sender : router_sender event ≡ Some from = sym c.router_sender.ensures ∙ ap (option_map name_of) c.in-Some.is in
    let known = c.in-Some-number_of.ensures.some in
    let channel = c.index_mut-4.result.now in
    let now = c.decide_taking.new.channel in
    let after : Inbox = record { channels = with_item c.index_mut-3.result.now.channels c.in-Some-number_of.from now } in
    let g : Auditor = record f { routers = with_item f.routers r y; inboxes = with_item f.inboxes r after } in
    let one = set_there f inv from (Router r) c.in-Some-number_of.from r known (c.requires.there, refl)
    c.index_mut-3.result.now c.index_mut-3.ensures.value channel c.index_mut-4.ensures.value after now refl in
    IfOk-weaker c.decide_taking.result (λ ruling. DecidesTaking event from x (parcels_in channel) ruling y (parcels_in now))
    (λ ruling. RulesOn (ByRouter r event) ruling f g)
    (λ ruling d. ruled_taking f g inv r x y (router_at f inv r c.requires.there x c.index_mut-2.ensures.value) refl refl c.requires.there
    c.rulings_have_grounds.ensures event from sender known.0 channel now one ruling d)
    (c.decide_taking.ensures from sender)
