use Rattle.std.proofs.Common.{◌≡◌, ◌∙◌, ◌+◌, ℕ, None, option_map, refl, subst, sym, ap, arith}
use Rattle.std.specs.Prelude.{IfOk}
use Rattle.std.specs.Vec.{with_item}
use Rattle.std.proofs.lemmas.Result.{IfOk-weaker}
use Rattle.graft_model.specs.Setups.{routers_in}
use Rattle.graft_model.specs.Steps.{ByFar}
use Rattle.graft_model.specs.declared.event.FarEvent.{FarEvent}
use Rattle.graft_model.specs.declared.event.FarEvent.TheVariants.{Point, Say, Take}
use Rattle.graft_actors.specs.Actors.{FarSide, IsActor, Operator, Router, number_in}
use Rattle.audit_channels.specs.Channels.{parcels_in}
use Rattle.audit_channels.specs.declared.inboxes.Inbox.{Inbox}
use Rattle.audit_far.specs.Decides.{DecidesFar, DecidesFarTaking}
use Rattle.audit_ruling.specs.Named.{name_of}
use Rattle.audit_ruling.specs.Senders.{far_sender}
use Rattle.run_auditor.specs.Ruled.{RulesOn}
use Rattle.run_auditor.specs.declared.auditor.Auditor.{Auditor}
use Rattle.run_auditor.proofs.AtNumbers.{far_at, far_may_take, far_sound, found_as, has_room, items_there, router_known, set_there}
use Rattle.run_auditor.proofs.FarSides.{decided, ruled_taking}
use Rattle.run_auditor.proofs.Unsent.{far_without}
use Rattle.run_auditor.proofs.auditor.Auditor.rule_far.Goals as goal

pub decide-requires-clause-sound : goal.decide-requires-clause-sound
decide-requires-clause-sound c = far_sound c.args.self.now c.requires.sound c.args.p c.requires.there c.index_mut.result.now c.index_mut.ensures.value

pub decide-requires-clause-room : goal.decide-requires-clause-room
decide-requires-clause-room c = has_room c.args.self.now c.requires.sound c.args.p c.requires.there c.index_mut.result.now c.index_mut.ensures.value

pub returns-in_default : goal.returns-in_default
returns-in_default c =
    let f = c.args.self.now in
    let inv = c.requires.sound in
    let p = c.args.p in
    let event = c.args.event in
    let x = c.index_mut.result.now in
    let y = c.decide.new.self in
    let g : Auditor = record f { far_sides = with_item f.far_sides p y } in
    let alone : far_sender event ≡ None = sym c.far_sender.ensures ∙ ap (option_map name_of) c.in_default.is in
    IfOk-weaker c.decide.result (λ ruling. DecidesFar event x ruling y) (λ ruling. RulesOn (ByFar p event) ruling f g)
    (λ ruling d. decided f g inv p x y (far_at f inv p c.requires.there x c.index_mut.ensures.value) refl refl c.requires.there
    c.rulings_have_grounds.ensures event alone refl ruling d)
    c.decide.ensures

pub returns-in_default-number_of : goal.returns-in_default-number_of
returns-in_default-number_of c = far_without c.rulings_have_grounds.ensures c.args.self.now c.requires.sound (name_of c.in-Some.sender)
    c.in_default-number_of.ensures.none c.args.p c.args.event c.requires.there
    (sym c.far_sender.ensures ∙ ap (option_map name_of) c.in-Some.is)

pub say-requires-clause-sound : goal.say-requires-clause-sound
say-requires-clause-sound c =
    far_sound c.args.self.now c.requires.sound c.args.p c.requires.there c.index_mut-in-Say.result.now c.index_mut-in-Say.ensures.value

pub say-requires-clause-fits : goal.say-requires-clause-fits
say-requires-clause-fits c =
    let f = c.args.self.now in
    let inv = c.requires.sound in
    let known : IsActor f.known.setup Operator × (c.in-Some-number_of.from ≡ number_in f.known.setup Operator) =
    found_as f.known.setup (name_of c.in-Some.sender) Operator c.in-Some-number_of.from
    (sym (ap (option_map name_of) c.in-Some.is) ∙ c.far_sender.ensures ∙ ap far_sender c.in-Say.is) c.in-Some-number_of.ensures.some in
    let many : c.len.result ≡ routers_in f.known.setup = omega (arith, c.len.ensures, inv.all_routers, f.routers.ok.0) in
    let me : IsActor f.known.setup (FarSide c.args.p) × (c.len.result + c.args.p ≡ number_in f.known.setup (FarSide c.args.p)) =
    (c.requires.there, ap (λ (n : ℕ). n + c.args.p) many) in
    far_may_take f inv c.args.p c.requires.there c.index_mut-in-Say.result.now c.index_mut-in-Say.ensures.value Operator
    (parcels_in c.index_mut-channel.result.now) known.0
    (items_there f inv Operator (FarSide c.args.p) c.in-Some-number_of.from (c.len.result + c.args.p) known me
    c.index_mut-2.result.now c.index_mut-2.ensures.value c.index_mut-channel.result.now c.index_mut-channel.ensures.value)

pub returns-in-Say : goal.returns-in-Say
returns-in-Say c =
    let f = c.args.self.now in
    let inv = c.requires.sound in
    let p = c.args.p in
    let x = c.index_mut-in-Say.result.now in
    let y = c.say.new.self in
    let channel = c.index_mut-channel.result.now in
    let now = c.say.new.channel in
    let known : IsActor f.known.setup Operator × (c.in-Some-number_of.from ≡ number_in f.known.setup Operator) =
    found_as f.known.setup (name_of c.in-Some.sender) Operator c.in-Some-number_of.from
    (sym (ap (option_map name_of) c.in-Some.is) ∙ c.far_sender.ensures ∙ ap far_sender c.in-Say.is) c.in-Some-number_of.ensures.some in
    let many : c.len.result ≡ routers_in f.known.setup = omega (arith, c.len.ensures, inv.all_routers, f.routers.ok.0) in
    let me : IsActor f.known.setup (FarSide c.args.p) × (c.len.result + c.args.p ≡ number_in f.known.setup (FarSide c.args.p)) =
    (c.requires.there, ap (λ (n : ℕ). n + c.args.p) many) in
    let after : Inbox = record { channels = with_item c.index_mut-2.result.now.channels c.in-Some-number_of.from now } in
    let g : Auditor = record f { far_sides = with_item f.far_sides p y; inboxes = with_item f.inboxes (c.len.result + p) after } in
    let one = set_there f inv Operator (FarSide p) c.in-Some-number_of.from (c.len.result + p) known me
    c.index_mut-2.result.now c.index_mut-2.ensures.value channel c.index_mut-channel.ensures.value after now refl in
    subst (λ (e : FarEvent). IfOk c.say.result (λ ruling. RulesOn (ByFar p e) ruling f g)) (sym c.in-Say.is)
    (IfOk-weaker c.say.result (λ ruling. DecidesFarTaking (Say c.in-Say.step) Operator x (parcels_in channel) ruling y (parcels_in now))
    (λ ruling. RulesOn (ByFar p (Say c.in-Say.step)) ruling f g)
    (λ ruling d. ruled_taking f g inv p x y (far_at f inv p c.requires.there x c.index_mut-in-Say.ensures.value) refl refl c.requires.there
    c.rulings_have_grounds.ensures (Say c.in-Say.step) Operator refl known.0 channel now one ruling d)
    c.say.ensures)

pub take-requires-clause-sound : goal.take-requires-clause-sound
take-requires-clause-sound c =
    far_sound c.args.self.now c.requires.sound c.args.p c.requires.there c.index_mut-in-Take.result.now c.index_mut-in-Take.ensures.value

pub take-requires-clause-there : goal.take-requires-clause-there
take-requires-clause-there c =
    let f = c.args.self.now in
    let known : IsActor f.known.setup (Router c.in-Take.router) × (c.in-Some-number_of.from ≡ number_in f.known.setup (Router c.in-Take.router)) =
    found_as f.known.setup (name_of c.in-Some.sender) (Router c.in-Take.router) c.in-Some-number_of.from
    (sym (ap (option_map name_of) c.in-Some.is) ∙ c.far_sender.ensures ∙ ap far_sender c.in-Take.is) c.in-Some-number_of.ensures.some in
    router_known f c.requires.sound c.args.p c.requires.there c.index_mut-in-Take.result.now c.index_mut-in-Take.ensures.value c.in-Take.router known.0

pub take-requires-clause-fits : goal.take-requires-clause-fits
take-requires-clause-fits c =
    let f = c.args.self.now in
    let inv = c.requires.sound in
    let known : IsActor f.known.setup (Router c.in-Take.router) × (c.in-Some-number_of.from ≡ number_in f.known.setup (Router c.in-Take.router)) =
    found_as f.known.setup (name_of c.in-Some.sender) (Router c.in-Take.router) c.in-Some-number_of.from
    (sym (ap (option_map name_of) c.in-Some.is) ∙ c.far_sender.ensures ∙ ap far_sender c.in-Take.is) c.in-Some-number_of.ensures.some in
    let many : c.len.result ≡ routers_in f.known.setup = omega (arith, c.len.ensures, inv.all_routers, f.routers.ok.0) in
    let me : IsActor f.known.setup (FarSide c.args.p) × (c.len.result + c.args.p ≡ number_in f.known.setup (FarSide c.args.p)) =
    (c.requires.there, ap (λ (n : ℕ). n + c.args.p) many) in
    far_may_take f inv c.args.p c.requires.there c.index_mut-in-Take.result.now c.index_mut-in-Take.ensures.value (Router c.in-Take.router)
    (parcels_in c.index_mut-channel.result.now) known.0
    (items_there f inv (Router c.in-Take.router) (FarSide c.args.p) c.in-Some-number_of.from (c.len.result + c.args.p) known me
    c.index_mut-2.result.now c.index_mut-2.ensures.value c.index_mut-channel.result.now c.index_mut-channel.ensures.value)

pub returns-in-Take : goal.returns-in-Take
returns-in-Take c =
    let f = c.args.self.now in
    let inv = c.requires.sound in
    let p = c.args.p in
    let x = c.index_mut-in-Take.result.now in
    let y = c.take.new.self in
    let channel = c.index_mut-channel.result.now in
    let now = c.take.new.channel in
    let known : IsActor f.known.setup (Router c.in-Take.router) × (c.in-Some-number_of.from ≡ number_in f.known.setup (Router c.in-Take.router)) =
    found_as f.known.setup (name_of c.in-Some.sender) (Router c.in-Take.router) c.in-Some-number_of.from
    (sym (ap (option_map name_of) c.in-Some.is) ∙ c.far_sender.ensures ∙ ap far_sender c.in-Take.is) c.in-Some-number_of.ensures.some in
    let many : c.len.result ≡ routers_in f.known.setup = omega (arith, c.len.ensures, inv.all_routers, f.routers.ok.0) in
    let me : IsActor f.known.setup (FarSide c.args.p) × (c.len.result + c.args.p ≡ number_in f.known.setup (FarSide c.args.p)) =
    (c.requires.there, ap (λ (n : ℕ). n + c.args.p) many) in
    let after : Inbox = record { channels = with_item c.index_mut-2.result.now.channels c.in-Some-number_of.from now } in
    let g : Auditor = record f { far_sides = with_item f.far_sides p y; inboxes = with_item f.inboxes (c.len.result + p) after } in
    let one = set_there f inv (Router c.in-Take.router) (FarSide p) c.in-Some-number_of.from (c.len.result + p) known me
    c.index_mut-2.result.now c.index_mut-2.ensures.value channel c.index_mut-channel.ensures.value after now refl in
    subst (λ (e : FarEvent). IfOk c.take.result (λ ruling. RulesOn (ByFar p e) ruling f g)) (sym c.in-Take.is)
    (IfOk-weaker c.take.result (λ ruling. DecidesFarTaking (Take c.in-Take.router) (Router c.in-Take.router) x (parcels_in channel) ruling y (parcels_in now))
    (λ ruling. RulesOn (ByFar p (Take c.in-Take.router)) ruling f g)
    (λ ruling d. ruled_taking f g inv p x y (far_at f inv p c.requires.there x c.index_mut-in-Take.ensures.value) refl refl c.requires.there
    c.rulings_have_grounds.ensures (Take c.in-Take.router) (Router c.in-Take.router) refl known.0 channel now one ruling d)
    c.take.ensures)

pub point-requires-clause-sound : goal.point-requires-clause-sound
point-requires-clause-sound c =
    far_sound c.args.self.now c.requires.sound c.args.p c.requires.there c.index_mut-in-Point.result.now c.index_mut-in-Point.ensures.value

pub point-requires-clause-there : goal.point-requires-clause-there
point-requires-clause-there c =
    let f = c.args.self.now in
    let known : IsActor f.known.setup (Router c.in-Point.router) × (c.in-Some-number_of.from ≡ number_in f.known.setup (Router c.in-Point.router)) =
    found_as f.known.setup (name_of c.in-Some.sender) (Router c.in-Point.router) c.in-Some-number_of.from
    (sym (ap (option_map name_of) c.in-Some.is) ∙ c.far_sender.ensures ∙ ap far_sender c.in-Point.is) c.in-Some-number_of.ensures.some in
    router_known f c.requires.sound c.args.p c.requires.there c.index_mut-in-Point.result.now c.index_mut-in-Point.ensures.value c.in-Point.router known.0

pub point-requires-clause-fits : goal.point-requires-clause-fits
point-requires-clause-fits c =
    let f = c.args.self.now in
    let inv = c.requires.sound in
    let known : IsActor f.known.setup (Router c.in-Point.router) × (c.in-Some-number_of.from ≡ number_in f.known.setup (Router c.in-Point.router)) =
    found_as f.known.setup (name_of c.in-Some.sender) (Router c.in-Point.router) c.in-Some-number_of.from
    (sym (ap (option_map name_of) c.in-Some.is) ∙ c.far_sender.ensures ∙ ap far_sender c.in-Point.is) c.in-Some-number_of.ensures.some in
    let many : c.len.result ≡ routers_in f.known.setup = omega (arith, c.len.ensures, inv.all_routers, f.routers.ok.0) in
    let me : IsActor f.known.setup (FarSide c.args.p) × (c.len.result + c.args.p ≡ number_in f.known.setup (FarSide c.args.p)) =
    (c.requires.there, ap (λ (n : ℕ). n + c.args.p) many) in
    far_may_take f inv c.args.p c.requires.there c.index_mut-in-Point.result.now c.index_mut-in-Point.ensures.value (Router c.in-Point.router)
    (parcels_in c.index_mut-channel.result.now) known.0
    (items_there f inv (Router c.in-Point.router) (FarSide c.args.p) c.in-Some-number_of.from (c.len.result + c.args.p) known me
    c.index_mut-2.result.now c.index_mut-2.ensures.value c.index_mut-channel.result.now c.index_mut-channel.ensures.value)

pub returns-in-Point : goal.returns-in-Point
returns-in-Point c =
    let f = c.args.self.now in
    let inv = c.requires.sound in
    let p = c.args.p in
    let x = c.index_mut-in-Point.result.now in
    let y = c.point.new.self in
    let channel = c.index_mut-channel.result.now in
    let now = c.point.new.channel in
    let known : IsActor f.known.setup (Router c.in-Point.router) × (c.in-Some-number_of.from ≡ number_in f.known.setup (Router c.in-Point.router)) =
    found_as f.known.setup (name_of c.in-Some.sender) (Router c.in-Point.router) c.in-Some-number_of.from
    (sym (ap (option_map name_of) c.in-Some.is) ∙ c.far_sender.ensures ∙ ap far_sender c.in-Point.is) c.in-Some-number_of.ensures.some in
    let many : c.len.result ≡ routers_in f.known.setup = omega (arith, c.len.ensures, inv.all_routers, f.routers.ok.0) in
    let me : IsActor f.known.setup (FarSide c.args.p) × (c.len.result + c.args.p ≡ number_in f.known.setup (FarSide c.args.p)) =
    (c.requires.there, ap (λ (n : ℕ). n + c.args.p) many) in
    let after : Inbox = record { channels = with_item c.index_mut-2.result.now.channels c.in-Some-number_of.from now } in
    let g : Auditor = record f { far_sides = with_item f.far_sides p y; inboxes = with_item f.inboxes (c.len.result + p) after } in
    let one = set_there f inv (Router c.in-Point.router) (FarSide p) c.in-Some-number_of.from (c.len.result + p) known me
    c.index_mut-2.result.now c.index_mut-2.ensures.value channel c.index_mut-channel.ensures.value after now refl in
    subst (λ (e : FarEvent). IfOk c.point.result (λ ruling. RulesOn (ByFar p e) ruling f g)) (sym c.in-Point.is)
    (IfOk-weaker c.point.result (λ ruling. DecidesFarTaking (Point c.in-Point.router) (Router c.in-Point.router) x (parcels_in channel) ruling y (parcels_in now))
    (λ ruling. RulesOn (ByFar p (Point c.in-Point.router)) ruling f g)
    (λ ruling d. ruled_taking f g inv p x y (far_at f inv p c.requires.there x c.index_mut-in-Point.ensures.value) refl refl c.requires.there
    c.rulings_have_grounds.ensures (Point c.in-Point.router) (Router c.in-Point.router) refl known.0 channel now one ruling d)
    c.point.ensures)
