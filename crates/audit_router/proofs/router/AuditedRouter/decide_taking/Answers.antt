use Rattle.std.proofs.Common.{◌≡◌, Some, refl, sym, ap, ◌∙◌, subst, arith}
use Rattle.std.specs.Prelude.{IfOk, Result}
use Rattle.std.proofs.lemmas.Option.{none-some, same_Some}
use Rattle.graft_edge.specs.declared.memory.NoMemory.{NoMemory}
use Rattle.graft_model.specs.declared.event.RouterEvent.{RouterEvent}
use Rattle.graft_model.specs.declared.event.RouterEvent.TheVariants as events
use Rattle.graft_actors.specs.Actors.{ActorName, FarSide, Operator, Router}
use Rattle.audit_channels.specs.Channels.{parcels_in}
use Rattle.audit_channels.specs.declared.channel.Channel.{Channel}
use Rattle.audit_ruling.specs.Senders.{router_sender}
use Rattle.audit_ruling.specs.declared.ruling.Ruling.{Ruling}
use Rattle.audit_router.specs.Decides.{DecidesTaking}
use Rattle.audit_router.specs.Parts.{places_of}
use Rattle.audit_router.specs.declared.router.AuditedRouter.{AuditedRouter}
use Rattle.audit_router.proofs.Dispatch.{no_sender}
use Rattle.audit_router.proofs.Following.{both_ok}
use Rattle.audit_router.proofs.TableEvents.{hears_router}
use Rattle.audit_router.proofs.router.AuditedRouter.decide_taking.Goals as goal

-- how the event of this name was decided, taking from this actor
abbrev Took : Result Ruling NoMemory → AuditedRouter → Channel → AuditedRouter → Channel → RouterEvent → ActorName → Type 0
Took result r channel u rest event from = IfOk result (λ ruling. DecidesTaking event from r (parcels_in channel) ruling u (parcels_in rest))

-- what holds of an event and its sender holds of an equal event
by_sender : (event own : RouterEvent) (from : ActorName) (P : RouterEvent → ActorName → Type 0) → event ≡ own → router_sender own ≡ Some from → P own from
    → (a : ActorName) → router_sender event ≡ Some a → P event a
by_sender event own from P is sender h a e =
    subst (λ (x : RouterEvent). P x a) (sym is) (subst (P own) (same_Some from a (sym sender ∙ (ap router_sender (sym is) ∙ e))) h)

pub overflow_cast-peering : goal.overflow_cast-peering
overflow_cast-peering c = omega (arith, (c.requires.sender (FarSide c.in-Arrive.peering) (ap router_sender c.in-Arrive.is)).0, c.requires.sound.tables.few_peerings)

pub arrive-requires-clause-there : goal.arrive-requires-clause-there
arrive-requires-clause-there c = (c.requires.sender (FarSide c.in-Arrive.peering) (ap router_sender c.in-Arrive.is)).0

pub arrive-requires-clause-fits : goal.arrive-requires-clause-fits
arrive-requires-clause-fits c = (c.requires.sender (FarSide c.in-Arrive.peering) (ap router_sender c.in-Arrive.is)).1

pub returns-in-Arrive : goal.returns-in-Arrive
returns-in-Arrive c = by_sender c.args.event (events.Arrive c.in-Arrive.peering) (FarSide c.in-Arrive.peering)
    (Took c.arrive.result c.args.self.now c.args.channel.now c.arrive.new.self c.arrive.new.channel) c.in-Arrive.is refl c.arrive.ensures

pub overflow_cast-peering-in-Stray : goal.overflow_cast-peering-in-Stray
overflow_cast-peering-in-Stray c = omega (arith, (c.requires.sender (FarSide c.in-Stray.peering) (ap router_sender c.in-Stray.is)).0, c.requires.sound.tables.few_peerings)

pub stray-requires-clause-there : goal.stray-requires-clause-there
stray-requires-clause-there c = (c.requires.sender (FarSide c.in-Stray.peering) (ap router_sender c.in-Stray.is)).0

pub stray-requires-clause-fits : goal.stray-requires-clause-fits
stray-requires-clause-fits c = (c.requires.sender (FarSide c.in-Stray.peering) (ap router_sender c.in-Stray.is)).1

pub returns-in-Stray : goal.returns-in-Stray
returns-in-Stray c = by_sender c.args.event (events.Stray c.in-Stray.peering) (FarSide c.in-Stray.peering)
    (Took c.stray.result c.args.self.now c.args.channel.now c.stray.new.self c.stray.new.channel) c.in-Stray.is refl c.stray.ensures

pub overflow_cast-router : goal.overflow_cast-router
overflow_cast-router c = omega (arith, (c.requires.sender (Router c.in-Hear.router) (ap router_sender c.in-Hear.is)).0, c.requires.sound.tables.few_routers)

pub hear-requires-clause-there : goal.hear-requires-clause-there
hear-requires-clause-there c = (c.requires.sender (Router c.in-Hear.router) (ap router_sender c.in-Hear.is)).0

pub returns-in-Hear : goal.returns-in-Hear
returns-in-Hear c =
    let r = c.args.self.now in
    let t = c.hear.new.self in
    let q = c.in-Hear.router in
    let u : AuditedRouter = record r { tables = t } in
    let now = parcels_in c.args.channel.now in
    let rest = parcels_in c.hear.new.channel in
    by_sender c.args.event (events.Hear q) (Router q) (Took c.hear.result r c.args.channel.now u c.hear.new.channel) c.in-Hear.is refl
    (both_ok c.hear.result (λ ruling decides known. hears_router r c.requires.sound t q now ruling rest decides known)
    (c.hear.ensures.decides (places_of r)) c.hear.ensures.known)

pub admit-requires-clause-fits : goal.admit-requires-clause-fits
admit-requires-clause-fits c = (c.requires.sender Operator (ap router_sender c.in-Admit.is)).1

pub returns-in-Admit : goal.returns-in-Admit
returns-in-Admit c = by_sender c.args.event (events.Admit c.in-Admit.graft) Operator
    (Took c.admit.result c.args.self.now c.args.channel.now c.admit.new.self c.admit.new.channel) c.in-Admit.is refl c.admit.ensures

pub overflow_cast-router-in-Land : goal.overflow_cast-router-in-Land
overflow_cast-router-in-Land c = omega (arith, (c.requires.sender (Router c.in-Land.router) (ap router_sender c.in-Land.is)).0, c.requires.sound.tables.few_routers)

pub land-requires-clause-there : goal.land-requires-clause-there
land-requires-clause-there c = (c.requires.sender (Router c.in-Land.router) (ap router_sender c.in-Land.is)).0

pub land-requires-clause-fits : goal.land-requires-clause-fits
land-requires-clause-fits c = (c.requires.sender (Router c.in-Land.router) (ap router_sender c.in-Land.is)).1

pub returns-in-Land : goal.returns-in-Land
returns-in-Land c = by_sender c.args.event (events.Land c.in-Land.router) (Router c.in-Land.router)
    (Took c.land.result c.args.self.now c.args.channel.now c.land.new.self c.land.new.channel) c.in-Land.is refl c.land.ensures

pub overflow_cast-router-in-TurnBack : goal.overflow_cast-router-in-TurnBack
overflow_cast-router-in-TurnBack c = omega (arith, (c.requires.sender (Router c.in-TurnBack.router) (ap router_sender c.in-TurnBack.is)).0, c.requires.sound.tables.few_routers)

pub turn_back-requires-clause-there : goal.turn_back-requires-clause-there
turn_back-requires-clause-there c = (c.requires.sender (Router c.in-TurnBack.router) (ap router_sender c.in-TurnBack.is)).0

pub turn_back-requires-clause-fits : goal.turn_back-requires-clause-fits
turn_back-requires-clause-fits c = (c.requires.sender (Router c.in-TurnBack.router) (ap router_sender c.in-TurnBack.is)).1

pub returns-in-TurnBack : goal.returns-in-TurnBack
returns-in-TurnBack c = by_sender c.args.event (events.TurnBack c.in-TurnBack.router) (Router c.in-TurnBack.router)
    (Took c.turn_back.result c.args.self.now c.args.channel.now c.turn_back.new.self c.turn_back.new.channel) c.in-TurnBack.is refl c.turn_back.ensures

pub overflow_cast-router-in-Return : goal.overflow_cast-router-in-Return
overflow_cast-router-in-Return c = omega (arith, (c.requires.sender (Router c.in-Return.router) (ap router_sender c.in-Return.is)).0, c.requires.sound.tables.few_routers)

pub give_back-requires-clause-there : goal.give_back-requires-clause-there
give_back-requires-clause-there c = (c.requires.sender (Router c.in-Return.router) (ap router_sender c.in-Return.is)).0

pub give_back-requires-clause-fits : goal.give_back-requires-clause-fits
give_back-requires-clause-fits c = (c.requires.sender (Router c.in-Return.router) (ap router_sender c.in-Return.is)).1

pub returns-in-Return : goal.returns-in-Return
returns-in-Return c = by_sender c.args.event (events.Return c.in-Return.router) (Router c.in-Return.router)
    (Took c.give_back.result c.args.self.now c.args.channel.now c.give_back.new.self c.give_back.new.channel) c.in-Return.is refl c.give_back.ensures

pub overflow_cast-router-in-Clear : goal.overflow_cast-router-in-Clear
overflow_cast-router-in-Clear c = omega (arith, (c.requires.sender (Router c.in-Clear.router) (ap router_sender c.in-Clear.is)).0, c.requires.sound.tables.few_routers)

pub clear-requires-clause-there : goal.clear-requires-clause-there
clear-requires-clause-there c = (c.requires.sender (Router c.in-Clear.router) (ap router_sender c.in-Clear.is)).0

pub clear-requires-clause-fits : goal.clear-requires-clause-fits
clear-requires-clause-fits c = (c.requires.sender (Router c.in-Clear.router) (ap router_sender c.in-Clear.is)).1

pub returns-in-Clear : goal.returns-in-Clear
returns-in-Clear c = by_sender c.args.event (events.Clear c.in-Clear.router) (Router c.in-Clear.router)
    (Took c.clear.result c.args.self.now c.args.channel.now c.clear.new.self c.clear.new.channel) c.in-Clear.is refl c.clear.ensures

pub overflow_cast-router-in-Answer : goal.overflow_cast-router-in-Answer
overflow_cast-router-in-Answer c = omega (arith, (c.requires.sender (Router c.in-Answer.router) (ap router_sender c.in-Answer.is)).0, c.requires.sound.tables.few_routers)

pub answer-requires-clause-there : goal.answer-requires-clause-there
answer-requires-clause-there c = (c.requires.sender (Router c.in-Answer.router) (ap router_sender c.in-Answer.is)).0

pub answer-requires-clause-fits : goal.answer-requires-clause-fits
answer-requires-clause-fits c = (c.requires.sender (Router c.in-Answer.router) (ap router_sender c.in-Answer.is)).1

pub returns-in-Answer : goal.returns-in-Answer
returns-in-Answer c = by_sender c.args.event (events.Answer c.in-Answer.router) (Router c.in-Answer.router)
    (Took c.answer.result c.args.self.now c.args.channel.now c.answer.new.self c.answer.new.channel) c.in-Answer.is refl c.answer.ensures

pub overflow_cast-router-in-Collect : goal.overflow_cast-router-in-Collect
overflow_cast-router-in-Collect c = omega (arith, (c.requires.sender (Router c.in-Collect.router) (ap router_sender c.in-Collect.is)).0, c.requires.sound.tables.few_routers)

pub collect-requires-clause-there : goal.collect-requires-clause-there
collect-requires-clause-there c = (c.requires.sender (Router c.in-Collect.router) (ap router_sender c.in-Collect.is)).0

pub collect-requires-clause-fits : goal.collect-requires-clause-fits
collect-requires-clause-fits c = (c.requires.sender (Router c.in-Collect.router) (ap router_sender c.in-Collect.is)).1

pub returns-in-Collect : goal.returns-in-Collect
returns-in-Collect c = by_sender c.args.event (events.Collect c.in-Collect.router) (Router c.in-Collect.router)
    (Took c.collect.result c.args.self.now c.args.channel.now c.collect.new.self c.collect.new.channel) c.in-Collect.is refl c.collect.ensures

pub returns-in_default : goal.returns-in_default
returns-in_default c = λ from e. absurd (none-some from (sym (no_sender c.args.event (record {
  arrive = c.in_default.not-Arrive;
  stray = c.in_default.not-Stray;
  hear = c.in_default.not-Hear;
  admit = c.in_default.not-Admit;
  land = c.in_default.not-Land;
  turn_back = c.in_default.not-TurnBack;
  give_back = c.in_default.not-Return;
  clear = c.in_default.not-Clear;
  answer = c.in_default.not-Answer;
  collect = c.in_default.not-Collect;
})) ∙ e))
