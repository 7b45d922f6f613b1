use Rattle.std.proofs.Common.{◌≡◌, ◌<◌, ◌+◌, ℕ, Some, None, is_some, sym, ap, ◌∙◌, subst}
use Rattle.std.proofs.lemmas.Bool.{false≢true}
use Rattle.std.proofs.lemmas.Option.{none-some, same_Some}
use Rattle.session_value.specs.declared.config.SessionConfig.{SessionConfig}
use Rattle.bgp_session.specs.Running.{RunningSession}
use Rattle.router_tables.specs.Owned.{IsOfPeering}
use Rattle.graft_model.specs.Parts as model
use Rattle.graft_model.specs.Setups.{peerings_in, routers_in}
use Rattle.audit_channels.specs.Channels.{parcels_in}
use Rattle.audit_router.specs.Landed.{SettlesIn}
use Rattle.audit_router.specs.Parts.{router_part}
use Rattle.audit_router.proofs.AtSource.{of_way}
use Rattle.audit_router.proofs.AtTarget.{admitted_is, land_nothing, landing_is, lands, nothing_comes}
use Rattle.audit_router.proofs.Firsts.{fits_first}
use Rattle.audit_router.proofs.router.AuditedRouter.land.Goals as goal

pub returns-in_default : goal.returns-in_default
returns-in_default c = land_nothing c.args.self.now c.requires.sound c.args.q.0 (parcels_in c.args.channel.now)
    (λ comes. none-some None (sym c.in_default.is ∙ (c.in_ok-refusal.ensures None).1 comes))

pub returns-then-is_some : goal.returns-then-is_some
returns-then-is_some c = land_nothing c.args.self.now c.requires.sound c.args.q.0 (parcels_in c.args.channel.now)
    (λ comes.
    let admitted : c.in-Some.refusal ≡ None = same_Some c.in-Some.refusal None (sym c.in-Some.is ∙ (c.in_ok-refusal.ensures None).1 comes) in
    false≢true (sym (c.if-is_some.ensures ∙ ap is_some admitted)))

pub unreachable-requires : goal.unreachable-requires
unreachable-requires c =
    nothing_comes c.args.self.now (parcels_in c.args.channel.now) c.in_default-take_session.ensures.none None
    ((c.in_ok-refusal.ensures None).0 (c.in-Some.is ∙ ap Some (admitted_is c.in-Some.refusal c.if-is_some.ensures)))

pub settle_in-requires-clause-place : goal.settle_in-requires-clause-place
settle_in-requires-clause-place c =
    let r = c.args.self.now in
    let coming = landing_is r (parcels_in c.args.channel.now) (parcels_in c.take_session.new.channel) c.in-Some-take_session.graft
    c.in-Some-take_session.capsule _ c.in-Some.refusal c.in_ok-refusal.ensures c.in-Some.is c.if-is_some.ensures c.in-Some-take_session.ensures.some in
    subst (λ (s : RunningSession). s.session.config.peering.0 < peerings_in r.tables.known.setup) (sym c.land.ensures) coming.known

pub settle_in-requires-clause-vacant : goal.settle_in-requires-clause-vacant
settle_in-requires-clause-vacant c =
    let r = c.args.self.now in
    let coming = landing_is r (parcels_in c.args.channel.now) (parcels_in c.take_session.new.channel) c.in-Some-take_session.graft
    c.in-Some-take_session.capsule _ c.in-Some.refusal c.in_ok-refusal.ensures c.in-Some.is c.if-is_some.ensures c.in-Some-take_session.ensures.some in
    subst (λ (s : RunningSession). (router_part r).places s.session.config.peering.0 ≡ model.Vacant) (sym c.land.ensures) coming.vacant

pub settle_in-requires-clause-own : goal.settle_in-requires-clause-own
settle_in-requires-clause-own c =
    let r = c.args.self.now in
    subst (λ (s : RunningSession). IsOfPeering r.tables.known.setup s.session.config.peering.0 s.session) (sym c.land.ensures)
    (of_way r.tables.known.setup c.in-Some-take_session.capsule.session (fits_first _ c.in-Some-take_session.ensures.some c.requires.fits))

pub returns : goal.returns
returns c =
    let r = c.args.self.now in
    let now = parcels_in c.args.channel.now in
    let rest = parcels_in c.take_session.new.channel in
    let graft = c.in-Some-take_session.graft in
    let s = c.in-Some-take_session.capsule in
    let coming = landing_is r now rest graft s _ c.in-Some.refusal c.in_ok-refusal.ensures c.in-Some.is c.if-is_some.ensures
    c.in-Some-take_session.ensures.some in
    lands r c.requires.sound c.args.q.0 now graft s rest c.in-Some-take_session.ensures.some coming.known coming.vacant coming.refused c.settle_in.new.self
    (subst (λ (x : RunningSession). SettlesIn c.args.q.0 graft x r c.settle_in.new.self) c.land.ensures c.in_ok-settle_in.ensures)
    c.far_side-to.result
    (c.far_side-to.ensures ∙ ap (λ (n : ℕ). routers_in r.tables.known.setup + n) (c.from.ensures ∙ ap (λ (k : SessionConfig). k.peering.0) c.config.ensures))
