use Rattle.std.proofs.Common.{Option, Some, sym, ap, ◌∙◌}
use Rattle.std.specs.Option.{option_flatten}
use Rattle.std.proofs.lemmas.Option.{none-some}
use Rattle.graft_steps.specs.declared.refusal.Refusal.{Refusal}
use Rattle.audit_channels.specs.Channels.{parcels_in}
use Rattle.audit_router.proofs.AtSource.{flat_is}
use Rattle.audit_router.proofs.AtTarget.{nothing_comes, turn_nothing, turning_is, turns}
use Rattle.audit_router.proofs.Firsts.{fits_first}
use Rattle.audit_router.proofs.router.AuditedRouter.turn_back.Goals as goal

pub returns-in_default : goal.returns-in_default
returns-in_default c = turn_nothing c.args.self.now c.requires.sound c.args.q.0 (parcels_in c.args.channel.now)
    (λ refusal comes. none-some refusal (sym c.in_default.is
    ∙ (c.flatten.ensures ∙ ap (λ (o : Option (Option Refusal)). option_flatten o) ((c.in_ok-coming.ensures (Some refusal)).1 comes))))

pub unreachable-requires : goal.unreachable-requires
unreachable-requires c =
    nothing_comes c.args.self.now (parcels_in c.args.channel.now) c.in_default-take_session.ensures.none (Some c.in-Some.refusal)
    ((c.in_ok-coming.ensures (Some c.in-Some.refusal)).0 (flat_is c.in_ok-coming.field-0 c.in-Some.refusal c.in-Some.ensures))

pub returns : goal.returns
returns c =
    let r = c.args.self.now in
    let now = parcels_in c.args.channel.now in
    let rest = parcels_in c.take_session.new.channel in
    let first = c.in-Some-take_session.ensures.some in
    let coming = turning_is r now rest c.in-Some-take_session.graft c.in-Some-take_session.capsule c.in_ok-coming.field-0 c.in-Some.refusal
    c.in_ok-coming.ensures c.in-Some.ensures first in
    turns r c.requires.sound c.args.q.0 now c.in-Some-take_session.graft c.in-Some-take_session.capsule rest first coming.known coming.vacant
    c.in-Some.refusal coming.refused (fits_first _ first c.requires.fits) c.requires.there c.from.result c.from.ensures
