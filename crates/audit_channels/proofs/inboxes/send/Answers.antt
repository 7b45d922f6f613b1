use Rattle.std.proofs.Common.{ap, get_or, refl}
use Rattle.std.proofs.lemmas.Result.{on_ok_weaker}
use Rattle.audit_channels.specs.Channels.{parcels_in, stamps_in}
use Rattle.audit_channels.specs.declared.inboxes.Inbox.{Inbox}
use Rattle.audit_channels.proofs.Sendings.{sent}
use Rattle.audit_channels.proofs.inboxes.send.Goals as goal

pub returns-clause-sent : goal.returns-clause-sent
returns-clause-sent c =
    let inboxes = c.args.inboxes.now in
    let inbox = get_or inboxes c.args.to c.index-inboxes-to.result in
    let is = ap (λ (x : Inbox). get_or inboxes c.args.to x) c.index-inboxes-to.is in
    on_ok_weaker c.put.result (λ put. sent parcels_in inboxes c.args.from c.args.to inbox _ c.index_mut.result.now c.put.new.self c.args.item
    c.requires.square c.requires.from c.requires.to is c.index_mut.ensures.value refl put) c.put.ensures.parcels

pub returns-clause-stamped : goal.returns-clause-stamped
returns-clause-stamped c =
    let inboxes = c.args.inboxes.now in
    let inbox = get_or inboxes c.args.to c.index-inboxes-to.result in
    let is = ap (λ (x : Inbox). get_or inboxes c.args.to x) c.index-inboxes-to.is in
    on_ok_weaker c.put.result (λ put. sent stamps_in inboxes c.args.from c.args.to inbox _ c.index_mut.result.now c.put.new.self c.args.stamp
    c.requires.square c.requires.from c.requires.to is c.index_mut.ensures.value refl put) c.put.ensures.stamps
