use Rattle.std.proofs.Common.{ap, get_or}
use Rattle.std.proofs.lemmas.Result.{on_ok_weaker}
use Rattle.item_channels.proofs.Changes.{was, changed}
use Rattle.item_channels.proofs.inboxes.send.Goals as goal

pub returns-clause-sent : goal.returns-clause-sent
returns-clause-sent g c =
    let inboxes = c.args.inboxes.now in
    let inbox = get_or inboxes c.args.to c.index-inboxes-to.result in
    let is = ap (get_or inboxes c.args.to) c.index-inboxes-to.is in
    let channel = c.index_mut.result.now in
    let before = was inboxes c.args.from c.args.to inbox channel c.requires.square c.requires.from c.requires.to is c.index_mut.ensures.value in
    on_ok_weaker c.put.result (λ put. changed inboxes c.args.from c.args.to inbox channel c.requires.square c.requires.from c.requires.to is
    c.index_mut.ensures.value c.put.new.self _ (cc)) c.put.ensures.ok
