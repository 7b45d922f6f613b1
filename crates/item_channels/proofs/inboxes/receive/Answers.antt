use Rattle.std.proofs.Common.{ap, drop, get_or, sym, ◌∙◌}
use Rattle.item_channels.specs.Channels.{items_in}
use Rattle.item_channels.proofs.Changes.{was, changed, left}
use Rattle.item_channels.proofs.inboxes.receive.Goals as goal

pub returns-clause-rest : goal.returns-clause-rest
returns-clause-rest g c =
    let inboxes = c.args.inboxes.now in
    let inbox = get_or inboxes c.args.to c.index-inboxes-to.result in
    let is = ap (get_or inboxes c.args.to) c.index-inboxes-to.is in
    let channel = c.index_mut.result.now in
    changed inboxes c.args.from c.args.to inbox channel c.requires.square c.requires.from c.requires.to is c.index_mut.ensures.value
    c.take.new.self _ (left c.take.result (items_in channel) (items_in c.take.new.self) c.take.ensures.some c.take.ensures.none
    ∙ ap (drop 1) (sym (was inboxes c.args.from c.args.to inbox channel c.requires.square c.requires.from c.requires.to is c.index_mut.ensures.value)))
