use Rattle.std.proofs.Common.{Ok, Err}
use Rattle.std.proofs.lemmas.List.Sorted.{searched}
use Rattle.ring_net.proofs.Peers.{not_falling, stood_there, was_put}
use Rattle.ring_net.proofs.ends.add_peer.Goals as goal

pub returns-in-Ok-clause-ok : goal.returns-in-Ok-clause-ok
returns-in-Ok-clause-ok c =
    let found = searched c.args.peers.now.items c.args.peer (Ok c.in-Ok.field-0)
    (rw (← c.deref.ensures.value) c.in-Ok.ensures.position) (not_falling c.args.peers.now.items c.requires) in
    stood_there c.args.peers.now.items c.args.peer c.in-Ok.field-0 c.requires found.0 found.1

pub returns-in_ok-insert-in-Err-clause-ok : goal.returns-in_ok-insert-in-Err-clause-ok
returns-in_ok-insert-in-Err-clause-ok c =
    let missing = searched c.args.peers.now.items c.args.peer (Err c.in-Err.index)
    (rw (← c.deref.ensures.value) c.in-Err.ensures.position) (not_falling c.args.peers.now.items c.requires) in
    was_put c.args.peers.now.items c.insert.new.self.items c.args.peer c.in-Err.index missing.0 missing.1 missing.2 c.in_ok-insert-in-Err.ensures.items
