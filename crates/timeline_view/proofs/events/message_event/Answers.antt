use Rattle.std.proofs.Common.{sym}
use Rattle.timeline_view.proofs.Stories.{message_at, no_message}
use Rattle.timeline_view.proofs.events.message_event.Goals as goal

pub returns-in-Some : goal.returns-in-Some
returns-in-Some c = sym (message_at c.args.lab.now c.args.before.now c.args.counts.now c.requires c.args.peering c.in-Some.nth c.in-Some.ensures)

pub returns-in-None : goal.returns-in-None
returns-in-None c = sym (no_message c.args.lab.now c.args.before.now c.args.counts.now c.requires c.args.peering c.in-None.ensures)
