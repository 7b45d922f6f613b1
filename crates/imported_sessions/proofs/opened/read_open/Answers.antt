use Rattle.std.proofs.Common.{take, drop, subst}
use Rattle.bgp_frame.proofs.StreamLaws.{front_is_whole}
use Rattle.imported_sessions.specs.Heard.{IsMessageAt}
use Rattle.imported_sessions.proofs.opened.read_open.Goals as goal

pub open_message-requires-clause-whole : goal.open_message-requires-clause-whole
open_message-requires-clause-whole c =
    let octets = c.args.octets.now in
    let len = c.in-Some.front.len in
    let there = subst (λ o. IsMessageAt o octets) c.in-Some.is c.front_message.ensures in
    front_is_whole octets (take len octets) (drop len octets) there.0
