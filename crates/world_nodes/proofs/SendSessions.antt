-- A session may go to another thread, and what actors hand to one another.
use denote.Param.Send.{IsSend, sendable}
use Rattle.std.proofs.Crossing.{crosses}
use Rattle.bgp_types.specs.contracts.message.Message as Message
use Rattle.adj_rib.specs.contracts.rib.AdjRib as AdjRib
use Rattle.bgp_story.specs.contracts.line.Line as Line
use Rattle.bgp_story.specs.contracts.story.Story as Story
use Rattle.tcp_end.specs.contracts.end.End as End
use Rattle.bgp_session.specs.contracts.parts.Parts as Parts
use Rattle.bgp_session.specs.contracts.session.Session as Session
use Rattle.bgp_session.specs.contracts.moving.Capsule as Capsule
use Rattle.graft_steps.specs.contracts.item.Item as Item
use Rattle.world_nodes.proofs.SendValues.{items, queue, table, attrs, shared, route, config, segment, refusal}

message : IsSend (Message.the_field).row
message = let a = attrs in search (sendable, crosses, items) depth 40

line : IsSend (Line.the_field).row
line = let m = message in search (sendable, crosses, items) depth 40

story : IsSend Story.the_row
story = let l = line in search (sendable, crosses) depth 40

pub end : IsSend End.the_row
end = let q = queue in search (sendable, crosses, items) depth 40

adj_rib : IsSend AdjRib.the_row
adj_rib = let s = shared in search (sendable, crosses, table) depth 40

parts : IsSend (Parts.the_field).row
parts = let c = config in let s = story in let a = adj_rib in let e = end in search (sendable, crosses) depth 40

pub session : IsSend Session.the_row
session = let p = parts in search (sendable, crosses) depth 40

capsule : IsSend Capsule.the_row
capsule = let s = session in search (sendable, crosses) depth 40

pub item : IsSend (Item.the_row Capsule.the_row)
item = let s = segment in let r = route in let f = refusal in let c = capsule in search (sendable, crosses) depth 40
