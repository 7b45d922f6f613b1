-- A far side may go to another thread.
use denote.Param.Send.{IsSend, sendable}
use Rattle.std.proofs.Crossing.{crosses}
use Rattle.std.proofs.MapsCrossing as maps
use Rattle.link_bag.specs.contracts.plan.Plan as Plan
use Rattle.actor_configs.specs.contracts.says.SayTable as SayTable
use Rattle.remote_end.specs.contracts.remote.Remote as Remote
use Rattle.far_side.specs.contracts.link.Link as Link
use Rattle.far_side.specs.contracts.fields.Fields as Fields
use Rattle.far_side.specs.contracts.far.Far as Far
use Rattle.world_nodes.proofs.SendValues.{known, items, queue, segment}
use Rattle.world_nodes.proofs.SendSessions.{end}

says : IsSend (SayTable.the_field).row
says = search (sendable, crosses, maps.crosses, items) depth 40

plan : IsSend (Plan.the_field).row
plan = search (sendable, crosses, maps.crosses) depth 40

remote : IsSend Remote.the_row
remote = let q = queue in let e = end in search (sendable, crosses) depth 40

link : IsSend Link.the_row
link = let s = segment in search (sendable, crosses) depth 40

fields : IsSend (Fields.the_field).row
fields = let k = known in let s = says in let p = plan in let r = remote in let l = link in search (sendable, crosses) depth 40

pub far : IsSend (Far.the_field).row
far = let f = fields in search (sendable, crosses) depth 40
