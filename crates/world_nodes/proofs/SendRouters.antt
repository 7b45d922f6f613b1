-- A router may go to another thread.
use denote.RattleType.{RattleType}
use denote.Param.Send.{IsSend, sendable}
use Rattle.std.proofs.Crossing.{crosses}
use Rattle.prefix_set.specs.contracts.due.PrefixSet as PrefixSet
use Rattle.decision_groups.specs.contracts.ranks.Ranks as Ranks
use Rattle.decision_groups.specs.contracts.group.Group as Group
use Rattle.decision_groups.specs.contracts.groups.Groups as Groups
use Rattle.decision_groups.specs.contracts.group_set.GroupSet as GroupSet
use Rattle.route_policy.specs.contracts.best.Best as Best
use Rattle.route_policy.specs.contracts.entry.Entry as Entry
use Rattle.route_policy.specs.contracts.policy.Policy as Policy
use Rattle.loc_rib.specs.contracts.rib.LocRib as LocRib
use Rattle.rib_stages.specs.contracts.config.RibConfig as RibConfig
use Rattle.rib_stages.specs.contracts.sources.Sources as Sources
use Rattle.rib_stages.specs.contracts.rib.Rib as Rib
use Rattle.session_places.specs.contracts.Places as Places
use Rattle.actor_configs.specs.contracts.router.NamedPolicy as NamedPolicy
use Rattle.router_core.specs.contracts.place.Place as Place
use Rattle.router_tables.specs.contracts.due.DueSets as DueSets
use Rattle.router_core.specs.contracts.fields.Fields as Fields
use Rattle.router_core.specs.contracts.router.Router as Router
use Rattle.world_nodes.proofs.SendValues.{items, name, table, route, known}
use Rattle.world_nodes.proofs.SendSessions.{session}

ranks : IsSend Ranks.the_row
ranks = search (sendable, crosses) depth 40

group : IsSend Group.the_row
group = let r = ranks in search (sendable, crosses) depth 40

groups : IsSend Groups.the_row
groups = let g = group in search (sendable, crosses) depth 40

group_set : IsSend GroupSet.the_row
group_set = let r = ranks in let g = groups in search (sendable, crosses) depth 40

best : IsSend (Best.the_field).row
best = let r = route in search (sendable, crosses) depth 40

entry : IsSend (Entry.the_field).row
entry = let r = route in search (sendable, crosses) depth 40

policy : IsSend Policy.the_row
policy = search (sendable, crosses, items) depth 40

due_set : IsSend PrefixSet.the_row
due_set = search (sendable, crosses, table) depth 40

loc_rib : IsSend LocRib.the_row
loc_rib = let b = best in let d = due_set in search (sendable, crosses, table) depth 40

sources : (V : RattleType) → IsSend V → IsSend (Sources.the_row V)
sources V s = search (sendable, crosses, table) depth 40

rib_config : IsSend (RibConfig.the_field).row
rib_config = search (sendable, crosses, items) depth 40

rib : IsSend Rib.the_row
rib = let c = rib_config in let r = route in let e = entry in let g = group_set in let l = loc_rib in search (sendable, crosses, table, sources) depth 40

policy_by_name : IsSend (NamedPolicy.the_field).row
policy_by_name = let n = name in let p = policy in search (sendable, crosses) depth 40

place : IsSend (Place.the_field).row
place = let s = session in search (sendable, crosses) depth 40

places : (V : RattleType) → IsSend V → IsSend (Places.the_row V)
places V s = search (sendable, crosses) depth 40

due : IsSend DueSets.the_row
due = let d = due_set in search (sendable, crosses) depth 40

fields : IsSend (Fields.the_field).row
fields = let k = known in let p = policy_by_name in let r = rib in let l = place in let d = due in search (sendable, crosses, items, places) depth 40

pub router : IsSend (Router.the_field).row
router = let f = fields in search (sendable, crosses) depth 40
