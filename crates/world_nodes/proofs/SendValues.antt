-- Which values that actors hold may go to another thread. One type at a time, since a search that goes down through all of them runs out of steps.
use denote.RattleType.{RattleType}
use denote.Param.Send.{IsSend, IsSync, owning_send, sendable}
use Rattle.std.proofs.Crossing.{crosses}
use Rattle.std.proofs.MapsCrossing as maps
use Rattle.graft_edge.specs.contracts.items.Items as Items
use Rattle.graft_edge.specs.contracts.name.Name as Name
use Rattle.graft_edge.specs.contracts.byte_queue.ByteQueue as ByteQueue
use Rattle.bgp_types.specs.contracts.attrs.Attrs as Attrs
use Rattle.bgp_types.specs.contracts.attrs.Route as Route
use Rattle.bgp_types.specs.contracts.shared.SharedAttrs as SharedAttrs
use Rattle.prefix_trie.specs.contracts.trie.TrieTable as TrieTable
use Rattle.session_value.specs.contracts.config.SessionConfig as SessionConfig
use Rattle.tcp_seq.specs.contracts.segment.Segment as Segment
use Rattle.graft_actors.specs.contracts.known.Known as Known
use Rattle.graft_steps.specs.contracts.refusal.Refusal as Refusal

pub items : (T : RattleType) → IsSend T → IsSend (Items.the_row T)
items T s = search (sendable, crosses) depth 40

pub items_sync : (T : RattleType) → IsSync T → IsSync (Items.the_row T)
items_sync T s = search (sendable, crosses) depth 40

pub name : IsSend Name.the_row
name = search (sendable, crosses, maps.crosses) depth 40

pub queue : IsSend ByteQueue.the_row
queue = search (sendable, crosses) depth 40

pub table : (V : RattleType) → IsSend V → IsSend (TrieTable.the_row V)
table V s = search (sendable, crosses) depth 40

pub attrs : IsSend (Attrs.the_field).row
attrs = search (sendable, crosses, items) depth 40

attrs_sync : IsSync (Attrs.the_field).row
attrs_sync = search (sendable, crosses, items_sync) depth 40

pub shared : IsSend SharedAttrs.the_row
shared = let a = attrs in let y = attrs_sync in search (sendable, crosses) depth 40

pub route : IsSend (Route.the_field).row
route = let s = shared in search (sendable, crosses) depth 40

pub config : IsSend (SessionConfig.the_field).row
config = let n = name in search (sendable, crosses) depth 40

pub segment : IsSend (Segment.the_field).row
segment = search (sendable, crosses, items) depth 40

pub refusal : IsSend (Refusal.the_field).row
refusal = let n = name in search (sendable, crosses) depth 40

-- which laboratory an actor is of owns nothing
pub known : IsSend Known.the_row
known = owning_send Known.the_type (search sendable, tt) (λ d. tt) (λ k x w. tt)
