-- The operator may go to another thread.
use denote.Param.Send.{IsSend, sendable}
use Rattle.std.proofs.Crossing.{crosses}
use Rattle.graft_steps.specs.contracts.log.GraftEntry as GraftEntry
use Rattle.actor_configs.specs.contracts.script.Script as Script
use Rattle.operator_state.specs.contracts.grafts.Slot as Slot
use Rattle.operator_core.specs.contracts.progress.Progress as Progress
use Rattle.operator_core.specs.contracts.operator.Operator as Operator
use Rattle.world_nodes.proofs.SendValues.{known, items, refusal}

script : IsSend (Script.the_field).row
script = search (sendable, crosses, items) depth 40

graft : IsSend (GraftEntry.the_field).row
graft = let r = refusal in search (sendable, crosses) depth 40

slot : IsSend (Slot.the_field).row
slot = let g = graft in search (sendable, crosses) depth 40

progress : IsSend (Progress.the_field).row
progress = let k = known in let s = script in let v = slot in search (sendable, crosses, items) depth 40

pub operator : IsSend (Operator.the_field).row
operator = let p = progress in search (sendable, crosses) depth 40
