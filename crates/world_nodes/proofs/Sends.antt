-- An actor of a laboratory may go to another thread.
use denote.Param.Send.{IsSend, sendable}
use Rattle.world_nodes.specs.contracts.node.Node as Node
use Rattle.world_nodes.proofs.SendRouters.{router}
use Rattle.world_nodes.proofs.SendFars.{far}
use Rattle.world_nodes.proofs.SendOperators.{operator}

pub node : IsSend (Node.the_field).row
node = let r = router in let f = far in let o = operator in search sendable depth 40
