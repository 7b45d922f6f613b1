use Rattle.std.proofs.Common.{OnOk, sym, subst}
use Rattle.std.proofs.lemmas.Result.{on_ok_weaker}
use Rattle.ring_net.specs.Posts.{Moved}
use Rattle.graft_actors.specs.Acts.{acts}
use Rattle.bgp_session.specs.Running.{carried}
use Rattle.world_nodes.specs.Nodes.{own, turned}
use Rattle.world_nodes.specs.declared.node.Node.{Node}
use Rattle.world_nodes.specs.declared.node.Node.TheVariants.{Router, Far, Operator}
use Rattle.world_nodes.proofs.NodeCalls.{router_turned, far_turned, operator_turned}
use Rattle.world_nodes.proofs.node.NodeActor.turn.Goals as goal

pub returns-in-Router-clause-turned : goal.returns-in-Router-clause-turned
returns-in-Router-clause-turned c = subst (λ (old : Node).
    OnOk c.turn.result (Moved own (acts carried) turned old c.args.post.now (Router c.turn.new.self) c.turn.new.post)) (sym c.in-Router.is)
    (on_ok_weaker c.turn.result (router_turned c.in-Router.router c.turn.new.self c.args.post.now c.turn.new.post) c.turn.ensures.turned)

pub returns-in-Far-clause-turned : goal.returns-in-Far-clause-turned
returns-in-Far-clause-turned c = subst (λ (old : Node). OnOk c.turn-in-Far.result
    (Moved own (acts carried) turned old c.args.post.now (Far c.turn-in-Far.new.self) c.turn-in-Far.new.post)) (sym c.in-Far.is)
    (on_ok_weaker c.turn-in-Far.result
    (λ does. far_turned c.in-Far.far c.turn-in-Far.new.self c.args.post.now c.turn-in-Far.new.post (does carried)) c.turn-in-Far.ensures.turned)

pub returns-in-Operator-clause-turned : goal.returns-in-Operator-clause-turned
returns-in-Operator-clause-turned c = subst (λ (old : Node). OnOk c.turn-in-Operator.result
    (Moved own (acts carried) turned old c.args.post.now (Operator c.turn-in-Operator.new.self) c.turn-in-Operator.new.post)) (sym c.in-Operator.is)
    (on_ok_weaker c.turn-in-Operator.result (λ does. operator_turned c.in-Operator.operator c.turn-in-Operator.new.self
    c.args.post.now c.turn-in-Operator.new.post (does carried)) c.turn-in-Operator.ensures.turned)
