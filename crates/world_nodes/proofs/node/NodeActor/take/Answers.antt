use Rattle.std.proofs.Common.{OnOk, sym, subst}
use Rattle.std.proofs.lemmas.Result.{on_ok_weaker}
use Rattle.ring_net.specs.Posts.{TookItem}
use Rattle.graft_actors.specs.Acts.{acts}
use Rattle.bgp_session.specs.Running.{carried}
use Rattle.world_nodes.specs.Nodes.{own, took}
use Rattle.world_nodes.specs.declared.node.Node.{Node}
use Rattle.world_nodes.specs.declared.node.Node.TheVariants.{Router, Far, Operator}
use Rattle.world_nodes.proofs.NodeCalls.{router_took, far_took, operator_took}
use Rattle.world_nodes.proofs.node.NodeActor.take.Goals as goal

pub returns-in-Router-clause-took : goal.returns-in-Router-clause-took
returns-in-Router-clause-took c = subst (λ (old : Node). OnOk c.take.result
    (TookItem own (acts carried) took c.args.from c.args.item old c.args.post.now (Router c.take.new.self) c.take.new.post)) (sym c.in-Router.is)
    (on_ok_weaker c.take.result (router_took c.args.from c.args.item c.in-Router.router c.take.new.self c.args.post.now c.take.new.post) c.take.ensures.took)

pub returns-in-Far-clause-took : goal.returns-in-Far-clause-took
returns-in-Far-clause-took c = subst (λ (old : Node). OnOk c.take-in-Far.result
    (TookItem own (acts carried) took c.args.from c.args.item old c.args.post.now (Far c.take-in-Far.new.self) c.take-in-Far.new.post)) (sym c.in-Far.is)
    (on_ok_weaker c.take-in-Far.result (λ does. far_took c.args.from c.args.item c.in-Far.far
    c.take-in-Far.new.self c.args.post.now c.take-in-Far.new.post (does carried)) c.take-in-Far.ensures.took)

pub returns-in-Operator-clause-took : goal.returns-in-Operator-clause-took
returns-in-Operator-clause-took c = subst (λ (old : Node). OnOk c.take-in-Operator.result (TookItem own (acts carried) took c.args.from
    c.args.item old c.args.post.now (Operator c.take-in-Operator.new.self) c.take-in-Operator.new.post)) (sym c.in-Operator.is)
    (on_ok_weaker c.take-in-Operator.result (λ does. operator_took c.args.from c.args.item c.in-Operator.operator
    c.take-in-Operator.new.self c.args.post.now c.take-in-Operator.new.post (does carried)) c.take-in-Operator.ensures.took)
