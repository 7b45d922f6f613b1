use Rattle.std.proofs.Common.{IfOk, refl, sym, ap, subst}
use Rattle.std.proofs.lemmas.Result.{IfOk-weaker}
use Rattle.ring_net.specs.Posts.{Pauses}
use Rattle.graft_actors.specs.Acts.{acts}
use Rattle.bgp_session.specs.Running.{carried}
use Rattle.world_nodes.specs.Nodes.{own, paused}
use Rattle.world_nodes.specs.declared.node.Node.{Node}
use Rattle.world_nodes.specs.declared.node.Node.TheVariants.{Router, Far, Operator}
use Rattle.world_nodes.proofs.NodeCalls.{does_nothing, operator_paused}
use Rattle.world_nodes.proofs.node.NodeActor.between.Goals as goal

pub returns-in-Router-clause-paused : goal.returns-in-Router-clause-paused
returns-in-Router-clause-paused c = subst (λ (old : Node). IfOk c.between.result
    (Pauses own (acts carried) paused old c.args.post.now (Router c.between.new.self) c.between.new._post)) (sym c.in-Router.is)
    (IfOk-weaker c.between.result _ _
    (λ answer not. does_nothing (Router c.in-Router.router) (Router c.between.new.self) c.args.post.now c.between.new._post answer not
    (refl, c.between.ensures.same.0) (ap Router c.between.ensures.same.0) c.between.ensures.same.1) c.between.ensures.nothing)

pub returns-in-Far-clause-paused : goal.returns-in-Far-clause-paused
returns-in-Far-clause-paused c = subst (λ (old : Node). IfOk c.between-in-Far.result
    (Pauses own (acts carried) paused old c.args.post.now (Far c.between-in-Far.new.self) c.between-in-Far.new._post)) (sym c.in-Far.is)
    (IfOk-weaker c.between-in-Far.result _ _
    (λ answer not. does_nothing (Far c.in-Far.far) (Far c.between-in-Far.new.self) c.args.post.now c.between-in-Far.new._post answer not
    (refl, c.between-in-Far.ensures.same.0) (ap Far c.between-in-Far.ensures.same.0) c.between-in-Far.ensures.same.1) c.between-in-Far.ensures.nothing)

pub returns-in-Operator-clause-paused : goal.returns-in-Operator-clause-paused
returns-in-Operator-clause-paused c = subst (λ (old : Node). IfOk c.between-in-Operator.result
    (Pauses own (acts carried) paused old c.args.post.now (Operator c.between-in-Operator.new.self) c.between-in-Operator.new.post)) (sym c.in-Operator.is)
    (IfOk-weaker c.between-in-Operator.result _ _ (λ answer does. operator_paused c.in-Operator.operator c.between-in-Operator.new.self
    c.args.post.now c.between-in-Operator.new.post answer (does carried)) c.between-in-Operator.ensures.paused)
