use Rattle.std.proofs.Common.{sym, subst}
use Rattle.settled_check.specs.Firsts.{IsFirstOf}
use Rattle.router_core.specs.Routers as routers
use Rattle.far_side.specs.Fars as fars
use Rattle.operator_core.specs.Operators as operators
use Rattle.world_nodes.specs.Nodes.{Works, own}
use Rattle.world_nodes.specs.Looks.{IsLeftWith}
use Rattle.world_nodes.specs.declared.node.Node.{Node}
use Rattle.world_nodes.proofs.looks.left_at.Goals as goal

pub returns-in-Router : goal.returns-in-Router
returns-in-Router c =
    let router = c.in-Router.router in
    subst (λ (node : Node). IsFirstOf (IsLeftWith (own node)) c.router_rest.result) (sym c.in-Router.is)
    (c.rests_tell_what_is_left.ensures.router router.fields.number.0 (routers.part_of_router router) c.rest.result c.router_rest.result
    (c.rest.ensures (subst Works c.in-Router.is c.requires)) c.router_rest.ensures)

pub returns-in-Far : goal.returns-in-Far
returns-in-Far c =
    let far = c.in-Far.far in
    subst (λ (node : Node). IsFirstOf (IsLeftWith (own node)) c.far_rest.result) (sym c.in-Far.is)
    (c.rests_tell_what_is_left.ensures.far (fars.peering_in far)
    (fars.part_of_far far) c.rest-in-Far.result c.far_rest.result c.rest-in-Far.ensures c.far_rest.ensures)

pub returns-in-Operator : goal.returns-in-Operator
returns-in-Operator c =
    let operator = c.in-Operator.operator in
    subst (λ (node : Node). IsFirstOf (IsLeftWith (own node)) c.operator_rest.result) (sym c.in-Operator.is)
    (c.rests_tell_what_is_left.ensures.operator (operators.operator_setup operator)
    (operators.operator_part operator) c.rest-in-Operator.result c.operator_rest.result c.rest-in-Operator.ensures c.operator_rest.ensures)
