use Rattle.bgp_types.proofs.Equality.{attrs_equal, route_equal, message_equal}
use Rattle.bgp_types.proofs.laws.equal_is_same.Goals as goal

pub returns-clause-attrs : goal.returns-clause-attrs
returns-clause-attrs c = attrs_equal

pub returns-clause-route : goal.returns-clause-route
returns-clause-route c = route_equal

pub returns-clause-message : goal.returns-clause-message
returns-clause-message c = message_equal
