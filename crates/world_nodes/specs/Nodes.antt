-- The actors of a laboratory as one type: what each is in the world, and the contracts of its calls.
use Rattle.std.specs.Prelude.{ℕ, ◌≡◌, List, []}
use Rattle.ring_net.specs.Deeds.{Deed, Replay, TakesFirst}
use Rattle.graft_steps.specs.declared.item.Item.{Item}
use Rattle.bgp_session.specs.Running.{RunningSession, carried}
use Rattle.graft_actors.specs.Acts.{OwnPart, acts}
use Rattle.router_core.specs.Routers as routers
use Rattle.far_side.specs.Fars as fars
use Rattle.operator_core.specs.Operators as operators
use Rattle.world_nodes.specs.declared.node.Node.{Node}
use Rattle.world_nodes.specs.declared.node.Node.TheVariants.{Router, Far, Operator}

-- what actors hand to one another, in contracts: a capsule is the session that runs in it
abbrev pub Mail : Type 0
Mail = Item RunningSession

abbrev pub own : Node → OwnPart
own (Router router) = routers.router_own_part router
own (Far far) = fars.far_own_part far
own (Operator operator) = operators.own_part operator

-- ---- calls

-- the events lead from the actor's old value to its new one
abbrev pub DeedsLead : Node → List (Deed Mail) → Node → Type 0
DeedsLead old deeds new = Replay (acts carried) 0 (own old) deeds (own new)

-- what each kind of actor promises of a take, and of a turn
abbrev pub TookBy : Node → ℕ → Mail → List (Deed Mail) → Node → Type 0
TookBy (Router old) from item deeds (Router new) = routers.took_by_router old from item deeds new
TookBy (Far old) from item deeds (Far new) = fars.took_by_far old from item deeds new
TookBy (Operator old) from item deeds (Operator new) = operators.took_by_operator old from item deeds new
TookBy old from item deeds new = ⊥

abbrev pub TurnedBy : Node → List (Deed Mail) → Node → Type 0
TurnedBy (Router old) deeds (Router new) = routers.turned_by_router old deeds new
TurnedBy (Far old) deeds (Far new) = fars.turned_by_far old deeds new
TurnedBy (Operator old) deeds (Operator new) = operators.OperatorTurned old deeds new
TurnedBy old deeds new = ⊥

abbrev pub took : Node → ℕ → Mail → List (Deed Mail) → Node → Type 0
took old from item deeds new = TookBy old from item deeds new × TakesFirst from item deeds × DeedsLead old deeds new

abbrev pub turned : Node → List (Deed Mail) → Node → Type 0
turned old deeds new = TurnedBy old deeds new × DeedsLead old deeds new

-- routers and far sides do nothing at a mark
abbrev pub paused : Node → List (Deed Mail) → Node → Type 0
paused (Router old) deeds (Router new) = (deeds ≡ []) × (new ≡ old)
paused (Far old) deeds (Far new) = (deeds ≡ []) × (new ≡ old)
paused (Operator old) deeds (Operator new) = operators.Paused old deeds new
paused old deeds new = ⊥

-- memory never ran out in one of its calls
abbrev pub Works : Node → Type 0
Works (Router router) = routers.RouterWorks router
Works (Far far) = Unit {0}
Works (Operator operator) = Unit {0}
