-- The calls of each kind of actor, as calls of a node.
use Rattle.std.proofs.Common.{◌≡◌, ℕ, Bool, false, List, [], ◌∷◌, refl, sym}
use Rattle.std.proofs.lemmas.List.{append-nil}
use Rattle.ring_net.specs.Deeds.{Deed, Replay}
use Rattle.ring_net.specs.Posts.{TookItem, Moved, Pauses, actor_of, entries_in, waits}
use Rattle.ring_net.specs.declared.post.Post.{Post}
use Rattle.graft_actors.specs.Acts.{OwnPart, acts}
use Rattle.bgp_session.specs.Running.{carried}
use Rattle.router_core.specs.Routers as routers
use Rattle.far_side.specs.Fars as fars
use Rattle.operator_core.specs.Operators as operators
use Rattle.router_core.specs.declared.router as router_type
use Rattle.far_side.specs.declared.far as far_type
use Rattle.operator_core.specs.declared.operator as operator_type
use Rattle.world_nodes.specs.Nodes.{Mail, own, took, turned, paused}
use Rattle.world_nodes.specs.declared.node.Node.{Node}
use Rattle.world_nodes.specs.declared.node.Node.TheVariants.{Router, Far, Operator}

-- what actors do doesn't depend on their numbers
any_number : (n : ℕ) (p q : OwnPart) (ds : List (Deed Mail)) → Replay (acts carried) n p ds q → Replay (acts carried) 0 p ds q
any_number n p q [] replay = replay
any_number n p q (d ∷ ds) replay = (replay.0, replay.1, any_number n replay.0 q ds replay.2)

-- ---- takes

pub router_took : (from : ℕ) (item : Mail) (old new : router_type.Router.Router) (before after : Post Mail)
    → TookItem routers.router_own_part (acts carried) routers.took_by_router from item old before new after
    → TookItem own (acts carried) took from item (Router old) before (Router new) after
router_took from item old new before after t = record {
  deeds = t.deeds;
  wrote = t.wrote;
  first = t.first;
  replay = t.replay;
  took = (t.took, t.first, any_number (actor_of before) (routers.router_own_part old) (routers.router_own_part new) t.deeds t.replay);
}

pub far_took : (from : ℕ) (item : Mail) (old new : far_type.Far.Far) (before after : Post Mail)
    → TookItem fars.far_own_part (acts carried) fars.took_by_far from item old before new after
    → TookItem own (acts carried) took from item (Far old) before (Far new) after
far_took from item old new before after t = record {
  deeds = t.deeds;
  wrote = t.wrote;
  first = t.first;
  replay = t.replay;
  took = (t.took, t.first, any_number (actor_of before) (fars.far_own_part old) (fars.far_own_part new) t.deeds t.replay);
}

pub operator_took : (from : ℕ) (item : Mail) (old new : operator_type.Operator.Operator) (before after : Post Mail)
    → TookItem operators.own_part (acts carried) operators.took_by_operator from item old before new after
    → TookItem own (acts carried) took from item (Operator old) before (Operator new) after
operator_took from item old new before after t = record {
  deeds = t.deeds;
  wrote = t.wrote;
  first = t.first;
  replay = t.replay;
  took = (t.took, t.first, any_number (actor_of before) (operators.own_part old) (operators.own_part new) t.deeds t.replay);
}

-- ---- turns

pub router_turned : (old new : router_type.Router.Router) (before after : Post Mail)
    → Moved routers.router_own_part (acts carried) routers.turned_by_router old before new after
    → Moved own (acts carried) turned (Router old) before (Router new) after
router_turned old new before after t = record {
  deeds = t.deeds;
  wrote = t.wrote;
  none = t.none;
  replay = t.replay;
  moved = (t.moved, any_number (actor_of before) (routers.router_own_part old) (routers.router_own_part new) t.deeds t.replay);
}

pub far_turned : (old new : far_type.Far.Far) (before after : Post Mail)
    → Moved fars.far_own_part (acts carried) fars.turned_by_far old before new after
    → Moved own (acts carried) turned (Far old) before (Far new) after
far_turned old new before after t = record {
  deeds = t.deeds;
  wrote = t.wrote;
  none = t.none;
  replay = t.replay;
  moved = (t.moved, any_number (actor_of before) (fars.far_own_part old) (fars.far_own_part new) t.deeds t.replay);
}

pub operator_turned : (old new : operator_type.Operator.Operator) (before after : Post Mail)
    → Moved operators.own_part (acts carried) operators.OperatorTurned old before new after
    → Moved own (acts carried) turned (Operator old) before (Operator new) after
operator_turned old new before after t = record {
  deeds = t.deeds;
  wrote = t.wrote;
  none = t.none;
  replay = t.replay;
  moved = (t.moved, any_number (actor_of before) (operators.own_part old) (operators.own_part new) t.deeds t.replay);
}

-- ---- marks

-- an actor that does nothing
pub does_nothing : (a b : Node) (before after : Post Mail) (answer : Bool) → answer ≡ false → paused a [] b → b ≡ a → after ≡ before
    → Pauses own (acts carried) paused a before b after answer
does_nothing a b before after answer not moved same post = record {
  moved = record {
    deeds = [];
    wrote = rw post (record {
      actor = refl;
      own = tt;
      clocks = refl;
      entries = sym (append-nil (entries_in before));
      edges = λ x. refl;
      boxes = λ x has. sym (append-nil (waits before x));
    });
    none = tt;
    replay = rw same refl;
    moved = moved;
  };
  none = (λ _. refl, λ _. not);
}

pub operator_paused : (old new : operator_type.Operator.Operator) (before after : Post Mail) (answer : Bool)
    → Pauses operators.own_part (acts carried) operators.Paused old before new after answer
    → Pauses own (acts carried) paused (Operator old) before (Operator new) after answer
operator_paused old new before after answer t = record {
  moved = record { deeds = t.moved.deeds; wrote = t.moved.wrote; none = t.moved.none; replay = t.moved.replay; moved = t.moved.moved };
  none = t.none;
}
