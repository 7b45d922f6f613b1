-- Whose item an event takes.
use Rattle.std.specs.Prelude.{ℕ, ◌≡◌, List, Option, Some, None, option_map}
use Rattle.graft_model.specs.Setups.{Setup}
use Rattle.graft_model.specs.Parts.{RouterPart, FarPart, OperatorPart}
use Rattle.graft_model.specs.RouterRows.{RouterTaken, RouterSent}
use Rattle.graft_model.specs.FarRows.{FarTaken, FarSent}
use Rattle.graft_model.specs.OperatorRows.{OperatorTaken, OperatorSent}
use Rattle.graft_model.specs.declared.event.RouterEvent.{RouterEvent}
use Rattle.graft_model.specs.declared.event.RouterEvent.TheVariants.{Arrive, Stray, Hear, Admit, Land, TurnBack, Return, Clear, Answer, Collect}
use Rattle.graft_model.specs.declared.event.FarEvent.{FarEvent}
use Rattle.graft_model.specs.declared.event.FarEvent.TheVariants.{Say, Take, Point}
use Rattle.graft_model.specs.declared.event.OperatorEvent.{OperatorEvent}
use Rattle.graft_model.specs.declared.event.OperatorEvent.TheVariants.{Note}
use Rattle.graft_model.specs.Steps.{router_row, far_row, operator_row}
use Rattle.graft_actors.specs.Actors.{ActorName, Router, FarSide, Operator}
use Rattle.graft_actors.specs.Makes.{taken_by_router, taken_by_far, taken_by_operator}

-- the actor from which an event takes an item, if it takes one
abbrev pub router_sender : RouterEvent → Option ActorName
router_sender (Arrive p) = Some (FarSide p)
router_sender (Stray p) = Some (FarSide p)
router_sender (Hear q) = Some (Router q)
router_sender (Admit k) = Some Operator
router_sender (Land q) = Some (Router q)
router_sender (TurnBack q) = Some (Router q)
router_sender (Return q) = Some (Router q)
router_sender (Clear q) = Some (Router q)
router_sender (Answer q) = Some (Router q)
router_sender (Collect q) = Some (Router q)
router_sender event = None

abbrev pub far_sender : FarEvent → Option ActorName
far_sender (Say step) = Some Operator
far_sender (Take r) = Some (Router r)
far_sender (Point r) = Some (Router r)
far_sender event = None

abbrev pub operator_sender : OperatorEvent → Option ActorName
operator_sender (Note r) = Some (Router r)
operator_sender event = None

-- the sender of what is taken, if something is
abbrev pub from_router_taken : Option RouterTaken → Option ActorName
from_router_taken taken = option_map (λ t. (taken_by_router t).0) taken

abbrev pub from_far_taken : Option FarTaken → Option ActorName
from_far_taken taken = option_map (λ t. (taken_by_far t).0) taken

abbrev pub from_operator_taken : Option OperatorTaken → Option ActorName
from_operator_taken taken = option_map (λ t. (taken_by_operator t).0) taken

-- An event takes an item of the actor that it names, and of no other, or none.
abbrev pub RoutersTakeFromTheNamed : Type 0
RoutersTakeFromTheNamed = (setup : Setup) (r : ℕ) (event : RouterEvent) (before after : RouterPart) (taken : Option RouterTaken) (sent : List RouterSent)
    → router_row setup r event before taken sent after → from_router_taken taken ≡ router_sender event

abbrev pub FarSidesTakeFromTheNamed : Type 0
FarSidesTakeFromTheNamed = (setup : Setup) (p : ℕ) (event : FarEvent) (before after : FarPart) (taken : Option FarTaken) (sent : List FarSent)
    → far_row setup p event before taken sent after → from_far_taken taken ≡ far_sender event

abbrev pub TheOperatorTakesFromTheNamed : Type 0
TheOperatorTakesFromTheNamed = (setup : Setup) (event : OperatorEvent) (before after : OperatorPart) (taken : Option OperatorTaken) (sent : List OperatorSent)
    → operator_row setup event before taken sent after → from_operator_taken taken ≡ operator_sender event
