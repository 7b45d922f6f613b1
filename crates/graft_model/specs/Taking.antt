-- Which items an actor can take in its current state. It drops any other.
use Rattle.std.specs.Prelude.{ℕ, ◌≡◌, ◌≢◌, ◌<◌, ◌≤◌, ◌+◌, ◌^◌, List, length, Some, None, slice_get}
use Rattle.session_value.specs.Sessions.{SessionValue}
use Rattle.graft_model.specs.Setups.{Setup, SayStep, routers_in, peerings_in}
use Rattle.graft_model.specs.Parts.{Vacant, Shadow, RouterPart, FarPart, OperatorPart, Told, Moved, Back, Asked, Answered, Done}
use Rattle.graft_model.specs.RouterRows.{RouterTaken, OrderIn, SegmentIn, MeshIn, IsLive}
use Rattle.graft_model.specs.FarRows.{FarTaken, OutwardIn, SayIn}
use Rattle.graft_model.specs.OperatorRows.{OperatorTaken, ReportIn}

-- A router takes a graft's order if the session is live without an errand and the target is one of the routers; every segment, every telling, every
-- question and every answer; a session that moves here if the peering is one of the laboratory's and its place is vacant; and a session that comes
-- back, or word that one landed, if its shadow for that graft is here.
abbrev pub RouterMayTake : Setup → RouterPart → RouterTaken → Type 0
RouterMayTake setup part (OrderIn order) = (order.target < routers_in setup) × (session : SessionValue) × IsLive part order.peering session None
RouterMayTake setup part (SegmentIn p segment) = Unit {0}
RouterMayTake setup part (MeshIn q (Told prefix route)) = Unit {0}
RouterMayTake setup part (MeshIn q (Moved k p session)) = (p < peerings_in setup) × (part.places p ≡ Vacant)
RouterMayTake setup part (MeshIn q (Back k p session refusal)) = part.places p ≡ Shadow k
RouterMayTake setup part (MeshIn q (Asked k p)) = Unit {0}
RouterMayTake setup part (MeshIn q (Answered k p)) = Unit {0}
RouterMayTake setup part (MeshIn q (Done k p)) = part.places p ≡ Shadow k

-- A far side takes every segment and every word of a landing; and the order to say a step of its remote, if the stream has room.
abbrev pub FarMayTake : Setup → ℕ → FarPart → FarTaken → Type 0
FarMayTake setup p part (OutwardIn r item) = Unit {0}
FarMayTake setup p part (SayIn step) =
    (bytes : List ℕ) × (slice_get setup.steps step ≡ Some (SayStep p bytes)) × (length part.end.stream + length bytes ≤ 2 ^ 20)

-- The operator takes the report of a graft that was ordered and has no outcome.
abbrev pub OperatorMayTake : OperatorPart → OperatorTaken → Type 0
OperatorMayTake part (ReportIn r report) = (part.source report.graft ≢ None) × (part.outcome report.graft ≡ None)
