-- An event takes an item of the actor that it names, or none.
use Rattle.std.proofs.Common.{◌≡◌, ℕ, zero, suc, List, Option, ap, inl, inr}
use Rattle.graft_model.specs.Setups.{Setup}
use Rattle.graft_model.specs.Parts.{RouterPart, FarPart, OperatorPart}
use Rattle.graft_model.specs.RouterRows.{RouterTaken, RouterSent}
use Rattle.graft_model.specs.FarRows.{FarTaken, FarSent}
use Rattle.graft_model.specs.OperatorRows.{OperatorTaken, OperatorSent}
use Rattle.graft_model.specs.declared.event.RouterEvent.{RouterEvent}
use Rattle.graft_model.specs.declared.event.RouterEvent.TheVariants.{Put, Emit, Arrive, Stray, Got, Decide, Tell, Hear, Admit, Refuse, Freeze, Leave, Land}
use Rattle.graft_model.specs.declared.event.RouterEvent.TheVariants.{TurnBack, Return, Clear, Ask, Answer, Collect, Confirm, Tick}
use Rattle.graft_model.specs.declared.event.FarEvent.{FarEvent}
use Rattle.graft_model.specs.declared.event.FarEvent.TheVariants.{Say, Send, Take, Pass, Reach, Lose, Point, Beat}
use Rattle.graft_model.specs.declared.event.OperatorEvent.{OperatorEvent}
use Rattle.graft_model.specs.declared.event.OperatorEvent.TheVariants.{Order, Note, Go}
use Rattle.graft_model.specs.Steps.{router_row, far_row, operator_row}
use Rattle.audit_ruling.specs.Senders.{router_sender, far_sender, operator_sender, from_router_taken, from_far_taken, from_operator_taken}

module _ (setup : Setup) (r : ℕ) (before after : RouterPart) (taken : Option RouterTaken) (sent : List RouterSent) where
  pub by_router : (event : RouterEvent) → router_row setup r event before taken sent after → from_router_taken taken ≡ router_sender event
  by_router (Put p zero) row = ap from_router_taken row.alone.0
  by_router (Put p (suc n)) row = ap from_router_taken row.alone.0
  by_router (Emit p from len) row = ap from_router_taken row.takes
  by_router (Arrive p) row = ap from_router_taken row.takes
  by_router (Stray p) row = ap from_router_taken row.takes
  by_router (Got p) row = ap from_router_taken row.alone.0
  by_router (Decide prefix) row = ap from_router_taken row.alone.0
  by_router (Tell q prefix) row = ap from_router_taken row.takes
  by_router (Hear q) row = ap from_router_taken row.takes
  by_router (Admit k) row = ap from_router_taken row.takes
  by_router (Refuse k) row = ap from_router_taken row.takes
  by_router (Freeze k) row = ap from_router_taken row.alone.0
  by_router (Leave k) row = ap from_router_taken row.takes
  by_router (Land q) row = ap from_router_taken row.comes.takes
  by_router (TurnBack q) row = ap from_router_taken row.comes.takes
  by_router (Return q) row = ap from_router_taken row.takes
  by_router (Clear q) row = ap from_router_taken row.takes
  by_router (Ask k q) row = ap from_router_taken row.takes
  by_router (Answer q) row = ap from_router_taken row.takes
  by_router (Collect q) (inl row) = ap from_router_taken row.takes
  by_router (Collect q) (inr row) = ap from_router_taken row.takes
  by_router (Confirm k) row = ap from_router_taken row.takes
  by_router (Tick p round) row = ap from_router_taken row.alone.0

module _ (setup : Setup) (p : ℕ) (before after : FarPart) (taken : Option FarTaken) (sent : List FarSent) where
  pub by_far : (event : FarEvent) → far_row setup p event before taken sent after → from_far_taken taken ≡ far_sender event
  by_far (Say step) row = ap from_far_taken row.takes
  by_far (Send from len) row = ap from_far_taken row.takes
  by_far (Take router) row = ap from_far_taken row.takes
  by_far (Pass index keep router) row = ap from_far_taken row.takes
  by_far (Reach index keep) row = ap from_far_taken row.takes
  by_far (Lose way index) row = ap from_far_taken row.takes
  by_far (Point router) row = ap from_far_taken row.takes
  by_far (Beat round) row = ap from_far_taken row.takes

module _ (setup : Setup) (before after : OperatorPart) (taken : Option OperatorTaken) (sent : List OperatorSent) where
  pub by_operator : (event : OperatorEvent) → operator_row setup event before taken sent after → from_operator_taken taken ≡ operator_sender event
  by_operator (Order step number) (inl row) = ap from_operator_taken row.takes
  by_operator (Order step number) (inr row) = ap from_operator_taken row.takes
  by_operator (Note router) row = ap from_operator_taken row.takes
  by_operator Go row = ap from_operator_taken row.takes
