-- A session that is frozen in a worked run, and then lands or comes back.
use Rattle.std.proofs.Common.{[], ◌∷◌, ◌++◌, drop, refl}
use Rattle.graft_steps.specs.declared.refusal.Refusal.TheVariants.{RouterFull}
use Rattle.graft_model.specs.Claims.{FrozenBefore}
use Rattle.graft_model.specs.First.{first_world}
use Rattle.graft_model.specs.Parts.{Moved, Back}
use Rattle.graft_model.specs.declared.event.RouterEvent.TheVariants.{Leave, Land, Return}
use Rattle.graft_model.specs.Steps.{ByRouter}
use Rattle.graft_worked.specs.Base.{base}
use Rattle.graft_worked.specs.Graft.{session, graft_events, before_graft}
use Rattle.graft_worked.specs.Refused.{refusing, returned_events, with_returned}
use Rattle.graft_worked.specs.Start.{session_joined, joining_events, start_events}
use Rattle.graft_worked.specs.Unchanged.{with_landing}
use Rattle.graft_worked.proofs.GraftEnds.{quiet_before}
use Rattle.graft_worked.proofs.GraftRun as graft
use Rattle.graft_worked.proofs.Refused as refused
use Rattle.graft_worked.proofs.StartRun.{joined, base_starts}

pub lands_from_first : FrozenBefore base (first_world base) (start_events ++ graft_events) 0 1 0 1 session 1 0 (Land 0) (Moved 1 0 session) with_landing
lands_from_first = record {
  begun = start_events ++ graft.ordering_events;
  away = ByRouter 0 (Leave 1) ∷ [];
  rest = drop 6 graft_events;
  among = refl;
  w₁ = graft.with_order;
  w₂ = graft.with_freeze;
  w₃ = graft.with_session_away;
  before = joined base (first_world base) before_graft graft.with_order start_events graft.ordering_events base_starts (graft.ordered quiet_before);
  was = refl;
  freezes = graft.frozen;
  meanwhile = (graft.with_session_away, graft.left, refl);
  items = [];
  comes = refl;
  step = graft.landed;
}

pub returns_from_first : FrozenBefore refusing (first_world refusing) returned_events 0 1 0 1 session_joined
    0 1 (Return 1) (Back 1 0 session_joined (RouterFull 0)) with_returned
returns_from_first = record {
  begun = joining_events ++ refused.ordering_events;
  away = refused.away;
  rest = [];
  among = refl;
  w₁ = refused.with_order;
  w₂ = refused.with_freeze;
  w₃ = refused.with_session_back;
  before = refused.ordered_from_first;
  was = refl;
  freezes = refused.frozen;
  meanwhile = refused.goes_away;
  items = [];
  comes = refl;
  step = refused.comes_back;
}
