-- The worked graft as a run.
use Rattle.std.proofs.Common.{List, [], ◌∷◌, drop, Some, None, inr, refl, lit<}
use Rattle.std.specs.FinMap as map
use Rattle.bgp_story.specs.WorkedSessions.{ten}
use Rattle.graft_steps.specs.declared.refusal.Outcome.TheVariants.{Accepted}
use Rattle.graft_model.specs.Parts.{Told, Moved, Done, PointAt, World}
use Rattle.graft_model.specs.Quiet.{Quiet}
use Rattle.graft_model.specs.declared.event.RouterEvent.TheVariants.{Admit, Freeze, Leave, Land, Confirm, Clear, Decide, Put, Tell, Hear}
use Rattle.graft_model.specs.declared.event.FarEvent.TheVariants.{Point}
use Rattle.graft_model.specs.declared.event.OperatorEvent.TheVariants.{Go, Order, Note}
use Rattle.graft_model.specs.Steps.{Event, ByRouter, ByOperator, Step, Run}
use Rattle.graft_worked.specs.Base.{base}
use Rattle.graft_worked.specs.Places.{OnTheWay, nothing_on_the_way, world_of}
use Rattle.graft_worked.specs.Graft.{route, session, home_end, a_before, b_before, far_before, operator_before, a_ordered, a_frozen, a_left, a_heard}
use Rattle.graft_worked.specs.Graft.{a_kept, a_cleared, a_decided, a_after, b_landed, b_decided, b_told, b_confirmed, b_put, b_heard, b_after, far_after}
use Rattle.graft_worked.specs.Graft.{operator_begun, operator_ordered, operator_after, before_graft, after_graft, graft_events}
use Rattle.graft_worked.specs.Unchanged.{with_landing}
use Rattle.graft_worked.proofs.Points.{at-same}
use Rattle.graft_worked.proofs.Moves.{base_small, a_alone, a_to_b, a_ordered_by, a_from_b, a_ends, b_alone, b_to_a, b_from_a}
use Rattle.graft_worked.proofs.Moves.{b_takes_in, far_from_b, operator_alone, operator_orders, operator_notes}
use Rattle.graft_worked.proofs.GraftRows.{goes, orders, notes, admits, freezes, may_freeze, leaves, lands, confirms, points, clears, b_decides}
use Rattle.graft_worked.proofs.GraftRows.{a_keeps, a_decides, b_decides_again, b_tells, a_tells, a_hears, b_hears, b_puts_nothing}
use Rattle.graft_worked.proofs.StartRun.{joined}

-- what is on its way once b has told a, and once it has given word
abbrev told : OnTheWay
told = record nothing_on_the_way { to_a = Told ten (Some route) ∷ [] }

abbrev confirmed : OnTheWay
confirmed = record nothing_on_the_way { to_a = Told ten (Some route) ∷ Done 1 0 ∷ [] }

-- the graft up to its freeze
abbrev pub ordering_events : List Event
ordering_events = ByOperator Go ∷ ByOperator (Order 2 0) ∷ ByRouter 0 (Admit 1) ∷ []

-- the worlds from there on: the graft is ordered, the session is frozen, and it has left
abbrev pub with_order : World
with_order = world_of a_ordered b_before far_before operator_ordered nothing_on_the_way

abbrev pub with_freeze : World
with_freeze = world_of a_frozen b_before far_before operator_ordered nothing_on_the_way

abbrev pub with_session_away : World
with_session_away = world_of a_left b_before far_before operator_ordered (record nothing_on_the_way { to_b = Moved 1 0 session ∷ [] })

pub ordered : Quiet base before_graft → Run base before_graft ordering_events with_order
ordered quiet = (
  _,
  operator_alone base base_small a_before b_before far_before operator_before nothing_on_the_way Go operator_begun quiet goes,
  (
    _,
    operator_orders base base_small a_before b_before far_before operator_begun nothing_on_the_way
        (Order 2 0) operator_ordered (record { graft = 1; peering = 0; target = 1 }) tt (inr orders),
    (
      _,
      a_ordered_by base base_small a_before b_before far_before operator_ordered nothing_on_the_way (Admit 1) a_ordered
          (record { graft = 1; peering = 0; target = 1 }) [] (admits base (lit< tt) a_before session),
      refl,
    ),
  ),
)

pub frozen : Step base (ByRouter 0 (Freeze 1)) with_order with_freeze
frozen = a_alone base base_small a_ordered b_before far_before operator_ordered nothing_on_the_way (Freeze 1) a_frozen (freezes 0 1 a_before session may_freeze)

pub left : Step base (ByRouter 0 (Leave 1)) with_freeze with_session_away
left = a_to_b base base_small a_frozen b_before far_before operator_ordered nothing_on_the_way
    (Leave 1) a_left (Moved 1 0 session) (leaves a_before session (at-same map.empty 0))

pub landed : Step base (ByRouter 1 (Land 0)) with_session_away with_landing
landed = b_takes_in base base_small a_left b_before far_before operator_ordered nothing_on_the_way
    (Land 0) b_landed (Moved 1 0 session) [] (PointAt 1) (lands home_end)

pub graft_runs : Quiet base before_graft → Run base before_graft graft_events after_graft
graft_runs quiet = joined base before_graft with_order after_graft ordering_events (drop 3 graft_events) (ordered quiet) (
  _,
  frozen,
  (
    _,
    left,
    (
      _,
      landed,
      (
        _,
        far_from_b base base_small a_left b_landed far_before operator_ordered nothing_on_the_way (Point 1) far_after (PointAt 1) [] points,
        (
          _,
          b_alone base base_small a_left b_landed far_after operator_ordered nothing_on_the_way (Decide ten) b_decided b_decides,
          (
            _,
            b_to_a base base_small a_left b_decided far_after operator_ordered nothing_on_the_way (Tell 0 ten) b_told (Told ten (Some route)) b_tells,
            (
              _,
              b_to_a base base_small a_left b_told far_after operator_ordered told (Confirm 1) b_confirmed (Done 1 0) confirms,
              (
                _,
                b_alone base base_small a_left b_confirmed far_after operator_ordered confirmed (Put 0 0) b_put b_puts_nothing,
                (
                  _,
                  a_from_b base base_small a_left b_put far_after operator_ordered nothing_on_the_way
                      (Hear 1) a_heard (Told ten (Some route)) (Done 1 0 ∷ []) a_hears,
                  (
                    _,
                    a_alone base base_small a_heard b_put far_after operator_ordered
                        (record nothing_on_the_way { to_a = Done 1 0 ∷ [] }) (Decide ten) a_kept a_keeps,
                    (
                      _,
                      a_ends base base_small a_kept b_put far_after operator_ordered nothing_on_the_way
                          (Clear 1) a_cleared (Done 1 0) [] (record { graft = 1; outcome = Accepted }) clears,
                      (
                        _,
                        operator_notes base base_small a_cleared b_put far_after operator_ordered nothing_on_the_way
                            (Note 0) operator_after (record { graft = 1; outcome = Accepted }) [] tt notes,
                        (
                          _,
                          a_alone base base_small a_cleared b_put far_after operator_after nothing_on_the_way (Decide ten) a_decided a_decides,
                          (
                            _,
                            a_to_b base base_small a_decided b_put far_after operator_after nothing_on_the_way (Tell 1 ten) a_after (Told ten None) a_tells,
                            (
                              _,
                              b_from_a base base_small a_after b_put far_after operator_after nothing_on_the_way (Hear 0) b_heard (Told ten None) [] b_hears,
                              (
                                _,
                                b_alone base base_small a_after b_heard far_after operator_after nothing_on_the_way (Decide ten) b_after b_decides_again,
                                refl,
                              ),
                            ),
                          ),
                        ),
                      ),
                    ),
                  ),
                ),
              ),
            ),
          ),
        ),
      ),
    ),
  ),
)
