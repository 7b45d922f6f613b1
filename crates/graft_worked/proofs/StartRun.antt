-- The worked run from the first world to the quiet world before the graft, and the whole of it.
use Rattle.std.proofs.Common.{◌≡◌, List, [], ◌∷◌, ◌++◌, Some, None, refl, sym, subst, inl, false}
use Rattle.std.specs.Prelude.{slice_get}
use Rattle.bgp_story.specs.WorkedSessions.{ten, update_bytes}
use Rattle.graft_model.specs.First.{first_world}
use Rattle.graft_model.specs.Setups.{Setup, SayStep}
use Rattle.graft_model.specs.Parts.{Told, Seg, World}
use Rattle.graft_model.specs.declared.event.RouterEvent.TheVariants.{Arrive, Got, Emit, Decide, Put, Tell, Hear}
use Rattle.graft_model.specs.declared.event.FarEvent.TheVariants.{Say, Send, Pass, Take, Reach}
use Rattle.graft_model.specs.declared.event.OperatorEvent.TheVariants.{Order}
use Rattle.graft_model.specs.Steps.{Event, Run}
use Rattle.graft_worked.specs.Base.{base}
use Rattle.graft_worked.specs.Places.{idle_router, nothing_on_the_way}
use Rattle.graft_worked.specs.First.{a_first, far_first, operator_first, first_worked}
use Rattle.graft_worked.specs.Graft.{route, session, a_before, b_before, far_before, operator_before, before_graft, after_graft, graft_events}
use Rattle.graft_worked.specs.Start.{said_segment, put_segment, ack_segment, far_said, far_emitted, far_sent, far_taken, far_reached, far_answered}
use Rattle.graft_worked.specs.Start.{session_arrived, session_confirmed, session_joined, session_heard, session_emitted, a_with, a_got, a_chosen}
use Rattle.graft_worked.specs.Start.{a_put, b_dirty, b_chosen, joined_world, joining_events, settling_events, start_events}
use Rattle.graft_worked.proofs.First.{first_is}
use Rattle.graft_worked.proofs.Moves.{IsSmall, base_small, a_alone, a_to_b, a_from_b, a_to_far, a_from_far, b_alone, b_to_a}
use Rattle.graft_worked.proofs.Moves.{b_from_a, far_alone, far_says, far_from_a, far_to_a, operator_says}
use Rattle.graft_worked.proofs.StartRows.{orders_say, says, sends_all, passes_all, sends_ack, passes_ack, takes_put}
use Rattle.graft_worked.proofs.StartRows.{emits_all, got_open_row, got_keepalive_row, got_update_row}
use Rattle.graft_worked.proofs.Arrivals.{all_arrives, all_reaches, acknowledged}
use Rattle.graft_worked.proofs.StartTables.{a_decides_first, a_puts_nothing, a_tells_first, b_hears_first, b_decides_first, b_tells_first, a_hears_none}

-- in any laboratory of two routers with this peering whose script begins with the remote's UPDATE
pub joins : (setup : Setup) → IsSmall setup → slice_get setup.steps 0 ≡ Some (SayStep 0 update_bytes) → Run setup first_worked joining_events joined_world
joins setup small says_first = (
  _,
  operator_says setup small a_first idle_router far_first operator_first nothing_on_the_way
      (Order 0 0) operator_before 0 tt (inl (orders_say setup says_first)),
  (
    _,
    far_says setup small a_first idle_router far_first operator_before nothing_on_the_way (Say 0) far_said 0 [] (says setup says_first),
    (
      _,
      far_alone setup small a_first idle_router far_said operator_before nothing_on_the_way (Send 0 91) far_sent sends_all,
      (
        _,
        far_to_a setup small a_first idle_router far_sent operator_before nothing_on_the_way
            (Pass 0 false 0) far_emitted said_segment (passes_all setup small.a),
        (
          _,
          a_from_far setup small a_first idle_router far_emitted operator_before nothing_on_the_way
              (Arrive 0) (a_with session_arrived) said_segment [] all_arrives,
          (
            _,
            a_alone setup small (a_with session_arrived) idle_router far_emitted operator_before nothing_on_the_way
                (Got 0) (a_with session_confirmed) (got_open_row setup),
            (
              _,
              a_alone setup small (a_with session_confirmed) idle_router far_emitted operator_before nothing_on_the_way
                  (Got 0) (a_with session_joined) (got_keepalive_row setup),
              refl,
            ),
          ),
        ),
      ),
    ),
  ),
)

settles : Run base joined_world settling_events before_graft
settles = (
  _,
  a_alone base base_small (a_with session_joined) idle_router far_emitted operator_before nothing_on_the_way (Got 0) (a_got session_heard) got_update_row,
  (
    _,
    a_to_far base base_small (a_got session_heard) idle_router far_emitted operator_before nothing_on_the_way
        (Emit 0 0 48) (a_got session_emitted) (Seg put_segment) emits_all,
    (
      _,
      far_from_a base base_small (a_got session_emitted) idle_router far_emitted operator_before nothing_on_the_way
          (Take 0) far_taken (Seg put_segment) [] takes_put,
      (
        _,
        far_alone base base_small (a_got session_emitted) idle_router far_taken operator_before nothing_on_the_way (Reach 0 false) far_reached all_reaches,
        (
          _,
          far_alone base base_small (a_got session_emitted) idle_router far_reached operator_before nothing_on_the_way (Send 91 0) far_answered sends_ack,
          (
            _,
            far_to_a base base_small (a_got session_emitted) idle_router far_answered operator_before nothing_on_the_way
                (Pass 0 false 0) far_before ack_segment passes_ack,
            (
              _,
              a_from_far base base_small (a_got session_emitted) idle_router far_before operator_before nothing_on_the_way
                  (Arrive 0) (a_got session) ack_segment [] acknowledged,
              (
                _,
                a_alone base base_small (a_got session) idle_router far_before operator_before nothing_on_the_way (Decide ten) a_chosen a_decides_first,
                (
                  _,
                  a_alone base base_small a_chosen idle_router far_before operator_before nothing_on_the_way (Put 0 0) a_put a_puts_nothing,
                  (
                    _,
                    a_to_b base base_small a_put idle_router far_before operator_before nothing_on_the_way
                        (Tell 1 ten) a_before (Told ten (Some route)) a_tells_first,
                    (
                      _,
                      b_from_a base base_small a_before idle_router far_before operator_before nothing_on_the_way
                          (Hear 0) b_dirty (Told ten (Some route)) [] b_hears_first,
                      (
                        _,
                        b_alone base base_small a_before b_dirty far_before operator_before nothing_on_the_way (Decide ten) b_chosen b_decides_first,
                        (
                          _,
                          b_to_a base base_small a_before b_chosen far_before operator_before nothing_on_the_way
                              (Tell 0 ten) b_before (Told ten None) b_tells_first,
                          (
                            _,
                            a_from_b base base_small a_before b_before far_before operator_before nothing_on_the_way
                                (Hear 1) a_before (Told ten None) [] a_hears_none,
                            refl,
                          ),
                        ),
                      ),
                    ),
                  ),
                ),
              ),
            ),
          ),
        ),
      ),
    ),
  ),
)

pub joined : (setup : Setup) (w u v : World) (events more : List Event) → Run setup w events u → Run setup u more v → Run setup w (events ++ more) v
joined setup w u v [] more e rest = subst (λ (x : World). Run setup x more v) e rest
joined setup w u v (event ∷ events) more run rest = (run.0, run.1, joined setup run.0 u v events more run.2 rest)

pub base_starts : Run base (first_world base) start_events before_graft
base_starts = subst (λ (w : World). Run base w start_events before_graft) (sym first_is)
    (joined base first_worked joined_world before_graft joining_events settling_events (joins base base_small refl) settles)

pub whole : Run base before_graft graft_events after_graft → Run base (first_world base) (start_events ++ graft_events) after_graft
whole graft = joined base (first_world base) before_graft after_graft start_events graft_events base_starts graft
