-- Events that don't occur in the worked run.
use Rattle.std.proofs.Common.{◌≡◌, ℕ, ◌<◌, ◌++◌, Bool, true, false, [], Some, None, refl, sym, ap, inl, lit<, lit≤, arith, unwrap_or}
use Rattle.bgp_types.specs.Spelling.{spell}
use Rattle.bgp_story.specs.WorkedSessions.{keepalive_bytes, joined_lines}
use Rattle.graft_model.specs.Parts.{Place, Vacant, Live, Frozen, Shadow, World}
use Rattle.graft_model.specs.RouterRows.{SegmentIn, Strays, Ticks}
use Rattle.graft_model.specs.GraftRows.{is_taken}
use Rattle.tcp_seq.specs.declared.segment.Way.TheVariants.{Home}
use Rattle.graft_model.specs.FarRows.{Loses, Beats}
use Rattle.graft_model.specs.Laws.{MayStillHappen}
use Rattle.graft_model.proofs.Still.{still}
use Rattle.graft_worked.proofs.GraftRows.{hold_is}
use Rattle.graft_worked.proofs.GraftEnds.{quiet_after}
use Rattle.session_value.specs.Sessions.{hold_time}
use Rattle.session_value.specs.Cases.{PassesRound}
use Rattle.std.proofs.lemmas.List.Elements.{All-from_recursion}
use Rattle.bgp_story.specs.Legal.{IsEarlier}
use Rattle.bgp_types.specs.declared.message.SessionState.TheVariants.{Established}
use Rattle.bgp_types.specs.FirstFault.{body_of, message_of}
use Rattle.bgp_types.specs.Header.{header_fault, frame_at}
use Rattle.bgp_types.specs.Many.{many, many_within}
use Rattle.bgp_types.specs.OpenBody.{cap_at, caps_of, params_of, open_of}
use Rattle.graft_worked.proofs.StartRows.{marks_none}
use Rattle.graft_model.specs.declared.event.RouterEvent.TheVariants.{Tick, Stray}
use Rattle.graft_model.specs.declared.event.FarEvent.TheVariants.{Lose, Beat}
use Rattle.graft_model.specs.declared.event.OperatorEvent.TheVariants.{Go}
use Rattle.graft_model.specs.Steps.{Event, ByRouter, ByFar, ByOperator, Step}
use Rattle.graft_worked.specs.Base.{base}
use Rattle.graft_worked.specs.Places.{nothing_on_the_way, idle_router}
use Rattle.graft_worked.specs.First.{a_first}
use Rattle.graft_worked.specs.Graft.{session, a_before, b_before, far_before, operator_before, a_after, b_after}
use Rattle.graft_worked.specs.Graft.{far_after, operator_after, before_graft, after_graft, said_all, remote_end}
use Rattle.graft_worked.specs.Start.{a_with, ack_segment, far_sent, far_emitted}
use Rattle.graft_worked.specs.Others.{with_stray, without_stray, beating, with_beat, session_timed, session_ticked}
use Rattle.graft_worked.specs.Others.{with_round_due, with_round, with_segment, without_segment}
use Rattle.graft_worked.proofs.Points.{at-at, at-same}
use Rattle.graft_worked.proofs.Tens.{empty}
use Rattle.graft_worked.proofs.Moves.{IsSmall, base_small, a_alone, a_from_far, far_alone}

strays : Strays 0 a_after (Some (SegmentIn 0 ack_segment)) [] a_after
strays = record {
  absent = λ session order live. let apart : ◌≡◌ {A = Bool} false true = ap is_taken live.is in cc;
  segment = ack_segment;
  takes = refl;
  sends = refl;
  stays = refl;
}

pub may_stray : Step base (ByRouter 0 (Stray 0)) with_stray without_stray
may_stray = a_from_far base base_small a_after b_after far_after operator_after nothing_on_the_way (Stray 0) a_after ack_segment [] strays

loses : Loses Home 0 far_sent None [] far_emitted
loses = record { there = lit< tt; takes = refl; sends = refl; effect = refl }

pub may_lose : Step base (ByFar 0 (Lose Home 0)) with_segment without_segment
may_lose = far_alone base base_small a_first idle_router far_sent operator_before nothing_on_the_way (Lose Home 0) far_emitted loses

-- ---- at the end no group is left, and the remote says no KEEPALIVE

pub no_go : (after : World) → Step base (ByOperator Go) after_graft after → ⊥
no_go after step = let further : 2 < 2 = step.row.further in absurd (omega arith)

pub no_beat : (round : ℕ) (after : World) → Step base (ByFar 0 (Beat round)) after_graft after → ⊥
no_beat round after step =
    let none : ◌≡◌ {A = ℕ} 0 step.row.keepalive_interval = ap (λ o. unwrap_or o 0) step.row.is in
    let some : 0 < step.row.keepalive_interval = step.row.some in
    absurd (omega arith)

held_hold : Place → ℕ
held_hold Vacant = 0
held_hold (Live held order) = hold_time held
held_hold (Frozen held order) = hold_time held
held_hold (Shadow graft) = 0

pub no_tick : (round : ℕ) (after : World) → Step base (ByRouter 1 (Tick 0 round)) after_graft after → ⊥
unfolding held_hold
no_tick round after step =
    let same : hold_time session ≡ hold_time step.row.session = ap held_hold step.row.live.is in
    let none : hold_time session ≡ 0 = hold_is in
    let runs : 0 < hold_time step.row.session = step.row.passes.runs in
    absurd (omega arith)

pub little_moves : (event : Event) (after : World) → Step base event after_graft after → MayStillHappen event
little_moves event after step = still base event after_graft after quiet_after step

-- ---- in another setup

beating_small : IsSmall beating
beating_small = record { a = lit< tt; b = lit< tt; c = lit< tt }

beats : Beats beating 0 30 far_before None []
    (record far_before { end = record remote_end { stream = said_all ++ keepalive_bytes }; keepalives = 1; last_keepalive = 30 })
unfolding spell
beats =
    record { keepalive_interval = 30; is = refl; some = lit< tt; multiple = refl; later = lit< tt; few = lit< tt; takes = refl; sends = refl; effect = refl }

pub may_beat : Step beating (ByFar 0 (Beat 30)) before_graft with_beat
may_beat = far_alone beating beating_small a_before b_before far_before operator_before nothing_on_the_way (Beat 30)
    (record far_before { end = record remote_end { stream = said_all ++ keepalive_bytes }; keepalives = 1; last_keepalive = 30 }) beats

round_passes : PassesRound session_timed 1 session_ticked
unfolding message_of header_fault frame_at body_of open_of many many_within cap_at caps_of params_of
round_passes = record {
  up = refl;
  runs = lit< tt;
  later = All-from_recursion (IsEarlier 1) (joined_lines 90) (tt, (tt, (tt, (tt, tt))));
  room = lit≤ tt;
  answer = [];
  next = Established;
  reply = refl;
  effect = refl;
}

ticks : Ticks beating 0 0 1 (a_with session_timed) None [] (a_with session_ticked)
unfolding header_fault
ticks = record {
  alone = (refl, refl);
  session = session_timed;
  errand = None;
  live = record { is = refl };
  next = session_ticked;
  passes = round_passes;
  follows = record {
    entries = λ x. inl (refl, refl);
    dirty = marks_none;
    due = refl;
    effect = λ i. record (a_with session_ticked) {
      places = sym (at-at (λ p. Vacant) 0 (Live session_timed None) (Live session_ticked None)) i;
      entries = sym (at-same empty 0) i;
      due_out = sym (at-same empty 0) i;
    };
  };
}

pub may_tick : Step beating (ByRouter 0 (Tick 0 1)) with_round_due with_round
may_tick = a_alone beating beating_small (a_with session_timed) idle_router far_before operator_before nothing_on_the_way
    (Tick 0 1) (a_with session_ticked) ticks
