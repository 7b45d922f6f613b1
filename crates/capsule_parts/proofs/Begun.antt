-- A session that has only begun, with all bytes received.
use Rattle.std.proofs.Common.{◌≡◌, ℕ, ◌≤◌, List, [], length, refl, sym, ap, ◌∙◌, subst, arith}
use Rattle.tcp_seq.specs.declared.state.EndState.{EndState}
use Rattle.tcp_seq.specs.declared.state.Piece.{Piece}
use Rattle.tcp_end.specs.State.{IsEndState, got}
use Rattle.bgp_story.specs.Legal.{IsPeering}
use Rattle.session_value.specs.declared.config.SessionConfig.{SessionConfig}
use Rattle.session_value.specs.Sessions.{begun, peering_of}
use Rattle.session_value.specs.Ties.{IsTied}
use Rattle.session_value.proofs.Ties.{begun_is}
use Rattle.bgp_session.specs.Running.{RunningSession}
use Rattle.bgp_session.specs.Steps.{IsEndFor, with_end}
use Rattle.capsule_parts.specs.Retold.{HasBegun}
use Rattle.capsule_parts.proofs.Ends.{read_first, read_within, ready_left, stands}

abbrev pub begun_session : SessionConfig → RunningSession
begun_session config = record { session = begun config; acked_at_turn = 0 }

-- its end, with these bytes ready and no others
abbrev pub with_received : EndState → List ℕ → EndState
with_received end received = record end { ready = received; ahead = [] }

module _ (config : SessionConfig) (valid : IsPeering (peering_of config)) (received : List ℕ) (few : length received ≤ 1048576)
    (end : EndState) (is_end : IsEndFor (begun config) end) (whole : begun_session config ≡ with_end (begun config) end) where
  abbrev new : EndState
  new = with_received end received

  none_taken : end.taken ≡ 0
  none_taken = sym (ap (λ (r : RunningSession). r.session.end.read) whole)

  few_got : got new ≤ 1048576
  few_got = let n = none_taken in omega (arith, n, few)

  sound : IsEndState new
  sound = record {
    sending = record {
      acked = is_end.stands.sound.sending.acked;
      flight = is_end.stands.sound.sending.flight;
      emitted = is_end.stands.sound.sending.emitted;
      stream = is_end.stands.sound.sending.stream;
      at_turn = is_end.stands.sound.sending.at_turn;
    };
    received = let n = few_got in omega (arith, n);
    ahead = tt;
  }

  tied : IsTied (begun config)
  tied = (begun_is config valid).tied

  new_tied : IsTied (with_end (begun config) new).session
  new_tied = record {
    allowed = tied.allowed;
    put = tied.put;
    room = tied.room;
    read = read_within new (begun config).end.stream [] sound none_taken;
    got = read_first new (begun config).end.stream [] sound none_taken;
  }

  pub new_end : IsEndFor (begun config) new
  new_end = record {
    peering = is_end.peering;
    way = is_end.way;
    send_first = is_end.send_first;
    receive_first = is_end.receive_first;
    stands = stands new (begun config).end.stream [] sound none_taken is_end.stands.acked_within is_end.stands.waiting few_got;
    tied = new_tied;
  }

  pub has_begun : HasBegun config received (with_end (begun config) new).session
  has_begun = record {
    config_is = refl;
    of_story = record {
      tied = new_tied;
      legal = (begun_is config valid).legal;
      adj_rib_in = (begun_is config valid).adj_rib_in;
      adj_rib_out = (begun_is config valid).adj_rib_out;
    };
    story_is = refl;
    unread_is = ready_left new (begun config).end.stream [] sound none_taken;
  }

-- by what the calls answer
module _ (config : SessionConfig) (valid : IsPeering (peering_of config)) (received : List ℕ) (few : length received ≤ 1048576)
    (session : RunningSession) (is : session ≡ begun_session config) (end : EndState) (is_end : IsEndFor session.session end)
    (whole : session ≡ with_end session.session end) (ahead : List Piece) (none : ahead ≡ []) where
  its_end : IsEndFor (begun config) end
  its_end = subst (λ (r : RunningSession). IsEndFor r.session end) is is_end

  its_whole : begun_session config ≡ with_end (begun config) end
  its_whole = subst (λ (r : RunningSession). r ≡ with_end r.session end) is whole

  abbrev its_new : List Piece → EndState
  its_new ps = record end { ready = received; ahead = ps }

  pub end_for_begun : IsEndFor session.session (its_new ahead)
  end_for_begun = subst (λ (r : RunningSession). IsEndFor r.session (its_new ahead)) (sym is)
      (subst (λ (ps : List Piece). IsEndFor (begun config) (its_new ps)) (sym none) (new_end config valid received few end its_end its_whole))

  pub begun_has : (other : RunningSession) → other ≡ with_end session.session (its_new ahead) → HasBegun config received other.session
  begun_has other e = subst (λ (r : RunningSession). HasBegun config received r.session)
      (sym (e ∙ ap (λ (r : RunningSession). with_end r.session (its_new ahead)) is
      ∙ ap (λ (ps : List Piece). with_end (begun config) (its_new ps)) none)) (has_begun config valid received few end its_end its_whole)
