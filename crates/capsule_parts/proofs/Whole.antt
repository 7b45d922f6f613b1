-- The parts of a capsule as a whole.
use Rattle.std.proofs.Common.{◌≡◌, ◌≢◌, ℕ, ◌+◌, ◌-◌, List, [], ◌++◌, length, drop, refl, sym, ap, ◌∙◌, subst, length-append, arith, Option}
use Rattle.std.specs.Prelude.{All}
use Rattle.std.proofs.lemmas.List.{length-drop}
use Rattle.graft_edge.specs.declared.name.Name.{Name}
use Rattle.bgp_types.specs.declared.message.SessionState.{SessionState}
use Rattle.bgp_types.specs.declared.message.SessionState.TheVariants.{Established}
use Rattle.tcp_seq.specs.declared.segment.Way.TheVariants.{Remote}
use Rattle.tcp_seq.specs.declared.state.Piece.{Piece}
use Rattle.tcp_seq.specs.declared.state.EndState.{EndState}
use Rattle.tcp_seq.specs.Endpoint.{received, received_bytes}
use Rattle.tcp_end.specs.Standing.{EndStands}
use Rattle.tcp_end.specs.State.{IsEndState, LieFrom, got}
use Rattle.tcp_end.specs.Whole.{endpoint_of, numbered_in}
use Rattle.bgp_story.specs.declared.line.Line.{Line}
use Rattle.bgp_story.specs.Legal.{Peering, is_wide}
use Rattle.bgp_story.specs.States.{state_of}
use Rattle.bgp_story.proofs.Shapes.{allowed_of}
use Rattle.bgp_story.proofs.StoryLaws.{state_is}
use Rattle.bgp_story.specs.Readings.{IsLegal, got_bytes, heard, put_bytes, told as told_by}
use Rattle.session_value.specs.declared.config.SessionConfig.{SessionConfig}
use Rattle.session_value.specs.Fronts.{BeginsNothing}
use Rattle.session_value.specs.Sessions.{SessionValue, peering_of, state, unread}
use Rattle.session_value.specs.Ties.{IsOfStory, IsTied, most_put}
use Rattle.session_value.proofs.Ties.{read_is, received_is}
use Rattle.bgp_session.specs.Running.{RunningSession}
use Rattle.bgp_session.specs.Steps.{IsEndFor, with_end}
use Rattle.capsule_bytes.specs.declared.parts.CapsuleParts.{CapsuleParts}
use Rattle.capsule_bytes.specs.declared.parts.PartChange.{PartChange}
use Rattle.capsule_bytes.specs.declared.parts.PartLine.{PartLine}
use Rattle.capsule_parts.specs.Parts.{ahead_of, config_of, end_of, part_lines, parts_of, pieces_of}
use Rattle.capsule_parts.specs.Sound.{IsAtRest, IsSound, LieAbove, PutsWritable, put_octets, got_octets}
use Rattle.capsule_parts.specs.Retold.{HasSoundEnd, IsRetold, IsStoryOf, with_ready}
use Rattle.capsule_parts.proofs.Runs.{arrived_ahead, lie_from, pieces_are, same_arrived}
use Rattle.capsule_parts.proofs.Ends.{read_first, read_within, ready_left, received_all, stands}
use Rattle.capsule_parts.proofs.Spelled.{got_octets_are, put_octets_are, story_writable}

-- what an endpoint has that is made of a state
made_ahead : (stream read : List ℕ) (s : EndState) → IsEndState s → s.taken ≡ length read
    → ahead_of (endpoint_of stream read s) ≡ pieces_of (numbered_in s.ahead)
made_ahead stream read s sound taken =
    let n : length (read ++ s.ready) ≡ got s = length-append read s.ready ∙ ap (λ (k : ℕ). k + length s.ready) (sym taken) in
    ap pieces_of (arrived_ahead (read ++ s.ready) (got s + 16384) s.ahead
    (subst (λ (k : ℕ). LieFrom (k + 1) (got s + 16384) s.ahead) (sym n) sound.ahead))

-- ---- the parts that a capsule shows

abbrev pub shown_parts : SessionConfig → (import export : Option Name) → EndState → (held : List ℕ) → List PartLine → List PartChange → CapsuleParts
shown_parts config import export end held story late = record {
  peering = config.peering;
  remote_as = config.remote_as;
  home_as = config.home_as;
  identifier = config.identifier;
  remote_address = config.remote_address;
  local_address = config.local_address;
  home_hold = config.home_hold;
  offered = config.offered;
  unicast = config.unicast;
  import = import;
  export = export;
  end = end;
  held = held;
  story = story;
  late = late;
}

module _ (capsule : RunningSession) (s : EndState) (pieces : List Piece) (is_end : IsEndFor capsule.session s)
    (whole : capsule ≡ with_end capsule.session s) (same : numbered_in pieces ≡ numbered_in s.ahead)
    (apart : (below high : ℕ) → LieFrom (below + 1) high s.ahead → LieAbove below high pieces) where
  abbrev p : Peering
  p = peering_of capsule.session.config

  tied : IsTied capsule.session
  tied = subst (λ (r : RunningSession). IsTied r.session) (sym whole) is_end.tied

  st : EndStands s capsule.session.end
  st = subst (λ (r : RunningSession). EndStands s r.session.end) (sym whole) is_end.stands

  taken_read : s.taken ≡ length (got_bytes capsule.session.story)
  taken_read = sym st.read ∙ read_is capsule.session tied

  all_taken : s.taken + length s.ready ≡ received capsule.session.end
  all_taken =
      let size : length s.ready ≡ received capsule.session.end - capsule.session.end.read =
      ap (λ (xs : List ℕ). length xs) st.ready ∙ length-drop capsule.session.end.read (received_bytes capsule.session.end) in
      let read = st.read in
      let within = st.read_within in
      omega (arith, size, read, within)

  lies : LieAbove (got s) (got s + 16384) pieces
  lies = apart (got s) (got s + 16384) st.sound.ahead

  ahead_is : ahead_of capsule.session.end ≡ pieces
  ahead_is =
      ap (λ (r : RunningSession). ahead_of r.session.end) whole
      ∙ made_ahead capsule.session.end.stream (got_bytes capsule.session.story) s st.sound taken_read
      ∙ ap pieces_of (sym same) ∙ pieces_are (got s) (got s + 16384) pieces lies

  pub end_shown : (taken : ℕ) (ready : List ℕ) → taken ≡ s.taken + length s.ready → ready ≡ []
      → record s { taken = taken; ready = ready; ahead = pieces } ≡ end_of capsule
  end_shown taken ready takes none =
      let turn : s.acked_at_turn ≡ capsule.acked_at_turn = sym (ap (λ (r : RunningSession). r.acked_at_turn) whole) in
      λ i. record {
        way = is_end.way i;
        peering = is_end.peering i;
        send_first = is_end.send_first i;
        acked = (sym st.acked) i;
        sent = (sym st.emitted) i;
        waiting = st.waiting i;
        receive_first = is_end.receive_first i;
        taken = (takes ∙ all_taken) i;
        ready = none i;
        ahead = (sym ahead_is) i;
        acked_at_turn = turn i;
        owed = (sym st.owed) i;
      }

  pub held_shown : s.ready ≡ unread capsule.session
  held_shown = st.ready

  pub shown_whole : (config : SessionConfig) (import export : Option Name) (end : EndState) (held : List ℕ) (story : List PartLine) (late : List PartChange)
      → config ≡ capsule.session.config → import ≡ config.import → export ≡ config.export → end ≡ end_of capsule → held ≡ unread capsule.session
      → story ≡ part_lines p capsule.session.story → late ≡ [] → shown_parts config import export end held story late ≡ parts_of capsule
  shown_whole config import export end held story late c im ex en he st la =
      let import_is = im ∙ ap (λ (x : SessionConfig). x.import) c in
      let export_is = ex ∙ ap (λ (x : SessionConfig). x.export) c in
      λ i. shown_parts (c i) (import_is i) (export_is i) (en i) (he i) (st i) (la i)

  lines_writable : All (PutsWritable (is_wide p capsule.session.story)) capsule.session.story
  lines_writable = story_writable capsule.session tied

  pub shown_sound : IsAtRest capsule → IsSound (parts_of capsule)
  shown_sound rests = record {
    story = capsule.session.story;
    puts = record { are = refl; writable = lines_writable };
    legal = subst (λ (x : SessionState). IsLegal p capsule.session.story x) rests.established rests.of_story.legal;
    waiting = ap (drop capsule.session.end.acked) put_is;
    flight = record {
      acked = let a = st.acked in let e = st.emitted in let f = st.sound.sending.acked in omega (arith, a, e, f);
      flight = let a = st.acked in let e = st.emitted in let f = st.sound.sending.flight in omega (arith, a, e, f);
      emitted =
          let e = st.emitted in
          let f = st.sound.sending.emitted in
          let w : length s.waiting ≡ length capsule.session.end.stream - capsule.session.end.acked =
          ap (λ (xs : List ℕ). length xs) st.waiting ∙ length-drop capsule.session.end.acked capsule.session.end.stream in
          let a = st.acked in
          let within = st.acked_within in
          let n = ap (λ (xs : List ℕ). length xs) put_is in
          omega (arith, e, f, w, a, within, n);
      room =
          let n = ap (λ (xs : List ℕ). length xs) put_is in
          let most : most_put (state capsule.session) ≡ 1044480 = ap most_put rests.established in
          let room = tied.room in
          omega (arith, n, most, room);
    };
    taken =
        let all : received capsule.session.end ≡ length (got_bytes capsule.session.story) + length (unread capsule.session) =
        ap (λ (xs : List ℕ). length xs) (received_is capsule.session tied) ∙ length-append (got_bytes capsule.session.story) (unread capsule.session) in
        let n = ap (λ (xs : List ℕ). length xs) (got_octets_are p capsule.session.story) in
        omega (arith, all, n);
    held = rests.all_read;
    received = record { none_ready = refl; few = let few = rests.few in omega (arith, few) };
    connection = (refl, refl);
    ahead =
        let at : got s ≡ received capsule.session.end + 0 = omega (arith, all_taken) in
        subst (λ (n : ℕ). LieAbove n (n + 16384) (ahead_of capsule.session.end)) at
        (subst (LieAbove (got s) (got s + 16384)) (sym ahead_is) lies);
    at_turn =
        let turn : s.acked_at_turn ≡ capsule.acked_at_turn = sym (ap (λ (r : RunningSession). r.acked_at_turn) whole) in
        let a = st.acked in
        let f = st.sound.sending.at_turn in
        omega (arith, turn, a, f);
    late = refl;
  } where
    put_is : capsule.session.end.stream ≡ put_octets (part_lines p capsule.session.story)
    put_is = tied.put ∙ sym (put_octets_are p capsule.session.story)

-- ---- the capsule that has given parts

module _ (parts : CapsuleParts) (ends : HasSoundEnd parts) (session : SessionValue) (told : IsRetold (config_of parts) parts.story session) where
  abbrev q : Peering
  q = peering_of session.config

  abbrev pub end' : EndState
  end' = with_ready parts (parts.end.taken - length parts.held)

  abbrev pub made : RunningSession
  made = with_end session end'

  spelled : parts.story ≡ part_lines q session.story
  spelled = told.told.spelled

  put_is : put_octets parts.story ≡ session.end.stream
  put_is = ap put_octets spelled ∙ put_octets_are q session.story ∙ sym told.of_story.tied.put

  got_is : got_octets parts.story ≡ got_bytes session.story
  got_is = ap got_octets spelled ∙ got_octets_are q session.story

  taken_is : end'.taken ≡ length (got_bytes session.story)
  taken_is = let t = ends.taken in let n = ap (λ (xs : List ℕ). length xs) got_is in omega (arith, t, n)

  got_same : got end' ≡ parts.end.taken
  got_same = let t = ends.taken in omega (arith, t)

  got_parts : got parts.end ≡ parts.end.taken
  got_parts = let n = ap (λ (xs : List ℕ). length xs) ends.received.none_ready in omega (arith, n)

  stream_size : length session.end.stream ≡ length (put_octets parts.story)
  stream_size = ap (λ (xs : List ℕ). length xs) (sym put_is)

  waiting_is : end'.waiting ≡ drop end'.acked session.end.stream
  waiting_is = ends.waiting ∙ ap (drop parts.end.acked) put_is

  waiting_size : parts.end.acked + length parts.end.waiting ≡ length session.end.stream
  waiting_size =
      let n = ap (λ (xs : List ℕ). length xs) waiting_is ∙ length-drop parts.end.acked session.end.stream in
      let a = ends.flight.acked in let e = ends.flight.emitted in let m = stream_size in omega (arith, n, a, e, m)

  above : LieAbove (got end') (got end' + 16384) parts.end.ahead
  above = subst (λ (n : ℕ). LieAbove n (n + 16384) parts.end.ahead) (got_parts ∙ sym got_same) ends.ahead

  sound_end : IsEndState end'
  sound_end = record {
    sending = record {
      acked = ends.flight.acked;
      flight = ends.flight.flight;
      emitted = let e = ends.flight.emitted in let n = stream_size in let w = waiting_size in omega (arith, e, n, w);
      stream = let r = ends.flight.room in let n = stream_size in let w = waiting_size in omega (arith, r, n, w);
      at_turn = ends.at_turn;
    };
    received = let f = ends.received.few in let g = got_parts in let h = got_same in omega (arith, f, g, h);
    ahead = lie_from (got end' + 1) (got end') (got end' + 16384) parts.end.ahead (omega arith) above;
  }

  stands_made : EndStands end' made.session.end
  stands_made = stands end' session.end.stream (got_bytes session.story) sound_end taken_is
      (let a = ends.flight.acked in let e = ends.flight.emitted in let n = stream_size in omega (arith, a, e, n))
      waiting_is (let f = ends.received.few in let g = got_parts in let h = got_same in omega (arith, f, g, h))

  tied_made : IsTied made.session
  tied_made = record {
    allowed = told.of_story.tied.allowed;
    put = told.of_story.tied.put;
    room = told.of_story.tied.room;
    read = read_within end' session.end.stream (got_bytes session.story) sound_end taken_is;
    got = read_first end' session.end.stream (got_bytes session.story) sound_end taken_is;
  }

  pub end_for : IsEndFor session end'
  end_for = record {
    peering = ends.connection.0 ∙ ap (λ (c : SessionConfig). c.peering) (sym told.config_is);
    way = ends.connection.1;
    send_first = ap (λ (c : SessionConfig). c.send_first) (sym told.config_is);
    receive_first = ap (λ (c : SessionConfig). c.receive_first) (sym told.config_is);
    stands = stands_made;
    tied = tied_made;
  }

  of_story_made : IsOfStory made.session
  of_story_made = record {
    tied = tied_made;
    legal = told.of_story.legal;
    adj_rib_in = told.of_story.adj_rib_in;
    adj_rib_out = told.of_story.adj_rib_out;
  }

  -- ---- the parts are sound

  pub made_sound : IsSound parts
  made_sound = record {
    story = session.story;
    puts = record {
      are = subst (λ (c : SessionConfig). parts.story ≡ part_lines (peering_of c) session.story) told.config_is spelled;
      writable = subst (λ (c : SessionConfig). All (PutsWritable (is_wide (peering_of c) session.story)) session.story) told.config_is
          (story_writable session told.of_story.tied);
    };
    legal = subst (λ (c : SessionConfig). IsLegal (peering_of c) session.story Established) told.config_is
        (subst (λ (x : SessionState). IsLegal q session.story x) told.told.established told.of_story.legal);
    waiting = ends.waiting;
    flight = ends.flight;
    taken = ends.taken;
    held = ends.held;
    received = ends.received;
    connection = ends.connection;
    ahead = ends.ahead;
    at_turn = ends.at_turn;
    late = ends.late;
  }

  -- ---- they are its parts

  received_made : received made.session.end ≡ parts.end.taken
  received_made =
      ap (λ (xs : List ℕ). length xs) (received_all end' session.end.stream (got_bytes session.story) sound_end taken_is)
      ∙ length-append (got_bytes session.story) parts.held
      ∙ (let t = taken_is in let g = got_same in omega (arith, t, g))

  unread_made : unread made.session ≡ parts.held
  unread_made = ready_left end' session.end.stream (got_bytes session.story) sound_end taken_is

  ahead_made : ahead_of made.session.end ≡ parts.end.ahead
  ahead_made = made_ahead session.end.stream (got_bytes session.story) end' sound_end taken_is ∙ pieces_are (got end') (got end' + 16384) parts.end.ahead above

  end_made : end_of made ≡ parts.end
  end_made =
      let cfg = told.config_is in
      let way : Remote ≡ parts.end.way = sym ends.connection.1 in
      let peering : session.config.peering ≡ parts.end.peering = ap (λ (c : SessionConfig). c.peering) cfg ∙ sym ends.connection.0 in
      let waiting = sym waiting_is in
      let ready : ◌≡◌ {A = List ℕ} [] parts.end.ready = sym ends.received.none_ready in
      λ i. record {
        way = way i;
        peering = peering i;
        send_first = (cfg i).send_first;
        acked = parts.end.acked;
        sent = parts.end.sent;
        waiting = waiting i;
        receive_first = (cfg i).receive_first;
        taken = received_made i;
        ready = ready i;
        ahead = ahead_made i;
        acked_at_turn = parts.end.acked_at_turn;
        owed = parts.end.owed;
      }

  pub made_parts : parts_of made ≡ parts
  made_parts =
      let cfg = told.config_is in
      let late : ◌≡◌ {A = List PartChange} [] parts.late = sym ends.late in
      let story = sym spelled in
      λ i. record {
        peering = (cfg i).peering;
        remote_as = (cfg i).remote_as;
        home_as = (cfg i).home_as;
        identifier = (cfg i).identifier;
        remote_address = (cfg i).remote_address;
        local_address = (cfg i).local_address;
        home_hold = (cfg i).home_hold;
        offered = (cfg i).offered;
        unicast = (cfg i).unicast;
        import = (cfg i).import;
        export = (cfg i).export;
        end = end_made i;
        held = unread_made i;
        story = story i;
        late = late i;
      }

  pub made_rests : IsAtRest made
  made_rests = record {
    of_story = of_story_made;
    established = told.told.established;
    few = let r = received_made in let f = ends.received.few in let g = got_parts in omega (arith, r, f, g);
    all_read = subst BeginsNothing (sym unread_made) ends.held;
  }

  -- ---- a capsule with these parts

  module _ (capsule : RunningSession) (of_story : IsOfStory capsule.session) (same : parts_of capsule ≡ parts) where
    pub its_config : capsule.session.config ≡ config_of parts
    its_config = ap config_of same

    its_story : (received : List ℕ) → received ≡ got_octets parts.story ++ parts.held
        → IsStoryOf (peering_of (config_of parts)) received parts.story capsule.session.story
    its_story received all =
        let c : Peering = peering_of capsule.session.config in
        let lines : parts.story ≡ part_lines c capsule.session.story = sym (ap (λ (x : CapsuleParts). x.story) same) in
        subst (λ (x : SessionConfig). IsStoryOf (peering_of x) received parts.story capsule.session.story) its_config (record {
          spelled = lines;
          held = parts.held;
          received_is = all ∙ ap (λ (xs : List ℕ). xs ++ parts.held) (ap got_octets lines ∙ got_octets_are c capsule.session.story);
          state = state capsule.session;
          legal = of_story.legal;
          room =
              let n = ap (λ (xs : List ℕ). length xs) (ap put_octets lines ∙ put_octets_are c capsule.session.story) in
              let r = ends.flight.room in
              omega (arith, n, r);
        })

    -- also as the configuration and the story that were taken apart
    pub its_story_in : (config : SessionConfig) (story : List PartLine) (received : List ℕ) → config ≡ config_of parts → story ≡ parts.story
        → received ≡ got_octets parts.story ++ parts.held → IsStoryOf (peering_of config) received story capsule.session.story
    its_story_in config story received c s all =
        subst (λ (x : SessionConfig). IsStoryOf (peering_of x) received story capsule.session.story) (sym c)
        (subst (λ (xs : List PartLine). IsStoryOf (peering_of (config_of parts)) received xs capsule.session.story) (sym s) (its_story received all))

    module _ (story : session.story ≡ capsule.session.story) where
      cfg : session.config ≡ capsule.session.config
      cfg = told.config_is ∙ sym its_config

      one_end : made.session.end ≡ capsule.session.end
      one_end =
          let e = ap (λ (x : CapsuleParts). x.end) (made_parts ∙ sym same) in
          let stream : session.end.stream ≡ capsule.session.end.stream =
          told.of_story.tied.put ∙ ap (λ (x : SessionConfig). put_bytes (peering_of x) session.story) cfg
          ∙ ap (put_bytes (peering_of capsule.session.config)) story ∙ sym of_story.tied.put in
          let emitted = ap (λ (x : EndState). x.sent) e in
          let acked = ap (λ (x : EndState). x.acked) e in
          let owed = ap (λ (x : EndState). x.owed) e in
          let read : made.session.end.read ≡ capsule.session.end.read =
          read_is made.session tied_made ∙ ap (λ (xs : List Line). length (got_bytes xs)) story ∙ sym (read_is capsule.session of_story.tied) in
          let order : received_bytes made.session.end ≡ received_bytes capsule.session.end =
          received_is made.session tied_made ∙ ap (λ (xs : List Line). got_bytes xs ++ unread made.session) story
          ∙ ap (λ (x : CapsuleParts). got_bytes capsule.session.story ++ x.held) (made_parts ∙ sym same)
          ∙ sym (received_is capsule.session of_story.tied) in
          let arrived : made.session.end.arrived ≡ capsule.session.end.arrived =
          same_arrived made.session.end.arrived capsule.session.end.arrived order (ap (λ (x : EndState). x.ahead) e) in
          λ i. record { stream = stream i; emitted = emitted i; acked = acked i; arrived = arrived i; read = read i; owed = owed i }

      pub one_capsule : made ≡ capsule
      one_capsule =
          let heard' = told.of_story.adj_rib_in
          ∙ ap (λ (x : SessionConfig). heard (peering_of x) session.story) cfg
          ∙ ap (heard (peering_of capsule.session.config)) story ∙ sym of_story.adj_rib_in in
          let told' = told.of_story.adj_rib_out ∙ ap told_by story ∙ sym of_story.adj_rib_out in
          let turn = ap (λ (x : CapsuleParts). x.end.acked_at_turn) (made_parts ∙ sym same) in
          λ i. record {
            session = record { config = cfg i; story = story i; adj_rib_in = heard' i; adj_rib_out = told' i; end = one_end i };
            acked_at_turn = turn i;
          }

-- what was retold, by the configuration and the story of the parts
pub retold_parts : (parts : CapsuleParts) (config : SessionConfig) (story : List PartLine) (session : SessionValue) → config ≡ config_of parts
    → story ≡ parts.story → IsRetold config story session → IsRetold (config_of parts) parts.story session
retold_parts parts config story session c s told =
    subst (λ (x : SessionConfig). IsRetold x parts.story session) c (subst (λ (xs : List PartLine). IsRetold config xs session) s told)

-- what is returned
module _ (parts : CapsuleParts) (ends : HasSoundEnd parts) (session : SessionValue) (told : IsRetold (config_of parts) parts.story session)
    (result : RunningSession) (is : result ≡ made parts ends session told) where
  pub result_parts : parts_of result ≡ parts
  result_parts = ap parts_of is ∙ made_parts parts ends session told

  pub result_rests : IsAtRest result
  result_rests = subst IsAtRest (sym is) (made_rests parts ends session told)

  pub result_same : (capsule : RunningSession) (of_story : IsOfStory capsule.session) (same : parts_of capsule ≡ parts)
      → session.story ≡ capsule.session.story → result ≡ capsule
  result_same capsule of_story same story = is ∙ one_capsule parts ends session told capsule of_story same story

-- ---- what unsound parts lack

pub end_of_sound : (parts : CapsuleParts) → IsSound parts → HasSoundEnd parts
end_of_sound parts is = record {
  waiting = is.waiting;
  flight = is.flight;
  taken = is.taken;
  held = is.held;
  received = is.received;
  connection = is.connection;
  ahead = is.ahead;
  at_turn = is.at_turn;
  late = is.late;
}

pub story_of_sound : (parts : CapsuleParts) (is : IsSound parts) (received : List ℕ) → received ≡ got_octets parts.story ++ parts.held
    → IsStoryOf (peering_of (config_of parts)) received parts.story is.story
story_of_sound parts is received all =
    let c : Peering = peering_of (config_of parts) in
    record {
      spelled = is.puts.are;
      held = parts.held;
      received_is = all ∙ ap (λ (xs : List ℕ). xs ++ parts.held) (ap got_octets is.puts.are ∙ got_octets_are c is.story);
      state = Established;
      legal = is.legal;
      room = let n = ap (λ (xs : List ℕ). length xs) (ap put_octets is.puts.are ∙ put_octets_are c is.story) in let r = is.flight.room in omega (arith, n, r);
    }

-- a story that is refused isn't that of sound parts
pub refused_unsound : (parts : CapsuleParts) (config : SessionConfig) (received : List ℕ) (story : List PartLine) → config ≡ config_of parts
    → story ≡ parts.story → received ≡ got_octets parts.story ++ parts.held
    → ((told : List Line) → IsStoryOf (peering_of config) received story told → state_of told ≢ Established) → ¬ IsSound parts
refused_unsound parts config received story c s all none sound =
    none sound.story
    (subst (λ (x : SessionConfig). IsStoryOf (peering_of x) received story sound.story) (sym c)
    (subst (λ (xs : List PartLine). IsStoryOf (peering_of (config_of parts)) received xs sound.story) (sym s) (story_of_sound parts sound received all)))
    (state_is (peering_of (config_of parts)) sound.story Established (allowed_of (peering_of (config_of parts)) sound.story Established sound.legal))
