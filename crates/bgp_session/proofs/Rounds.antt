-- A round leaves a session that is tied.
use Rattle.std.proofs.Common.{◌≡◌, ℕ, ◌+◌, ◌-◌, ◌/◌, ◌%◌, ◌^◌, ◌≤◌, Bool, true, false, cond, eqb, List, [], ◌∷◌, ◌++◌}
use Rattle.std.proofs.Common.{length, Option, Some, None, refl, sym, ap, ◌∙◌, subst, append-nil, lit≤, arith}
use Rattle.std.specs.Prelude.{◌≢◌, ◌<◌, leb, IfSome, MatchBool, fold}
use Rattle.std.specs.FinMap as map
use Rattle.bgp_types.specs.Prefixes.{PrefixValue}
use Rattle.std.specs.Option.{option_map}
use Rattle.std.specs.List.{flat_map}
use Rattle.std.proofs.lemmas.Bool.Decides.{nat_tests}
use Rattle.std.proofs.lemmas.List.Sums.{fold-append}
use Rattle.bgp_types.specs.declared.message.Message.{Message}
use Rattle.bgp_types.specs.declared.message.Message.TheVariants.{NoticeMsg, KeepaliveMsg}
use Rattle.bgp_types.specs.declared.message.SessionState.{SessionState}
use Rattle.bgp_types.specs.declared.message.SessionState.TheVariants.{Closed}
use Rattle.bgp_types.specs.Spelling.{spell}
use Rattle.bgp_types.specs.Writable.{IsWritable}
use Rattle.tcp_seq.specs.Endpoint.{Endpoint}
use Rattle.tcp_end.specs.State.{stream_length}
use Rattle.tcp_end.specs.Standing.{EndStands}
use Rattle.tcp_end.specs.Whole.{endpoint_of}
use Rattle.tcp_end.proofs.Steps.{stream_is}
use Rattle.bgp_story.specs.declared.line.Line.{Line}
use Rattle.bgp_story.specs.declared.line.Line.TheVariants.{Put, Tick}
use Rattle.bgp_story.specs.Legal.{Peering, Allowed, count_round, hold, hold_expired, is_up, is_wide, reply_at, silence}
use Rattle.bgp_story.specs.Readings.{Routes, put_bytes, put_in, got_bytes, unless_closed}
use Rattle.bgp_story.specs.States.{BeginsStory, answer_lines, state_of}
use Rattle.bgp_story.proofs.Grows.{hold_stays, open_stays}
use Rattle.session_value.specs.Cases.{put_by, sending}
use Rattle.session_value.specs.Sessions.{SessionValue, peering_of}
use Rattle.session_value.specs.Ties.{most_put}
use Rattle.session_value.proofs.Rounds as lines_passed
use Rattle.session_value.proofs.Rounds.{Answers, ends, says_keepalive, stays, answers_are}
use Rattle.session_value.proofs.Replies.{up_open, while_unclosed}
use Rattle.session_value.proofs.Rooms.{passed_has_room, most_any, most_unclosed, expired_size, keepalive_size}
use Rattle.bgp_session.specs.declared.parts.Parts.{Parts}
use Rattle.bgp_session.specs.declared.answers.TickStep.{TickStep}
use Rattle.bgp_session.specs.declared.answers.TickStep.TheVariants as tick
use Rattle.bgp_session.specs.Inner.{AtRound, HasRoomAt, IsNext, PassedBy, SessionInvariant, after_line, after_rounds, hold_of, opened_by, round_reply, running, value_of}
use Rattle.bgp_session.specs.Steps.{MayPass, PassesAgain, PassesIfItMay, SessionTicks, TellsRound}
use Rattle.bgp_session.specs.Running.{RunningSession}
use Rattle.bgp_session.proofs.Again.{again_tied}
use Rattle.bgp_session.proofs.Ends.{sent_stands, with_sent}
use Rattle.bgp_session.proofs.Got.{keepalive_writable, same_line}
use Rattle.bgp_session.proofs.Numbers.{earlier_all, number_least, numbers_then}
use Rattle.bgp_session.proofs.Opens.{hold_long, kept_hold}

-- ---- answers

round_alike : (wide : Bool) (state : SessionState) (answer : List Line) (next : SessionState) → Answers state answer next
    → flat_map (put_in wide) answer ≡ flat_map (put_in false) answer
unfolding spell
round_alike wide state _ _ ends = refl
round_alike wide state _ _ says_keepalive = refl
round_alike wide state _ _ stays = refl

expired_writable : IsWritable (NoticeMsg hold_expired) false
unfolding spell
expired_writable = record { body = tt; size = lit≤ tt }

round_writable_by : (state : SessionState) (lines : List Line) (next : SessionState) (answer : Option Message) → Answers state lines next
    → lines ≡ answer_lines answer → IfSome answer (λ m. IsWritable m false)
round_writable_by state _ _ None a e = tt
round_writable_by state _ _ (Some m) ends e = subst (λ (x : Message). IsWritable x false) (same_line (NoticeMsg hold_expired) m e) expired_writable
round_writable_by state _ _ (Some m) says_keepalive e = subst (λ (x : Message). IsWritable x false) (same_line KeepaliveMsg m e) keepalive_writable
round_writable_by state _ _ (Some m) stays e = absurd cc

round_silent : (state : SessionState) (answer : List Line) (next : SessionState) (n : ℕ) → Answers state answer next → fold count_round n answer ≡ n
round_silent state _ _ n ends = refl
round_silent state _ _ n says_keepalive = refl
round_silent state _ _ n stays = refl

round_numbers : (state : SessionState) (answer : List Line) (next : SessionState) (n : ℕ) → Answers state answer next → fold after_line n answer ≡ n
round_numbers state _ _ n ends = refl
round_numbers state _ _ n says_keepalive = refl
round_numbers state _ _ n stays = refl

-- ---- which answer it is

not_over : (h c : ℕ) → h - c ≢ 1 → eqb (c + 1) h ≡ false
not_over h c more = grind (arith, nat_tests)

pub round_passes : (h c round : ℕ) (state : SessionState) → h - c ≢ 1 → round % (h / 3) ≢ 0 → reply_at h (c + 1) round state ≡ ([], state)
round_passes h c round state more third =
    let u : eqb (round % (h / 3)) 0 ≡ false = grind (arith, nat_tests) in
    ap (λ (b : Bool). cond b (Put (NoticeMsg hold_expired) ∷ [], Closed) (cond (eqb (round % (h / 3)) 0) (Put KeepaliveMsg ∷ [], state) ([], state)))
    (not_over h c more)
    ∙ ap (λ (b : Bool). cond b (Put KeepaliveMsg ∷ [], state) ([], state)) u

pub round_beats : (h c round : ℕ) (state : SessionState) → h - c ≢ 1 → round % (h / 3) ≡ 0
    → reply_at h (c + 1) round state ≡ (Put KeepaliveMsg ∷ [], state)
round_beats h c round state more third =
    let u : eqb (round % (h / 3)) 0 ≡ true = grind (arith, nat_tests) in
    ap (λ (b : Bool). cond b (Put (NoticeMsg hold_expired) ∷ [], Closed) (cond (eqb (round % (h / 3)) 0) (Put KeepaliveMsg ∷ [], state) ([], state)))
    (not_over h c more)
    ∙ ap (λ (b : Bool). cond b (Put KeepaliveMsg ∷ [], state) ([], state)) u

put_beats : length (flat_map (put_in false) (Put KeepaliveMsg ∷ [])) ≡ length (spell KeepaliveMsg false)
put_beats = ap (λ (xs : List ℕ). length xs) (append-nil (spell KeepaliveMsg false))

put_expires : length (flat_map (put_in false) (Put (NoticeMsg hold_expired) ∷ [])) ≡ length (spell (NoticeMsg hold_expired) false)
put_expires = ap (λ (xs : List ℕ). length xs) (append-nil (spell (NoticeMsg hold_expired) false))

-- ---- the parts after a round

abbrev pub passed : Parts → ℕ → List Line → Routes → Routes → ℕ → Parts
passed parts round answer adj_rib_in adj_rib_out left = record parts {
  story = record parts.story { lines = parts.story.lines ++ Tick round ∷ answer };
  adj_rib_in = adj_rib_in;
  adj_rib_out = adj_rib_out;
  end = with_sent parts.end (flat_map (put_in false) answer);
  left = left;
  next_round = round + 1;
}

module _ (parts : Parts) (round : ℕ) (answer : List Line) (next : SessionState)
    (at : AtRound parts round) (reply : round_reply parts round ≡ (answer, next)) where
  abbrev p : Peering
  p = peering_of parts.config

  abbrev lines : List Line
  lines = parts.story.lines

  abbrev lines' : List Line
  lines' = lines ++ Tick round ∷ answer

  abbrev octets : List ℕ
  octets = flat_map (put_in false) answer

  abbrev allowed : Allowed p lines (state_of lines)
  allowed = at.keeps.tied.allowed

  answers : Answers (state_of lines) answer next
  answers = answers_are (hold p lines) (silence lines + 1) round (state_of lines) answer next reply

  octets_are : put_by (value_of parts) lines' answer ≡ octets
  octets_are = round_alike (is_wide p lines') (state_of lines) answer next answers

  put_is : put_bytes p lines' ≡ put_bytes p lines ++ octets
  put_is = lines_passed.put_then p lines round answer next at.next.up at.next.runs at.next.later reply allowed
      ∙ ap (λ (xs : List ℕ). put_bytes p lines ++ xs) octets_are

  got_is : got_bytes lines' ≡ got_bytes lines
  got_is = lines_passed.got_then p lines round answer next at.next.up at.next.runs at.next.later reply allowed

  pub round_writable : (m : Option Message) → answer ≡ answer_lines m → IfSome m (λ x. IsWritable x false)
  round_writable m e = round_writable_by (state_of lines) answer next m answers e

  pub passed_begins : BeginsStory parts.story.remote_as lines'
  passed_begins = record {
    peering = p;
    remote = sym at.keeps.remote_as;
    rest = [];
    state = next;
    legal = subst (λ (xs : List Line). Allowed p xs next) (sym (append-nil lines'))
        (lines_passed.legal_next p lines round answer next at.next.up at.next.runs at.next.later reply (λ _ _. Unit {0}) allowed);
  }

  octets_fit : stream_length parts.end + length octets ≤ most_put next
  octets_fit = subst (λ (r : List Line × SessionState). stream_length parts.end + length (flat_map (put_in false) r.0) ≤ most_put r.1) reply at.fits

  pub passed_room : stream_length parts.end + length octets ≤ 2 ^ 20
  passed_room = let fits = octets_fit in let most = most_any next in omega (arith, fits, most)

  sent : EndStands (with_sent parts.end octets) (endpoint_of (put_bytes p lines ++ octets) (got_bytes lines) (with_sent parts.end octets))
  sent = sent_stands parts.end (put_bytes p lines) (got_bytes lines) octets at.keeps.stands passed_room

  end_stands : EndStands (with_sent parts.end octets) (endpoint_of (put_bytes p lines') (got_bytes lines') (with_sent parts.end octets))
  end_stands = rw (put_is, got_is) sent

  end_is : endpoint_of (put_bytes p lines') (got_bytes lines') (with_sent parts.end octets)
      ≡ sending (put_by (value_of parts) lines' answer) (value_of parts).end
  end_is =
      ap (λ (xs : List ℕ). endpoint_of xs (got_bytes lines') (with_sent parts.end octets)) put_is
      ∙ (ap (λ (xs : List ℕ). endpoint_of (put_bytes p lines ++ octets) xs (with_sent parts.end octets)) got_is
      ∙ ap (λ (xs : List ℕ). sending xs (value_of parts).end) (sym octets_are))

  module _ (adj_rib_in adj_rib_out : Routes) (left : ℕ)
      (hears : adj_rib_in ≡ unless_closed next parts.adj_rib_in)
      (tells : adj_rib_out ≡ unless_closed next parts.adj_rib_out)
      (lefts : left ≡ parts.left - 1) where
    abbrev pub after : Parts
    after = passed parts round answer adj_rib_in adj_rib_out left

    pub passes : PassesAgain (value_of parts) round (value_of after)
    passes = record {
      up = at.next.up;
      runs = at.next.runs;
      later = at.next.later;
      answer = answer;
      next = next;
      reply = reply;
      fits =
          let fits = octets_fit in
          let size = ap (λ (xs : List ℕ). length xs) octets_are in
          let stream = stream_is parts.end (value_of parts).end at.keeps.stands in
          omega (arith, fits, size, stream);
      effect =
          ap (λ (e : Endpoint). record (value_of parts) { story = lines'; adj_rib_in = adj_rib_in; adj_rib_out = adj_rib_out; end = e }) end_is
          ∙ (ap (λ (x : Routes). record (value_of parts) {
            story = lines';
            adj_rib_in = x;
            adj_rib_out = adj_rib_out;
            end = sending (put_by (value_of parts) lines' answer) (value_of parts).end;
          }) hears
          ∙ ap (λ (x : Routes). record (value_of parts) {
            story = lines';
            adj_rib_in = unless_closed next parts.adj_rib_in;
            adj_rib_out = x;
            end = sending (put_by (value_of parts) lines' answer) (value_of parts).end;
          }) tells);
    }

    silent : silence lines' ≡ silence lines + 1
    silent = fold-append count_round 0 lines (Tick round ∷ answer) ∙ round_silent (state_of lines) answer next (silence lines + 1) answers

    -- it is above those of all rounds before
    number_is : round + 1 ≡ after_rounds lines'
    number_is =
        let least = number_least round lines at.next.later in
        let then' = numbers_then lines (Tick round) answer (λ n. round_numbers (state_of lines) answer next n answers) in
        omega (arith, least, then')

    pub keeps : SessionInvariant after
    keeps = record {
      stands = end_stands;
      tied = again_tied (value_of parts) (value_of after) round passes at.keeps.tied;
      peering = at.keeps.peering;
      way = at.keeps.way;
      send_first = at.keeps.send_first;
      receive_first = at.keeps.receive_first;
      send_fits = at.keeps.send_fits;
      receive_fits = at.keeps.receive_fits;
      remote_as = at.keeps.remote_as;
      opened = at.keeps.opened ∙ ap (option_map (opened_by p.first)) (sym (open_stays p lines (Tick round ∷ answer) (state_of lines) allowed at.next.up));
      left = omega (arith, lefts, at.keeps.left, silent, hold_stays p lines (Tick round ∷ answer) (state_of lines) allowed at.next.up);
      next_round = number_is;
    }

  -- what the session is after the round
  pub ticks : (step : TickStep) (mid : Parts) → mid ≡ passed parts round answer parts.adj_rib_in parts.adj_rib_out (parts.left - 1) → next ≢ Closed
      → TellsRound step (value_of parts) round (value_of (passed parts round answer parts.adj_rib_in parts.adj_rib_out (parts.left - 1)))
      → PassedBy step (running parts) round (running mid) × SessionInvariant mid
  ticks step mid is o tells = subst (λ (m : Parts). PassedBy step (running parts) round (running m) × SessionInvariant m) (sym is) (
    record {
      passes = passes parts.adj_rib_in parts.adj_rib_out (parts.left - 1) (sym (while_unclosed next parts.adj_rib_in o))
          (sym (while_unclosed next parts.adj_rib_out o)) refl;
      tells = tells;
      same_turn = refl;
    },
    keeps parts.adj_rib_in parts.adj_rib_out (parts.left - 1) (sym (while_unclosed next parts.adj_rib_in o))
        (sym (while_unclosed next parts.adj_rib_out o)) refl,
  )

-- what is written down of a round
abbrev pub passed_down : Parts → ℕ → List Line → Parts
passed_down parts round answer = passed parts round answer parts.adj_rib_in parts.adj_rib_out (parts.left - 1)

pub hold_third : (parts : Parts) (round : ℕ) → SessionInvariant parts → IsNext parts round → 3 ≤ hold_of parts.opened
hold_third parts round k next = omega (
  arith,
  kept_hold parts k,
  hold_long (peering_of parts.config) parts.story.lines (state_of parts.story.lines) k.tied.allowed next.runs,
)

module _ (parts : Parts) (round : ℕ) (at : AtRound parts round) where
  -- the hold time has a third
  pub tick_long : 3 ≤ hold_of parts.opened
  tick_long = hold_third parts round at.keeps at.next

  pub reply_of : (answer : Option Message) → (round_reply parts round).0 ≡ answer_lines answer
      → round_reply parts round ≡ (answer_lines answer, (round_reply parts round).1)
  reply_of answer e = ap (λ (x : List Line). let r : List Line × SessionState = (x, (round_reply parts round).1) in r) e

  up_unclosed : state_of parts.story.lines ≢ Closed
  up_unclosed = up_open (state_of parts.story.lines) at.next.up

  pub beats_to : (mid : Parts) → round_reply parts round ≡ (Put KeepaliveMsg ∷ [], state_of parts.story.lines)
      → mid ≡ passed_down parts round (Put KeepaliveMsg ∷ []) → PassedBy tick.Beat (running parts) round (running mid) × SessionInvariant mid
  beats_to mid reply is = ticks parts round (Put KeepaliveMsg ∷ []) (state_of parts.story.lines) at reply tick.Beat mid is up_unclosed refl

  pub passes_to : (mid : Parts) → round_reply parts round ≡ ([], state_of parts.story.lines) → mid ≡ passed_down parts round []
      → PassedBy tick.Plain (running parts) round (running mid) × SessionInvariant mid
  passes_to mid reply is = ticks parts round [] (state_of parts.story.lines) at reply tick.Plain mid is up_unclosed refl

  pub expires_to : (prefixes : List PrefixValue) (mid then' : Parts) → round_reply parts round ≡ (Put (NoticeMsg hold_expired) ∷ [], Closed)
      → mid ≡ passed_down parts round (Put (NoticeMsg hold_expired) ∷ [])
      → then' ≡ record mid { adj_rib_in = map.empty; adj_rib_out = map.empty } → prefixes ≡ map.keys parts.adj_rib_in
      → PassedBy (tick.Expired prefixes) (running parts) round (running then') × SessionInvariant then'
  expires_to prefixes mid then' reply is drops same =
      let answer : List Line = Put (NoticeMsg hold_expired) ∷ [] in
      subst (λ (m : Parts). PassedBy (tick.Expired prefixes) (running parts) round (running m) × SessionInvariant m)
      (sym (drops ∙ ap (λ (m : Parts). let d : Parts = record m { adj_rib_in = map.empty; adj_rib_out = map.empty } in d) is)) (
        record {
          passes = passes parts round answer Closed at reply map.empty map.empty (parts.left - 1) refl refl refl;
          tells = (
            lines_passed.state_next (peering_of parts.config) parts.story.lines round answer
                Closed at.next.up at.next.runs at.next.later reply at.keeps.tied.allowed,
            same,
          );
          same_turn = refl;
        },
        keeps parts round answer Closed at reply map.empty map.empty (parts.left - 1) refl refl refl,
      )

-- ---- whether a round may pass

module _ (parts : Parts) (round : ℕ) (k : SessionInvariant parts) where
  pub is_next : is_up (state_of parts.story.lines) ≡ true → 0 < hold_of parts.opened → (t : Bool) → t ≡ leb parts.next_round round
      → MatchBool t (IsNext parts round) (¬ IsNext parts round)
  is_next up runs true e = record {
    up = up;
    runs = omega (arith, runs, kept_hold parts k);
    later = earlier_all round parts.story.lines (let after = k.next_round in grind (arith, nat_tests));
  }
  is_next up runs false e = λ next. let least = number_least round parts.story.lines next.later in let after = k.next_round in grind (arith, nat_tests)

  pub not_up : is_up (state_of parts.story.lines) ≡ false → ¬ IsNext parts round
  not_up down next = let up = next.up in cc

  pub not_held : hold_of parts.opened ≡ 0 → ¬ IsNext parts round
  not_held none next = omega (arith, none, next.runs, kept_hold parts k)

  pub may_match : IsNext parts round → (t : Bool) → t ≡ leb (stream_length parts.end) 1044461
      → MatchBool t (MayPass (value_of parts) round) (¬ MayPass (value_of parts) round)
  may_match next true e = record {
    up = next.up;
    runs = next.runs;
    later = next.later;
    room = let stream = stream_is parts.end (value_of parts).end k.stands in grind (arith, nat_tests);
  }
  may_match next false e = λ may. let stream = stream_is parts.end (value_of parts).end k.stands in let room = may.room in grind (arith, nat_tests)

  pub may_be_next : MayPass (value_of parts) round → IsNext parts round
  may_be_next may = record { up = may.up; runs = may.runs; later = may.later }

  -- ---- whether it has room

  module _ (next : IsNext parts round) where
    abbrev h : ℕ
    h = hold (peering_of parts.config) parts.story.lines

    abbrev c : ℕ
    c = silence parts.story.lines

    abbrev s : SessionState
    s = state_of parts.story.lines

    up_put : stream_length parts.end ≤ 1044480
    up_put =
        let stream = stream_is parts.end (value_of parts).end k.stands in
        let room = k.tied.room in
        let most = most_unclosed s (up_open s next.up) in
        omega (arith, stream, room, most)

    pub room_if_over : parts.left ≡ 1 → HasRoomAt parts round
    room_if_over over =
        let n : eqb (c + 1) h ≡ true = let left = k.left in grind (arith, nat_tests) in
        let put = up_put in
        subst (λ (r : List Line × SessionState). stream_length parts.end + length (flat_map (put_in false) r.0) ≤ most_put r.1)
        (sym (ap (λ (b : Bool). let r : List Line × SessionState = cond b (Put (NoticeMsg hold_expired) ∷ [], Closed)
        (cond (eqb (round % (h / 3)) 0) (Put KeepaliveMsg ∷ [], s) ([], s)) in r) n))
        (let size = expired_size false in let one = put_expires in omega (arith, put, size, one))

    pub room_if_quiet : parts.left ≢ 1 → round % (h / 3) ≢ 0 → HasRoomAt parts round
    room_if_quiet more quiet =
        let put = up_put in
        let most = most_unclosed s (up_open s next.up) in
        subst (λ (r : List Line × SessionState). stream_length parts.end + length (flat_map (put_in false) r.0) ≤ most_put r.1)
        (sym (round_passes h c round s (λ e. more (k.left ∙ e)) quiet)) (omega (arith, put, most))

    pub room_if_beats : (t : Bool) → parts.left ≢ 1 → round % (h / 3) ≡ 0 → t ≡ leb (stream_length parts.end) 1044461
        → MatchBool t (HasRoomAt parts round) (¬ HasRoomAt parts round)
    room_if_beats t more beats e =
        let size = keepalive_size false in
        let most = most_unclosed s (up_open s next.up) in
        subst (λ (r : List Line × SessionState). MatchBool t (stream_length parts.end + length (flat_map (put_in false) r.0) ≤ most_put r.1)
        (¬ (stream_length parts.end + length (flat_map (put_in false) r.0) ≤ most_put r.1)))
        (sym (round_beats h c round s (λ e'. more (k.left ∙ e')) beats)) (by_test t e size most)
      where
        by_test : (b : Bool) → b ≡ leb (stream_length parts.end) 1044461 → length (spell KeepaliveMsg false) ≡ 19 → most_put s ≡ 1044480
            → MatchBool b (stream_length parts.end + length (flat_map (put_in false) (Put KeepaliveMsg ∷ [])) ≤ most_put s)
            (¬ (stream_length parts.end + length (flat_map (put_in false) (Put KeepaliveMsg ∷ [])) ≤ most_put s))
        by_test true is size most = let one = put_beats in grind (arith, nat_tests)
        by_test false is size most = λ fits. let one = put_beats in grind (arith, nat_tests)

  -- with room for a KEEPALIVE there is room for any answer
  pub at_may : MayPass (value_of parts) round → AtRound parts round
  at_may may = record {
    keeps = k;
    next = may_be_next may;
    fits = answer_fits (round_reply parts round).0 (round_reply parts round).1 refl;
  } where
    answer_fits : (answer : List Line) (next : SessionState) → round_reply parts round ≡ (answer, next)
        → stream_length parts.end + length (flat_map (put_in false) answer) ≤ most_put next
    answer_fits answer next reply =
        let room = passed_has_room (value_of parts) round answer next may.up may.room reply in
        let same = ap (λ (xs : List ℕ). length xs) (round_alike (is_wide (peering_of parts.config) (parts.story.lines ++ Tick round ∷ answer))
        (state_of parts.story.lines) answer next
        (answers_are (hold (peering_of parts.config) parts.story.lines) (silence parts.story.lines + 1) round (state_of parts.story.lines) answer next reply)) in
        let stream = stream_is parts.end (value_of parts).end k.stands in
        omega (arith, room, same, stream)

  -- no round passes that has no room
  pub none_fits : ¬ HasRoomAt parts round → (new : SessionValue) → ¬ PassesAgain (value_of parts) round new
  none_fits not new again =
      let same = ap (λ (xs : List ℕ). length xs) (round_alike (is_wide (peering_of parts.config) (parts.story.lines ++ Tick round ∷ again.answer))
      (state_of parts.story.lines) again.answer again.next
      (answers_are (hold (peering_of parts.config) parts.story.lines) (silence parts.story.lines + 1) round (state_of parts.story.lines)
      again.answer again.next again.reply)) in
      let stream = stream_is parts.end (value_of parts).end k.stands in
      not (subst (λ (r : List Line × SessionState). stream_length parts.end + length (flat_map (put_in false) r.0) ≤ most_put r.1) (sym again.reply)
      (let fits = again.fits in omega (arith, fits, same, stream)))

-- where there is room for a KEEPALIVE, the round passes as in every session
pub ticks_by : (step : TickStep) (old : RunningSession) (round : ℕ) (new : RunningSession) → length old.session.end.stream ≤ 1044461
    → PassedBy step old round new → SessionTicks step old round new
ticks_by step old round new room by = record {
  passes = record {
    up = by.passes.up;
    runs = by.passes.runs;
    later = by.passes.later;
    room = room;
    answer = by.passes.answer;
    next = by.passes.next;
    reply = by.passes.reply;
    effect = by.passes.effect;
  };
  tells = by.tells;
  same_turn = by.same_turn;
}
