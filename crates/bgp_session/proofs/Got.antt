-- What is got leaves a session that is tied, by the case of a frame.
use Rattle.std.proofs.Common.{◌≡◌, ℕ, ◌+◌, ◌^◌, ◌≤◌, Bool, false, List, [], ◌∷◌, ◌++◌, length, Option, Some, None, Result}
use Rattle.std.proofs.Common.{Ok, Err, refl, sym, ap, ◌∙◌, subst, append-nil, lit≤, arith}
use Rattle.std.specs.Prelude.{IfSome, fold}
use Rattle.std.specs.Option.{option_map}
use Rattle.std.specs.List.{flat_map}
use Rattle.std.proofs.lemmas.List.Sums.{fold-append}
use Rattle.bgp_types.specs.declared.fault.Expected.{Expected}
use Rattle.bgp_types.specs.declared.message.Message.{Message}
use Rattle.bgp_types.specs.declared.message.Message.TheVariants.{OpenMsg, UpdateMsg, NoticeMsg, KeepaliveMsg}
use Rattle.bgp_types.specs.declared.message.Notice.{Notice}
use Rattle.bgp_types.specs.declared.message.SessionState.{SessionState}
use Rattle.bgp_types.specs.Faults.{fault_in}
use Rattle.bgp_types.specs.FirstFault.{message_of}
use Rattle.bgp_types.specs.Spelling.{spell}
use Rattle.bgp_types.specs.Writable.{IsWritable}
use Rattle.bgp_types.proofs.NoticeLaws.{fault_writable}
use Rattle.tcp_seq.specs.Endpoint.{Endpoint}
use Rattle.tcp_end.specs.State.{stream_length}
use Rattle.tcp_end.specs.Standing.{EndStands}
use Rattle.tcp_end.specs.Whole.{endpoint_of}
use Rattle.tcp_end.proofs.Steps.{stream_is}
use Rattle.bgp_story.specs.declared.line.Line.{Line}
use Rattle.bgp_story.specs.declared.line.Line.TheVariants.{Put, Got}
use Rattle.bgp_story.specs.Legal.{Peering, Allowed, count_round, got_open, hold, is_wide, reply_to, silence}
use Rattle.bgp_story.specs.Readings.{Routes, apply_if, put_bytes, put_in, got_bytes, unless_closed, update_in}
use Rattle.bgp_story.specs.States.{BeginsStory, answer_lines, state_of}
use Rattle.session_value.specs.Cases.{GetsFrame, put_by, sending}
use Rattle.session_value.specs.Cases as cases
use Rattle.session_value.specs.Sessions.{peering_of}
use Rattle.session_value.proofs.Gets as lines_got
use Rattle.session_value.proofs.GotTies.{gets_tied}
use Rattle.session_value.proofs.Rooms.{got_has_room, most_any}
use Rattle.bgp_session.specs.declared.parts.Opened.{Opened}
use Rattle.bgp_session.specs.declared.parts.Parts.{Parts}
use Rattle.bgp_session.specs.Inner.{AtFront, SessionInvariant, after_line, hold_of, opened_by, read_in_session, value_of}
use Rattle.bgp_session.proofs.Ends.{read_is, read_stands, sent_stands, with_read, with_sent}
use Rattle.bgp_session.proofs.Numbers.{numbers_then}
use Rattle.bgp_session.proofs.Opens.{hold_kept}

-- ---- answers

-- they are written alike in each width
pub alike : (wide : Bool) (r : Result Message Notice) → flat_map (put_in wide) (reply_to r).0 ≡ flat_map (put_in false) (reply_to r).0
unfolding spell
alike wide (Ok (OpenMsg _)) = refl
alike wide (Ok (UpdateMsg _)) = refl
alike wide (Ok (NoticeMsg _)) = refl
alike wide (Ok KeepaliveMsg) = refl
alike wide (Err n) = refl

pub keepalive_writable : IsWritable KeepaliveMsg false
unfolding spell
keepalive_writable = record { body = tt; size = lit≤ tt }

pub same_line : (m n : Message) → Put m ∷ [] ≡ Put n ∷ [] → m ≡ n
same_line m n e = cc

pub reply_writable : (e : Expected) (bytes : List ℕ) (r : Result Message Notice) (answer : Option Message) → message_of e bytes ≡ r
    → (reply_to r).0 ≡ answer_lines answer → IfSome answer (λ m. IsWritable m false)
reply_writable e bytes r None g f = tt
reply_writable e bytes (Ok (OpenMsg _)) (Some m) g f = subst (λ (x : Message). IsWritable x false) (same_line KeepaliveMsg m f) keepalive_writable
reply_writable e bytes (Ok (UpdateMsg _)) (Some m) g f = absurd cc
reply_writable e bytes (Ok (NoticeMsg _)) (Some m) g f = absurd cc
reply_writable e bytes (Ok KeepaliveMsg) (Some m) g f = absurd cc
reply_writable e bytes (Err n) (Some m) g f =
    subst (λ (x : Message). IsWritable x false) (same_line (NoticeMsg n) m f) (fault_writable bytes e n false (ap fault_in g))

-- no round passed since
reply_silent : (r : Result Message Notice) → fold count_round 0 (reply_to r).0 ≡ 0
reply_silent (Ok (OpenMsg _)) = refl
reply_silent (Ok (UpdateMsg _)) = refl
reply_silent (Ok (NoticeMsg _)) = refl
reply_silent (Ok KeepaliveMsg) = refl
reply_silent (Err n) = refl

-- none in it
reply_numbers : (n : ℕ) (r : Result Message Notice) → fold after_line n (reply_to r).0 ≡ n
reply_numbers n (Ok (OpenMsg _)) = refl
reply_numbers n (Ok (UpdateMsg _)) = refl
reply_numbers n (Ok (NoticeMsg _)) = refl
reply_numbers n (Ok KeepaliveMsg) = refl
reply_numbers n (Err _) = refl

-- ---- the parts after something was got and answered

abbrev pub gotten : Parts → List ℕ → List Line → Routes → Routes → Option Opened → ℕ → Parts
gotten parts bytes answer adj_rib_in adj_rib_out opened left = record parts {
  story = record parts.story { lines = parts.story.lines ++ Got bytes ∷ answer };
  adj_rib_in = adj_rib_in;
  adj_rib_out = adj_rib_out;
  end = with_read (with_sent parts.end (flat_map (put_in false) answer)) (length bytes);
  opened = opened;
  left = left;
}

module _ (parts : Parts) (bytes : List ℕ) (answer : List Line) (next : SessionState)
    (front : AtFront parts bytes) (reply : reply_to (read_in_session parts bytes) ≡ (answer, next)) where
  abbrev p : Peering
  p = peering_of parts.config

  abbrev lines : List Line
  lines = parts.story.lines

  abbrev lines' : List Line
  lines' = lines ++ Got bytes ∷ answer

  abbrev octets : List ℕ
  octets = flat_map (put_in false) answer

  abbrev allowed : Allowed p lines (state_of lines)
  allowed = front.keeps.tied.allowed

  answer_is : (reply_to (read_in_session parts bytes)).0 ≡ answer
  answer_is = ap (λ (x : List Line × SessionState). x.0) reply

  octets_are : put_by (value_of parts) lines' answer ≡ octets
  octets_are = ap (λ (xs : List Line). flat_map (put_in (is_wide p lines')) xs) (sym answer_is)
      ∙ (alike (is_wide p lines') (read_in_session parts bytes) ∙ ap (λ (xs : List Line). flat_map (put_in false) xs) answer_is)

  put_is : put_bytes p lines' ≡ put_bytes p lines ++ octets
  put_is = lines_got.put_then p lines bytes answer next front.unclosed front.got reply allowed ∙ ap (λ (xs : List ℕ). put_bytes p lines ++ xs) octets_are

  got_is : got_bytes lines' ≡ got_bytes lines ++ bytes
  got_is = lines_got.got_then p lines bytes answer next front.unclosed front.got reply allowed

  -- ---- what may be written down

  pub got_begins : BeginsStory parts.story.remote_as lines'
  got_begins = record {
    peering = p;
    remote = sym front.keeps.remote_as;
    rest = [];
    state = next;
    legal = subst (λ (xs : List Line). Allowed p xs next) (sym (append-nil lines'))
        (lines_got.legal_next p lines bytes answer next front.unclosed front.got reply (λ _ _. Unit {0}) allowed);
  }

  pub got_room : stream_length parts.end + length octets ≤ 2 ^ 20
  got_room =
      let room = got_has_room (value_of parts) bytes answer next front.keeps.tied front.unclosed reply in
      let most = most_any next in
      let size = ap (λ (xs : List ℕ). length xs) octets_are in
      let stream = stream_is parts.end (value_of parts).end front.keeps.stands in
      omega (arith, room, most, size, stream)

  -- ---- the endpoint

  sent : EndStands (with_sent parts.end octets) (endpoint_of (put_bytes p lines ++ octets) (got_bytes lines) (with_sent parts.end octets))
  sent = sent_stands parts.end (put_bytes p lines) (got_bytes lines) octets front.keeps.stands got_room

  end_stands : EndStands (with_read (with_sent parts.end octets) (length bytes))
      (endpoint_of (put_bytes p lines') (got_bytes lines') (with_read (with_sent parts.end octets) (length bytes)))
  end_stands = rw (put_is, got_is) (read_stands (with_sent parts.end octets) (put_bytes p lines ++ octets) (got_bytes lines) bytes front.rest sent front.front)

  end_is : endpoint_of (put_bytes p lines') (got_bytes lines') (with_read (with_sent parts.end octets) (length bytes))
      ≡ sending (put_by (value_of parts) lines' answer) (cases.having_read (length bytes) (value_of parts).end)
  end_is =
      ap (λ (xs : List ℕ). endpoint_of xs (got_bytes lines') (with_read (with_sent parts.end octets) (length bytes))) put_is
      ∙ (ap (λ (xs : List ℕ). endpoint_of (put_bytes p lines ++ octets) xs (with_read (with_sent parts.end octets) (length bytes))) got_is
      ∙ (read_is (with_sent parts.end octets) (put_bytes p lines ++ octets) (got_bytes lines) bytes front.rest sent front.front
      ∙ ap (λ (xs : List ℕ). sending xs (cases.having_read (length bytes) (value_of parts).end)) (sym octets_are)))

  module _ (adj_rib_in adj_rib_out : Routes) (opened : Option Opened) (left : ℕ)
      (hears : adj_rib_in ≡ unless_closed next (apply_if parts.adj_rib_in (update_in (read_in_session parts bytes))))
      (tells : adj_rib_out ≡ unless_closed next parts.adj_rib_out)
      (opens : opened ≡ option_map (opened_by p.first) (got_open p lines'))
      (lefts : left ≡ hold_of opened) where
    abbrev pub after : Parts
    after = gotten parts bytes answer adj_rib_in adj_rib_out opened left

    pub gets : GetsFrame (value_of parts) bytes (value_of after)
    gets = record {
      unclosed = front.unclosed;
      rest = front.rest;
      front = sym front.keeps.stands.ready ∙ front.front;
      got = front.got;
      answer = answer;
      next = next;
      reply = reply;
      effect =
          ap (λ (e : Endpoint). record (value_of parts) { story = lines'; adj_rib_in = adj_rib_in; adj_rib_out = adj_rib_out; end = e }) end_is
          ∙ (ap (λ (x : Routes). record (value_of parts) {
            story = lines';
            adj_rib_in = x;
            adj_rib_out = adj_rib_out;
            end = sending (put_by (value_of parts) lines' answer) (cases.having_read (length bytes) (value_of parts).end);
          }) hears
          ∙ ap (λ (x : Routes). record (value_of parts) {
            story = lines';
            adj_rib_in = unless_closed next (apply_if parts.adj_rib_in (update_in (read_in_session parts bytes)));
            adj_rib_out = x;
            end = sending (put_by (value_of parts) lines' answer) (cases.having_read (length bytes) (value_of parts).end);
          }) tells);
    }

    silent : silence lines' ≡ 0
    silent = fold-append count_round 0 lines (Got bytes ∷ answer)
        ∙ (ap (λ (xs : List Line). fold count_round 0 xs) (sym answer_is) ∙ reply_silent (read_in_session parts bytes))

    hold_is : hold_of opened ≡ hold p lines'
    hold_is = ap hold_of opens ∙ hold_kept p.first (got_open p lines')

    pub keeps : SessionInvariant after
    keeps = record {
      stands = end_stands;
      tied = gets_tied (value_of parts) (value_of after) bytes gets front.keeps.tied;
      peering = front.keeps.peering;
      way = front.keeps.way;
      send_first = front.keeps.send_first;
      receive_first = front.keeps.receive_first;
      send_fits = front.keeps.send_fits;
      receive_fits = front.keeps.receive_fits;
      remote_as = front.keeps.remote_as;
      opened = opens;
      left = omega (arith, lefts, hold_is, silent);
      next_round = front.keeps.next_round
          ∙ sym (numbers_then lines (Got bytes) answer
          (λ n. ap (λ (xs : List Line). fold after_line n xs) (sym answer_is) ∙ reply_numbers n (read_in_session parts bytes)));
    }

-- ---- by the answer

pub reply_of : (parts : Parts) (bytes : List ℕ) (answer : Option Message) → (reply_to (read_in_session parts bytes)).0 ≡ answer_lines answer
    → reply_to (read_in_session parts bytes) ≡ (answer_lines answer, (reply_to (read_in_session parts bytes)).1)
reply_of parts bytes answer e = ap (λ (x : List Line). let r : List Line × SessionState = (x, (reply_to (read_in_session parts bytes)).1) in r) e
