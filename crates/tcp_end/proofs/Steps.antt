-- What stands for an endpoint after a call that sends, emits or reads.
use Rattle.std.proofs.Common.{◌≡◌, ℕ, ◌+◌, ◌-◌, ◌^◌, ◌<◌, ◌≤◌, List, ◌++◌, length, take, drop, Bool}
use Rattle.std.proofs.Common.{true, false, refl, sym, ap, subst, ◌∙◌, arith, length-append}
use Rattle.std.specs.Prelude.{Some, None}
use Rattle.std.proofs.lemmas.List.{drop-append-le, drop-drop, length-drop}
use Rattle.tcp_seq.specs.Numbers.{plus, number}
use Rattle.tcp_seq.specs.Endpoint.{Endpoint, SendsBytes, EmitsNext, EmitsAgain, EmitsAnswer, ReadsBytes, received, received_bytes, slice_at}
use Rattle.tcp_seq.specs.Endpoint.{next_length as next_length_of, again_length as again_length_of}
use Rattle.tcp_seq.specs.declared.segment.Segment.{Segment}
use Rattle.tcp_seq.specs.declared.state.EndState.{EndState}
use Rattle.tcp_end.specs.State.{IsSending, stream_length, got, segment_at, end_next_length, end_again_length, LieFrom}
use Rattle.tcp_end.specs.Standing.{EndStands, Numbered, SameNumbers, Becomes, BecomesEmitting, StepsBy, EndEmitsBy}

-- the stream's length
pub stream_is : (s : EndState) (e : Endpoint) → EndStands s e → length e.stream ≡ stream_length s
stream_is s e stands = omega (arith, stands.acked_within, stands.acked, ap length stands.waiting, length-drop e.acked e.stream)

-- the received length
pub received_is : (s : EndState) (e : Endpoint) → EndStands s e → received e ≡ got s
received_is s e stands = omega (arith, stands.read_within, stands.read, ap (λ (xs : List ℕ). length xs) stands.ready, length-drop e.read (received_bytes e))

-- more bytes are sent
pub sends : (s after : EndState) (bytes : List ℕ) → stream_length s + length bytes ≤ 2 ^ 20 → after ≡ record s { waiting = s.waiting ++ bytes }
    → (e : Endpoint) → EndStands s e → Becomes (λ e' e''. SendsBytes e' bytes e'') e after
sends s after bytes fits is e stands =
    let n : length e.stream ≡ stream_length s = stream_is s e stands in
    let m : length (s.waiting ++ bytes) ≡ length s.waiting + length bytes = length-append s.waiting bytes in
    record {
      end = record e { stream = e.stream ++ bytes };
      step = record { fits = omega (arith, n, fits); sent = refl };
      stands = rw is (record {
        sound = record {
          sending = record {
            acked = stands.sound.sending.acked;
            flight = stands.sound.sending.flight;
            emitted = omega (arith, m, stands.sound.sending.emitted);
            stream = omega (arith, m, fits);
            at_turn = stands.sound.sending.at_turn;
          };
          received = stands.sound.received;
          ahead = stands.sound.ahead;
        };
        acked = stands.acked;
        emitted = stands.emitted;
        read = stands.read;
        owed = stands.owed;
        acked_within = omega (arith, length-append e.stream bytes, stands.acked_within);
        waiting = ap (λ (xs : List ℕ). xs ++ bytes) stands.waiting ∙ sym (drop-append-le e.acked e.stream bytes stands.acked_within);
        read_within = stands.read_within;
        ready = stands.ready;
        ahead = stands.ahead;
        in_stream = stands.in_stream;
      });
    }

-- the segment that is emitted stands for the slice of the stream
pub slice_is : (s : EndState) (e : Endpoint) (offset len : ℕ) → EndStands s e → s.acked ≤ offset
    → Numbered s.send_first.0 s.receive_first.0 (segment_at s offset len) (slice_at e offset len)
slice_is s e offset len stands from =
    let at : e.acked + (offset - s.acked) ≡ offset = omega (arith, from, stands.acked) in
    record {
      seq = refl;
      ack = ap (number s.receive_first.0) (sym (received_is s e stands));
      bytes = ap (λ (xs : List ℕ). take len (drop (offset - s.acked) xs)) stands.waiting
          ∙ ap (take len) (drop-drop (offset - s.acked) e.acked e.stream ∙ ap (λ (n : ℕ). drop n e.stream) at);
    }

-- a segment at the state's own equation
pub slice_at_is : (s : EndState) (g : Segment) (e : Endpoint) (offset offset' len len' : ℕ) → g ≡ segment_at s offset len → offset ≡ offset' → len ≡ len'
    → EndStands s e → s.acked ≤ offset → Numbered s.send_first.0 s.receive_first.0 g (slice_at e offset' len')
slice_at_is s g e offset offset' len len' is offsets lens stands from =
    subst (λ (n : ℕ). Numbered s.send_first.0 s.receive_first.0 g (slice_at e offset' n)) lens
    (subst (λ (n : ℕ). Numbered s.send_first.0 s.receive_first.0 g (slice_at e n len)) offsets
    (rw is (slice_is s e offset len stands from)))

pub next_length_is : (s : EndState) (e : Endpoint) → EndStands s e → next_length_of e ≡ end_next_length s
next_length_is s e stands = omega (arith, stream_is s e stands, stands.acked, stands.emitted, stands.sound.sending.acked, stands.sound.sending.flight)

pub again_length_is : (s : EndState) (e : Endpoint) → EndStands s e → again_length_of e ≡ end_again_length s
again_length_is s e stands = omega (arith, stands.acked, stands.emitted)

-- the next slice is emitted
pub emits_next : (s after : EndState) (g : Segment) → 0 < end_next_length s → g ≡ segment_at s s.sent (end_next_length s)
    → after ≡ record s { sent = s.sent + end_next_length s }
    → (e : Endpoint) → EndStands s e → BecomesEmitting EmitsNext s e g after
emits_next s after g some slice is e stands =
    let n : next_length_of e ≡ end_next_length s = next_length_is s e stands in
    let sending : IsSending s = stands.sound.sending in
    record {
      segment = slice_at e e.emitted (next_length_of e);
      end = record e { emitted = e.emitted + next_length_of e };
      step = record { some = omega (arith, n, some); slice = refl; rises = refl };
      numbered = slice_at_is s g e s.sent e.emitted (end_next_length s) (next_length_of e) slice (sym stands.emitted) (sym n) stands sending.acked;
      stands = rw is (record {
        sound = record {
          sending = record {
            acked = omega (arith, sending.acked);
            flight = omega (arith, sending.flight, sending.acked);
            emitted = omega (arith, sending.emitted);
            stream = sending.stream;
            at_turn = sending.at_turn;
          };
          received = stands.sound.received;
          ahead = stands.sound.ahead;
        };
        acked = stands.acked;
        emitted = omega (arith, stands.emitted, n);
        read = stands.read;
        owed = stands.owed;
        acked_within = stands.acked_within;
        waiting = stands.waiting;
        read_within = stands.read_within;
        ready = stands.ready;
        ahead = stands.ahead;
        in_stream = stands.in_stream;
      });
    }

-- what is owed changes, or what was acknowledged at the last turn
stands_owing : (s : EndState) (e : Endpoint) (owed : Bool) (at_turn : ℕ) → at_turn ≤ s.acked → EndStands s e
    → EndStands (record s { owed = owed; acked_at_turn = at_turn }) (record e { owed = owed })
stands_owing s e owed at_turn within stands = record {
  sound = record {
    sending = record {
      acked = stands.sound.sending.acked;
      flight = stands.sound.sending.flight;
      emitted = stands.sound.sending.emitted;
      stream = stands.sound.sending.stream;
      at_turn = within;
    };
    received = stands.sound.received;
    ahead = stands.sound.ahead;
  };
  acked = stands.acked;
  emitted = stands.emitted;
  read = stands.read;
  owed = refl;
  acked_within = stands.acked_within;
  waiting = stands.waiting;
  read_within = stands.read_within;
  ready = stands.ready;
  ahead = stands.ahead;
  in_stream = stands.in_stream;
}

-- a turn leaves what the state stands for
turned : (s after : EndState) → after ≡ record s { acked_at_turn = s.acked } → (e : Endpoint) → EndStands s e → EndStands after e
turned s after is e stands =
    rw is (subst (λ (b : Bool). EndStands (record s { acked_at_turn = s.acked }) (record e { owed = b })) (sym stands.owed)
    (stands_owing s e s.owed s.acked (omega arith) stands))

-- the first outstanding slice is emitted again
pub emits_again : (s after : EndState) (g : Segment) → 0 < end_again_length s → g ≡ segment_at s s.acked (end_again_length s)
    → after ≡ record s { acked_at_turn = s.acked }
    → (e : Endpoint) → EndStands s e → BecomesEmitting EmitsAgain s e g after
emits_again s after g some slice is e stands =
    let n : again_length_of e ≡ end_again_length s = again_length_is s e stands in
    record {
      segment = slice_at e e.acked (again_length_of e);
      end = e;
      step = record { some = omega (arith, n, some); slice = refl; stays = refl };
      numbered = slice_at_is s g e s.acked e.acked (end_again_length s) (again_length_of e) slice (sym stands.acked) (sym n) stands (omega arith);
      stands = turned s after is e stands;
    }

-- what is owed changes
pub owes : (s after : EndState) (owed : Bool) → after ≡ record s { owed = owed } → (e : Endpoint) → EndStands s e → EndStands after (record e { owed = owed })
owes s after owed is e stands = rw is (stands_owing s e owed s.acked_at_turn stands.sound.sending.at_turn stands)

-- the owed answer is given
pub answers : (s after : EndState) (g : Segment) → s.owed ≡ true → g ≡ segment_at s s.sent 0 → after ≡ record s { owed = false }
    → (e : Endpoint) → EndStands s e → BecomesEmitting EmitsAnswer s e g after
answers s after g owed empty is e stands = record {
  segment = slice_at e e.emitted 0;
  end = record e { owed = false };
  step = record { owed = stands.owed ∙ owed; answer = record { empty = refl; given = refl } };
  numbered = slice_at_is s g e s.sent e.emitted 0 0 empty (sym stands.emitted) refl stands stands.sound.sending.acked;
  stands = owes s after false is e stands;
}

-- ready bytes are read
reads : (s after : EndState) (n : ℕ) → n ≤ length s.ready → after ≡ record s { taken = plus s.taken n; ready = drop n s.ready }
    → (e : Endpoint) → EndStands s e → Becomes (λ e' e''. ReadsBytes e' n e'') e after
reads s after n within is e stands =
    let all : received e ≡ got s = received_is s e stands in
    let moved : plus s.taken n ≡ s.taken + n = omega (arith, within, stands.sound.received) in
    let left : length (drop n s.ready) ≡ length s.ready - n = length-drop n s.ready in
    let same : plus s.taken n + length (drop n s.ready) ≡ got s = omega (arith, moved, left, within) in
    record {
      end = record e { read = e.read + n };
      step = record { there = omega (arith, stands.read, all, within); read = refl };
      stands = rw is (record {
        sound = record {
          sending = record {
            acked = stands.sound.sending.acked;
            flight = stands.sound.sending.flight;
            emitted = stands.sound.sending.emitted;
            stream = stands.sound.sending.stream;
            at_turn = stands.sound.sending.at_turn;
          };
          received = omega (arith, same, stands.sound.received);
          ahead = subst (λ (g : ℕ). LieFrom (g + 1) (g + 16384) s.ahead) (sym same) stands.sound.ahead;
        };
        acked = stands.acked;
        emitted = stands.emitted;
        read = omega (arith, stands.read, moved);
        owed = stands.owed;
        acked_within = stands.acked_within;
        waiting = stands.waiting;
        read_within = omega (arith, stands.read, all, within);
        ready = ap (drop n) stands.ready ∙ drop-drop n e.read (received_bytes e);
        ahead = stands.ahead;
        in_stream = stands.in_stream;
      });
    }

-- The same of the calls

-- the numbers of the first bytes stay where other fields change
pub same_numbers : (s t after : EndState) → t.send_first ≡ s.send_first → t.receive_first ≡ s.receive_first → after ≡ t → SameNumbers s after
same_numbers s t after sends receives is =
    record { send_first = ap (λ (r : EndState). r.send_first) is ∙ sends; receive_first = ap (λ (r : EndState). r.receive_first) is ∙ receives }

pub sends_by : (s after : EndState) (bytes : List ℕ) → stream_length s + length bytes ≤ 2 ^ 20 → after ≡ record s { waiting = s.waiting ++ bytes }
    → StepsBy (λ e e'. SendsBytes e bytes e') s after
sends_by s after bytes fits is =
    record { numbers = same_numbers s (record s { waiting = s.waiting ++ bytes }) after refl refl is; becomes = sends s after bytes fits is }

pub reads_by : (s after : EndState) (n : ℕ) → n ≤ length s.ready → after ≡ record s { taken = plus s.taken n; ready = drop n s.ready }
    → StepsBy (λ e e'. ReadsBytes e n e') s after
reads_by s after n within is = record {
  numbers = same_numbers s (record s { taken = plus s.taken n; ready = drop n s.ready }) after refl refl is;
  becomes = reads s after n within is;
}

pub emits_next_by : (s after : EndState) (g : Segment) → 0 < end_next_length s → g ≡ segment_at s s.sent (end_next_length s)
    → after ≡ record s { sent = s.sent + end_next_length s } → EndEmitsBy EmitsNext s (Some g) after
emits_next_by s after g some slice is =
    record { numbers = same_numbers s (record s { sent = s.sent + end_next_length s }) after refl refl is; becomes = emits_next s after g some slice is }

pub emits_again_by : (s after : EndState) (g : Segment) → 0 < end_again_length s → g ≡ segment_at s s.acked (end_again_length s)
    → after ≡ record s { acked_at_turn = s.acked } → EndEmitsBy EmitsAgain s (Some g) after
emits_again_by s after g some slice is =
    record { numbers = same_numbers s (record s { acked_at_turn = s.acked }) after refl refl is; becomes = emits_again s after g some slice is }

pub answers_by : (s after : EndState) (g : Segment) → s.owed ≡ true → g ≡ segment_at s s.sent 0 → after ≡ record s { owed = false }
    → EndEmitsBy EmitsAnswer s (Some g) after
answers_by s after g owed empty is =
    record { numbers = same_numbers s (record s { owed = false }) after refl refl is; becomes = answers s after g owed empty is }

-- with no segment
pub turned_by : (s after : EndState) → after ≡ record s { acked_at_turn = s.acked } → EndEmitsBy EmitsAgain s None after
turned_by s after is = record { numbers = same_numbers s (record s { acked_at_turn = s.acked }) after refl refl is; becomes = turned s after is }

-- where nothing was acknowledged since the last turn, a turn changes nothing
pub same_turn : (s : EndState) → IsSending s → s.acked ≤ s.acked_at_turn → s ≡ record s { acked_at_turn = s.acked }
same_turn s sending late = ap (λ (n : ℕ). let t : EndState = record s { acked_at_turn = n } in t)
    (let e : s.acked_at_turn ≡ s.acked = omega (arith, sending.at_turn, late) in e)
