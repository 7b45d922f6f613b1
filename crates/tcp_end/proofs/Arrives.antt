-- What a state stands for after a segment arrived.
use Rattle.std.proofs.Common.{◌≡◌, ℕ, ◌+◌, ◌-◌, ◌^◌, ◌%◌, ◌<◌, ◌≤◌, max, List, ◌++◌, length, drop, Bool, true, false}
use Rattle.std.proofs.Common.{Option, None, Some, refl, sym, ap, subst, ◌∙◌, arith, ◌⊎◌, inl, inr, length-append}
use Rattle.std.specs.Prelude.{IsSome, nat_lt, nat_le, ◌||◌, ◌&&◌, if◌then◌else◌, Result, Ok, Err, IfOk, OnOk}
use Rattle.std.specs.List.{slice_get}
use Rattle.std.specs.Option.{option_or}
use Rattle.std.specs.FinMap as map
use Rattle.std.proofs.lemmas.Bool.{cases_lt, lt-ltb, le-ltb, le-leb}
use Rattle.std.proofs.lemmas.List.{drop-drop, drop-append-le}
use Rattle.std.proofs.lemmas.Option.{slice_get-get_or}
use Rattle.tcp_seq.specs.Numbers.{offset_from, number}
use Rattle.tcp_seq.specs.Rules.{Acceptable, AcceptableOffset, IsAck, IsInStream}
use Rattle.tcp_seq.specs.declared.rules.AckKind.TheVariants.{New, Beyond}
use Rattle.tcp_seq.specs.Endpoint.{Endpoint, PlacedSegment, received, received_bytes, bytes_in_order, byte_from}
use Rattle.tcp_seq.specs.Endpoint.{byte_brought, TakesSegment, IsAcceptable, IsBeyond, IsInStreams}
use Rattle.tcp_seq.specs.declared.segment.Segment.{Segment}
use Rattle.tcp_seq.specs.declared.state.EndState.{EndState}
use Rattle.tcp_seq.proofs.Lookups.{get-append_left, get-append_right}
use Rattle.tcp_seq.proofs.ByteFrom.{byte_past}
use Rattle.tcp_seq.proofs.Received.{byte_in_order, some_in_order, some_none, bytes_are}
use Rattle.tcp_seq.proofs.Arriving.{accepted, get-accepted}
use Rattle.tcp_reasm.specs.Runs.{held}
use Rattle.tcp_reasm.specs.Reassembly.{byte_ahead, brought}
use Rattle.tcp_end.specs.State.{IsEndState, IsSending, expected, got, own_number, counted_from}
use Rattle.tcp_end.specs.Receiving.{byte_then, Receives}
use Rattle.tcp_end.specs.Arriving.{ahead_of, TakesByNumbers, newly_acked, IsAcceptableTo, SaysAck, BringsNewByte, IsArrival, ChangesByArrival}
use Rattle.tcp_end.specs.Standing.{EndStands, Numbered, SameNumbers, Becomes, TakesBy}
use Rattle.tcp_end.specs.declared.arrival.Arrival.{Arrival}
use Rattle.tcp_end.specs.declared.arrival.Arrival.TheVariants.{Outside, Ahead, Duplicate, Accepted}
use Rattle.graft_edge.specs.declared.memory.NoMemory.{NoMemory}
use Rattle.tcp_end.proofs.Steps.{owes, stream_is, received_is}
use Rattle.tcp_end.proofs.Offsets.{brought_offset, held_from, acceptable_offset, offset_acceptable, beyond_offset, offset_beyond, newly_offset, new_offset}

-- the byte that a placed segment brings to an offset below the window's end
abbrev pub brought_to : EndState → PlacedSegment → ℕ → Option ℕ
brought_to s p k = if nat_lt k (got s + 16384) then byte_from p.offset p.bytes k else None

abbrev pub with_ : EndState → PlacedSegment → ℕ → Option ℕ
with_ s p k = option_or (held s.ahead k) (brought_to s p k)

-- what is received, by offsets
record Hears (s after : EndState) (p : PlacedSegment) (given : List ℕ) : Type 0 where
  received : got after ≡ got s + length given
  ready : after.ready ≡ s.ready ++ given
  each : (k : ℕ) → k < length given → with_ s p (got s + k) ≡ slice_get given k
  ends : with_ s p (got s + length given) ≡ None
  ahead : (k : ℕ) → held after.ahead (got after + k) ≡ with_ s p (got s + (length given + k))

-- the byte at an offset, from the one that numbers give
pub byte_then_is : (s : EndState) (g : Segment) (p : PlacedSegment) (k : ℕ) → IsEndState s → Numbered s.receive_first.0 s.send_first.0 g p
    → p.offset < 2 ^ 30 → length p.bytes < 2 ^ 16
    → byte_then (ahead_of s) g.seq.0 g.bytes k ≡ with_ s p (got s + k)
byte_then_is s g p k rests numbered fits short =
    let small : got s % 2 ^ 32 ≡ got s = omega (arith, rests.received) in
    let old : held (counted_from (got s % 2 ^ 32) s.ahead) k ≡ held s.ahead (got s + k) =
    ap (λ (n : ℕ). held (counted_from n s.ahead) k) small
    ∙ held_from (got s) (got s + 1) (got s + 16384) s.ahead k (omega arith) (omega (arith, rests.received)) rests.ahead in
    let new : brought (expected s) g.seq.0 g.bytes k ≡ (if nat_lt k 16384 then byte_from p.offset p.bytes (got s + k) else None) =
    ap (λ (n : ℕ). brought (expected s) n g.bytes k) numbered.seq
    ∙ ap (λ (xs : List ℕ). brought (expected s) (number s.receive_first.0 p.offset) xs k) numbered.bytes
    ∙ brought_offset s.receive_first.0 (got s) p.offset p.bytes k (omega (arith, rests.received)) fits short in
    let window : nat_lt k 16384 ≡ nat_lt (got s + k) (got s + 16384) = elim (cases_lt k 16384) [
      | inl below ↦ lt-ltb k 16384 below ∙ sym (lt-ltb (got s + k) (got s + 16384) (omega (arith, below)))
      | inr past ↦ le-ltb k 16384 past ∙ sym (le-ltb (got s + k) (got s + 16384) (omega (arith, past)))
    ] in
    ap (λ o. option_or o (brought (expected s) g.seq.0 g.bytes k)) old
    ∙ ap (option_or (held s.ahead (got s + k))) (new ∙ ap (λ (b : Bool). if b then byte_from p.offset p.bytes (got s + k) else None) window)

hears : (s after : EndState) (g : Segment) (p : PlacedSegment) → IsEndState s → IsEndState after → Numbered s.receive_first.0 s.send_first.0 g p
    → p.offset < 2 ^ 30 → length p.bytes < 2 ^ 16 → after.taken ≡ s.taken
    → (r : Receives (ahead_of s) (ahead_of after) s.ready after.ready g.seq.0 g.bytes) → Hears s after p r.given
hears s after g p rests rests_after numbered fits short same r =
    let n : length after.ready ≡ length s.ready + length r.given = ap length r.appended ∙ length-append s.ready r.given in
    let small : got after % 2 ^ 32 ≡ got after = omega (arith, rests_after.received) in
    record {
      received = omega (arith, n, same);
      ready = r.appended;
      each = λ k below. sym (byte_then_is s g p k rests numbered fits short) ∙ r.each k below;
      ends = sym (byte_then_is s g p (length r.given) rests numbered fits short) ∙ r.ends;
      ahead = λ k. sym (held_from (got after) (got after + 1) (got after + 16384) after.ahead k
          (omega arith) (omega (arith, rests_after.received)) rests_after.ahead)
          ∙ sym (ap (λ (m : ℕ). held (counted_from m after.ahead) k) small) ∙ r.ahead k ∙ byte_then_is s g p (length r.given + k) rests numbered fits short;
    }

-- The offsets that have a byte then

-- the byte that a segment brings, for the endpoint and for the state
pub brought_is : (s : EndState) (e : Endpoint) (p : PlacedSegment) (k : ℕ) → received e ≡ got s → got s ≤ k → byte_brought e p k ≡ brought_to s p k
brought_is s e p k all from =
    ap (λ (b : Bool). if b && nat_lt k (received e + 16384) then byte_from p.offset p.bytes k else None) (le-leb (received e) k (omega (arith, all, from)))
    ∙ ap (λ (n : ℕ). if nat_lt k (n + 16384) then byte_from p.offset p.bytes k else None) all

accepted_from : (s : EndState) (e : Endpoint) (p : PlacedSegment) (k : ℕ) → EndStands s e → got s ≤ k → map.get (accepted e p) k ≡ with_ s p k
accepted_from s e p k stands from =
    let all : received e ≡ got s = received_is s e stands in
    get-accepted e p k ∙ ap (λ (o : Option ℕ). option_or o (byte_brought e p k)) (stands.ahead k (omega (arith, all, from)))
    ∙ ap (option_or (held s.ahead k)) (brought_is s e p k all from)

stays_some : (o more : Option ℕ) → IsSome o → option_or o more ≡ o
stays_some None more some = let e : false ≡ true = some in cc
stays_some (Some x) more some = refl

accepted_below : (s : EndState) (e : Endpoint) (p : PlacedSegment) (k : ℕ) → EndStands s e → k < received e
    → map.get (accepted e p) k ≡ slice_get (received_bytes e) k
accepted_below s e p k stands below =
    get-accepted e p k ∙ stays_some (map.get e.arrived k) (byte_brought e p k) (some_in_order e.arrived k below) ∙ sym (byte_in_order e.arrived k below)

-- No byte stands past the streams
brought_in : (b : Bool) (p : PlacedSegment) (k : ℕ) → IsInStreams p → IsSome (if b then byte_from p.offset p.bytes k else None) → IsInStream (k + 1)
brought_in true p k streams some = elim (cases_lt k (p.offset + length p.bytes)) [
  | inl below ↦ omega (arith, below, streams.end)
  | inr past ↦ absurd (some_none (byte_from p.offset p.bytes k) some (byte_past p.offset p.bytes k past))
]
brought_in false p k streams some = let e : false ≡ true = some in cc

either_in : (o more : Option ℕ) (k : ℕ) → (IsSome o → IsInStream (k + 1)) → (IsSome more → IsInStream (k + 1)) → IsSome (option_or o more) → IsInStream (k + 1)
either_in None more k first second some = second some
either_in (Some x) more k first second some = first some

accepted_in : (s : EndState) (e : Endpoint) (p : PlacedSegment) (k : ℕ) → EndStands s e → IsInStreams p → IsSome (map.get (accepted e p) k) → IsInStream (k + 1)
accepted_in s e p k stands streams some =
    either_in (map.get e.arrived k) (byte_brought e p k) k (stands.in_stream k)
    (brought_in (nat_le (received e) k && nat_lt k (received e + 16384)) p k streams)
    (subst (λ (o : Option ℕ). IsSome o) (get-accepted e p k) some)

-- so not more is received than they have
given_in : (s : EndState) (e : Endpoint) (p : PlacedSegment) (given : List ℕ) → EndStands s e → IsInStreams p
    → ((k : ℕ) → k < length given → with_ s p (got s + k) ≡ slice_get given k) → IsInStream (got s + length given)
given_in s e p given stands streams each = elim (cases_lt 0 (length given)) [
  | inl some ↦
      let last = length given - 1 in
      let below : last < length given = omega (arith, some) in
      let in_stream : IsInStream (got s + last + 1) = accepted_in s e p (got s + last) stands streams
      (subst (λ (o : Option ℕ). IsSome o)
      (sym (accepted_from s e p (got s + last) stands (omega arith) ∙ each last below ∙ slice_get-get_or given last 0 below)) refl) in
      omega (arith, in_stream, some)
  | inr none ↦ omega (arith, none, stands.sound.received)
]

-- the bytes that are received then
received_then : (s after : EndState) (e : Endpoint) (p : PlacedSegment) (given : List ℕ) → EndStands s e → Hears s after p given
    → bytes_in_order (accepted e p) ≡ received_bytes e ++ given
received_then s after e p given stands h =
    let all : received e ≡ got s = received_is s e stands in
    let n : length (received_bytes e ++ given) ≡ got s + length given = omega (arith, length-append (received_bytes e) given, all) in
    bytes_are (accepted e p) (received_bytes e ++ given)
    (λ k below. elim (cases_lt k (received e)) [
      | inl early ↦ get-append_left (received_bytes e) given k early ∙ sym (accepted_below s e p k stands early)
      | inr late ↦
          let j = k - got s in
          let at : got s + j ≡ k = omega (arith, late, all) in
          let inside : j < length given = omega (arith, at, below, n) in
          get-append_right (received_bytes e) given k j (omega (arith, at, all)) ∙ sym (h.each j inside) ∙ ap (with_ s p) at
          ∙ sym (accepted_from s e p k stands (omega (arith, late, all)))
    ])
    (ap (map.get (accepted e p)) n ∙ accepted_from s e p (got s + length given) stands (omega arith) ∙ h.ends)

-- The tests of numbers and of offsets
pub acceptable_to : (s : EndState) (e : Endpoint) (g : Segment) (p : PlacedSegment) → EndStands s e → Numbered s.receive_first.0 s.send_first.0 g p
    → IsInStreams p → length g.bytes < 2 ^ 16 → IsAcceptable e p → IsAcceptableTo s g
acceptable_to s e g p stands numbered streams short is =
    let n : length g.bytes ≡ length p.bytes = ap length numbered.bytes in
    let by_number : Acceptable (number s.receive_first.0 (got s)) 16384 (number s.receive_first.0 p.offset) (length p.bytes) =
    offset_acceptable s.receive_first.0 (got s) p.offset (length p.bytes)
    (omega (arith, stands.sound.received)) (omega (arith, streams.end)) (omega (arith, n, short))
    (subst (λ (m : ℕ). AcceptableOffset m 16384 p.offset (length p.bytes)) (received_is s e stands) is) in
    subst (λ (m : ℕ). Acceptable (expected s) 16384 m (length g.bytes)) (sym numbered.seq)
    (subst (λ (m : ℕ). Acceptable (expected s) 16384 (number s.receive_first.0 p.offset) m) (sym n) by_number)

pub acceptable_for : (s : EndState) (e : Endpoint) (g : Segment) (p : PlacedSegment) → EndStands s e → Numbered s.receive_first.0 s.send_first.0 g p
    → IsInStreams p → length g.bytes < 2 ^ 16 → IsAcceptableTo s g → IsAcceptable e p
acceptable_for s e g p stands numbered streams short is =
    let n : length g.bytes ≡ length p.bytes = ap length numbered.bytes in
    let by_number : Acceptable (number s.receive_first.0 (got s)) 16384 (number s.receive_first.0 p.offset) (length p.bytes) =
    subst (λ (m : ℕ). Acceptable (expected s) 16384 m (length p.bytes)) numbered.seq (subst (λ (m : ℕ). Acceptable (expected s) 16384 g.seq.0 m) n is) in
    subst (λ (m : ℕ). AcceptableOffset m 16384 p.offset (length p.bytes)) (sym (received_is s e stands))
    (acceptable_offset s.receive_first.0 (got s) p.offset (length p.bytes)
    (omega (arith, stands.sound.received)) (omega (arith, streams.end)) (omega (arith, n, short)) by_number)

emitted_small : (s : EndState) → IsSending s → s.sent < 2 ^ 30
emitted_small s sending = omega (arith, sending.emitted, sending.stream)

ack_small : (p : PlacedSegment) → IsInStreams p → p.ack < 2 ^ 30
ack_small p streams = omega (arith, streams.ack)

pub beyond_for : (s : EndState) (e : Endpoint) (g : Segment) (p : PlacedSegment) → EndStands s e → Numbered s.receive_first.0 s.send_first.0 g p
    → IsInStreams p → SaysAck Beyond s g → IsBeyond e p
beyond_for s e g p stands numbered streams is =
    let past : s.sent < p.ack =
    beyond_offset s.send_first.0 s.acked s.sent p.ack stands.sound.sending.acked (emitted_small s stands.sound.sending) (ack_small p streams)
    (subst (λ (m : ℕ). IsAck Beyond (own_number s s.acked) (own_number s s.sent) m) numbered.ack is) in
    omega (arith, past, stands.emitted)

pub beyond_to : (s : EndState) (e : Endpoint) (g : Segment) (p : PlacedSegment) → EndStands s e → Numbered s.receive_first.0 s.send_first.0 g p
    → IsInStreams p → IsBeyond e p → SaysAck Beyond s g
beyond_to s e g p stands numbered streams is =
    subst (λ (m : ℕ). IsAck Beyond (own_number s s.acked) (own_number s s.sent) m) (sym numbered.ack)
    (offset_beyond s.send_first.0 s.acked s.sent p.ack stands.sound.sending.acked
    (emitted_small s stands.sound.sending) (ack_small p streams) (omega (arith, is, stands.emitted)))

pub within_sent : (s : EndState) (e : Endpoint) (g : Segment) (p : PlacedSegment) → EndStands s e → Numbered s.receive_first.0 s.send_first.0 g p
    → IsInStreams p → ¬ SaysAck Beyond s g → p.ack ≤ s.sent
within_sent s e g p stands numbered streams none = elim (cases_lt s.sent p.ack) [
  | inl past ↦ absurd (none (beyond_to s e g p stands numbered streams (omega (arith, past, stands.emitted))))
  | inr within ↦ within
]

-- an owed answer
owed_is : (s : EndState) (e : Endpoint) (g : Segment) (p : PlacedSegment) → EndStands s e → g.bytes ≡ p.bytes
    → (e.owed || nat_lt 0 (length p.bytes)) ≡ (s.owed || nat_lt 0 (length g.bytes))
owed_is s e g p stands same = ap (λ (b : Bool). b || nat_lt 0 (length p.bytes)) stands.owed ∙ ap (λ (xs : List ℕ). s.owed || nat_lt 0 (length xs)) (sym same)

-- a segment that is dropped
dropped : (s after : EndState) (e : Endpoint) (p : PlacedSegment) → EndStands s e → (¬ IsAcceptable e p) ⊎ IsBeyond e p
    → after ≡ record s { owed = true } → Becomes (λ e' e''. TakesSegment e' p e'') e after
dropped s after e p stands cause is = record {
  end = record e { owed = true };
  step = inl (record { cause = cause; stays = refl });
  stands = owes s after true is e stands;
}

some_or_none : (o : Option ℕ) → IsSome o ⊎ (o ≡ None)
some_or_none None = inr refl
some_or_none (Some x) = inl refl

none_right : (o : Option ℕ) → o ≡ option_or o None
none_right None = refl
none_right (Some x) = refl

right_some : (a b : Option ℕ) → IsSome b → IsSome (option_or a b)
right_some None b some = some
right_some (Some x) b some = refl

-- Where nothing new is brought, each offset has what it had
pub nothing_new : (s : EndState) (e : Endpoint) (g : Segment) (p : PlacedSegment) (k : ℕ) → EndStands s e
    → Numbered s.receive_first.0 s.send_first.0 g p → IsInStreams p → length g.bytes < 2 ^ 16 → ¬ BringsNewByte s g → map.get e.arrived k ≡ None
    → byte_brought e p k ≡ None
nothing_new s e g p k stands numbered streams short none empty =
    let all : received e ≡ got s = received_is s e stands in
    let from : got s ≤ k = elim (cases_lt k (received e)) [
      | inl below ↦ absurd (some_none (map.get e.arrived k) (some_in_order e.arrived k below) empty)
      | inr from ↦ omega (arith, from, all)
    ] in
    let j = k - got s in
    let at : got s + j ≡ k = omega (arith, from) in
    let n : length g.bytes ≡ length p.bytes = ap length numbered.bytes in
    let no_piece : held s.ahead k ≡ None = sym (stands.ahead k (omega (arith, from, all))) ∙ empty in
    let old : byte_ahead (ahead_of s) j ≡ None =
    ap (λ (m : ℕ). held (counted_from m s.ahead) j) (let small : got s % 2 ^ 32 ≡ got s = omega (arith, stands.sound.received) in small)
    ∙ held_from (got s) (got s + 1) (got s + 16384) s.ahead j (omega arith) (omega (arith, stands.sound.received)) stands.sound.ahead
    ∙ ap (held s.ahead) at ∙ no_piece in
    let both : byte_then (ahead_of s) g.seq.0 g.bytes j ≡ with_ s p k =
    byte_then_is s g p j stands.sound numbered (omega (arith, streams.end)) (omega (arith, n, short)) ∙ ap (with_ s p) at in
    let new : brought (expected s) g.seq.0 g.bytes j ≡ with_ s p k =
    ap (λ (o : Option ℕ). option_or o (brought (expected s) g.seq.0 g.bytes j)) (sym old) ∙ both in
    elim (some_or_none (byte_brought e p k)) [
      | inl some ↦ absurd (none (
        j,
        old,
        subst (λ (o : Option ℕ). IsSome o) (sym new)
            (right_some (held s.ahead k) (brought_to s p k) (subst (λ (o : Option ℕ). IsSome o) (brought_is s e p k all from) some)),
      ))
      | inr same ↦ same
    ]

same_either : (o more : Option ℕ) → (o ≡ None → more ≡ None) → o ≡ option_or o more
same_either None more none = sym (none refl)
same_either (Some x) more none = refl

-- a segment that brings nothing new
repeated : (s after : EndState) (g : Segment) (e : Endpoint) (p : PlacedSegment) → EndStands s e → Numbered s.receive_first.0 s.send_first.0 g p
    → IsInStreams p → length g.bytes < 2 ^ 16
    → IsArrival Duplicate s g → ChangesByArrival Duplicate s g after → Becomes (λ e' e''. TakesSegment e' p e'') e after
repeated s after g e p stands numbered streams short is leaves =
    let within : p.ack ≤ s.sent = within_sent s e g p stands numbered streams is.1 in
    let old : p.ack ≤ s.acked =
    new_offset s.send_first.0 s.acked s.sent p.ack stands.sound.sending.acked (emitted_small s stands.sound.sending) (ack_small p streams) within
    (λ new. is.2 (subst (λ (m : ℕ). IsAck New (own_number s s.acked) (own_number s s.sent) m) (sym numbered.ack) new)) in
    let same : max e.acked p.ack ≡ e.acked = omega (arith, old, stands.acked) in
    let owed : (e.owed || nat_lt 0 (length p.bytes)) ≡ (s.owed || nat_lt 0 (length g.bytes)) = owed_is s e g p stands numbered.bytes in
    record {
      end = record e { acked = max e.acked p.ack; owed = e.owed || nat_lt 0 (length p.bytes) };
      step = inr (record {
        acceptable = acceptable_for s e g p stands numbered streams short is.0;
        within = λ beyond. is.1 (beyond_to s e g p stands numbered streams beyond);
        arrived = λ k. same_either (map.get e.arrived k) (byte_brought e p k) (nothing_new s e g p k stands numbered streams short is.3);
        changed = refl;
      });
      stands = subst (λ (m : ℕ). EndStands after (record e { acked = m; owed = e.owed || nat_lt 0 (length p.bytes) })) (sym same)
          (subst (λ (b : Bool). EndStands after (record e { owed = b })) (sym owed) (owes s after (s.owed || nat_lt 0 (length g.bytes)) leaves e stands));
    }

-- a segment that is accepted
taken_in : (s after : EndState) (g : Segment) (e : Endpoint) (p : PlacedSegment) → EndStands s e → Numbered s.receive_first.0 s.send_first.0 g p
    → IsInStreams p → length g.bytes < 2 ^ 16
    → IsArrival Accepted s g → TakesByNumbers s g (newly_acked s g) after → (IsInStream (got after) → IsEndState after)
    → Becomes (λ e' e''. TakesSegment e' p e'') e after
taken_in s after g e p stands numbered streams short is takes at_rest =
    let n : length g.bytes ≡ length p.bytes = ap length numbered.bytes in
    let fits : p.offset < 2 ^ 30 = omega (arith, streams.end) in
    let r = takes.received in
    let each : (k : ℕ) → k < length r.given → with_ s p (got s + k) ≡ slice_get r.given k =
    λ k below. sym (byte_then_is s g p k stands.sound numbered fits (omega (arith, n, short))) ∙ r.each k below in
    let taken : after.taken ≡ s.taken = ap (λ (t : EndState). t.taken) takes.changed in
    let ready_length : length after.ready ≡ length s.ready + length r.given = ap length r.appended ∙ length-append s.ready r.given in
    let few : IsInStream (got after) = omega (arith, taken, ready_length, given_in s e p r.given stands streams each) in
    let rests : IsEndState after = at_rest few in
    let h : Hears s after p r.given = hears s after g p stands.sound rests numbered fits (omega (arith, n, short)) taken r in
    let now : bytes_in_order (accepted e p) ≡ received_bytes e ++ r.given = received_then s after e p r.given stands h in
    let all : received e ≡ got s = received_is s e stands in
    let count : length (bytes_in_order (accepted e p)) ≡ got after =
    omega (arith, ap (λ (xs : List ℕ). length xs) now, length-append (received_bytes e) r.given, all, h.received) in
    let within : p.ack ≤ s.sent = within_sent s e g p stands numbered streams is.1 in
    let acked : s.acked + newly_acked s g ≡ max e.acked p.ack =
    ap (λ (m : ℕ). s.acked + (let ahead = offset_from m (own_number s s.acked) in if nat_le ahead (s.sent - s.acked) then ahead else 0)) numbered.ack
    ∙ newly_offset s.send_first.0 s.acked s.sent p.ack stands.sound.sending.acked (emitted_small s stands.sound.sending) (ack_small p streams) within
    ∙ ap (λ (m : ℕ). max m p.ack) (sym stands.acked) in
    record {
      end = record e { acked = max e.acked p.ack; arrived = accepted e p; owed = e.owed || nat_lt 0 (length p.bytes) };
      step = inr (record {
        acceptable = acceptable_for s e g p stands numbered streams short is.0;
        within = λ beyond. is.1 (beyond_to s e g p stands numbered streams beyond);
        arrived = get-accepted e p;
        changed = refl;
      });
      stands = record {
        sound = rests;
        acked = sym acked ∙ sym (ap (λ (t : EndState). t.acked) takes.changed);
        emitted = stands.emitted ∙ sym (ap (λ (t : EndState). t.sent) takes.changed);
        read = stands.read ∙ sym taken;
        owed = owed_is s e g p stands numbered.bytes ∙ sym (ap (λ (t : EndState). t.owed) takes.changed);
        acked_within = omega (arith, within, stands.emitted, stands.acked_within, stream_is s e stands, stands.sound.sending.emitted);
        waiting = ap (λ (t : EndState). t.waiting) takes.changed ∙ ap (drop (newly_acked s g)) stands.waiting ∙ drop-drop (newly_acked s g) e.acked e.stream
            ∙ ap (λ (m : ℕ). drop m e.stream) (ap (λ (m : ℕ). m + newly_acked s g) stands.acked ∙ acked);
        read_within = omega (arith, stands.read_within, count, all, h.received);
        ready = h.ready ∙ ap (λ (xs : List ℕ). xs ++ r.given) stands.ready
            ∙ sym (drop-append-le e.read (received_bytes e) r.given stands.read_within) ∙ ap (drop e.read) (sym now);
        ahead = λ offset from.
            let j = offset - got after in
            let at : got after + j ≡ offset = omega (arith, from, count) in
            let same : got s + (length r.given + j) ≡ offset = omega (arith, at, h.received) in
            accepted_from s e p offset stands (omega (arith, same)) ∙ ap (with_ s p) (sym same) ∙ sym (h.ahead j) ∙ ap (held after.ahead) at;
        in_stream = λ offset some. accepted_in s e p offset stands streams some;
      };
    }

-- whatever the segment was
becomes : (s after : EndState) (g : Segment) (arrival : Arrival) → length g.bytes < 2 ^ 16 → IsArrival arrival s g
    → ChangesByArrival arrival s g after → (IsInStream (got after) → IsEndState after)
    → (e : Endpoint) (p : PlacedSegment) → EndStands s e → Numbered s.receive_first.0 s.send_first.0 g p → IsInStreams p
    → Becomes (λ e' e''. TakesSegment e' p e'') e after
becomes s after g Outside short is leaves at_rest e p stands numbered streams =
    dropped s after e p stands (inl (λ acceptable. is (acceptable_to s e g p stands numbered streams short acceptable))) leaves
becomes s after g (Ahead ack) short is leaves at_rest e p stands numbered streams =
    dropped s after e p stands (inr (beyond_for s e g p stands numbered streams is.1)) leaves
becomes s after g Duplicate short is leaves at_rest e p stands numbered streams = repeated s after g e p stands numbered streams short is leaves
becomes s after g Accepted short is leaves at_rest e p stands numbered streams = taken_in s after g e p stands numbered streams short is leaves at_rest

-- the numbers of the first bytes stay
numbers : (s after : EndState) (g : Segment) (arrival : Arrival) → ChangesByArrival arrival s g after → SameNumbers s after
numbers s after g Outside leaves =
    record { send_first = ap (λ (t : EndState). t.send_first) leaves; receive_first = ap (λ (t : EndState). t.receive_first) leaves }
numbers s after g (Ahead ack) leaves =
    record { send_first = ap (λ (t : EndState). t.send_first) leaves; receive_first = ap (λ (t : EndState). t.receive_first) leaves }
numbers s after g Duplicate leaves =
    record { send_first = ap (λ (t : EndState). t.send_first) leaves; receive_first = ap (λ (t : EndState). t.receive_first) leaves }
numbers s after g Accepted leaves =
    record { send_first = ap (λ (t : EndState). t.send_first) leaves.changed; receive_first = ap (λ (t : EndState). t.receive_first) leaves.changed }

pub arrives_if_ok : (s after : EndState) (g : Segment) (result : Result Arrival NoMemory) → length g.bytes < 2 ^ 16
    → IfOk result (λ a. IsArrival a s g) → IfOk result (λ a. ChangesByArrival a s g after) → OnOk result (IsInStream (got after) → IsEndState after)
    → OnOk result (TakesBy s g after)
arrives_if_ok s after g (Ok arrival) short is leaves at_rest =
    record { numbers = numbers s after g arrival leaves; becomes = becomes s after g arrival short is leaves at_rest }
arrives_if_ok s after g (Err error) short is leaves at_rest = tt
