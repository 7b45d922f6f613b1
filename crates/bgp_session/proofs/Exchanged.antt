-- What a segment that arrives or is emitted leaves.
use Rattle.std.proofs.Common.{◌≡◌, ℕ, ◌+◌, ◌^◌, ◌<◌, ◌≤◌, Bool, true, List, length, drop, length-take}
use Rattle.std.proofs.Common.{Option, Some, None, refl, sym, ap, ◌∙◌, subst, arith, inl, inr}
use Rattle.std.specs.Prelude.{◌⊎◌, ◌↔◌, min, IfOk, IfNone, IfSome, IsNone, OnErr, OnOk, Result, Ok, Err}
use Rattle.std.proofs.lemmas.Bool.{cases_lt}
use Rattle.graft_edge.specs.declared.memory.NoMemory.{NoMemory}
use Rattle.tcp_seq.specs.Endpoint.{Endpoint, PlacedSegment, EmitsNext, EmitsAgain, EmitsAnswer, EmitsEmpty, EmitsSlice, IsInStreams, TakesSegment, slice_at}
use Rattle.tcp_seq.specs.Endpoint.{next_length as next_length_of, again_length as again_length_of}
use Rattle.tcp_seq.specs.Placed.{placed}
use Rattle.tcp_seq.specs.declared.segment.Segment.{Segment}
use Rattle.tcp_seq.specs.declared.state.EndState.{EndState}
use Rattle.tcp_seq.proofs.Emitting.{next_is_slice, again_is_slice}
use Rattle.tcp_end.specs.Arriving.{IsArrival, ChangesByArrival}
use Rattle.tcp_end.specs.State.{end_again_length, end_next_length, outstanding, segment_at, unsent}
use Rattle.tcp_end.specs.Standing.{EndStands, Numbered, Becomes, BecomesEmitting, EndEmitsBy, TakesBy}
use Rattle.tcp_end.specs.declared.arrival.Arrival.{Arrival}
use Rattle.tcp_end.specs.declared.arrival.Arrival.TheVariants.{Outside, Ahead, Duplicate, Accepted}
use Rattle.tcp_end.proofs.Steps.{next_length_is, received_is, stream_is}
use Rattle.tcp_end.proofs.Wholes.{endpoint_is}
use Rattle.bgp_story.specs.Readings.{put_bytes, got_bytes}
use Rattle.session_value.specs.Sessions.{SessionValue, peering_of}
use Rattle.session_value.specs.Ties.{IsTied}
use Rattle.session_value.proofs.Ties.{emits_tied, takes_tied}
use Rattle.bgp_session.specs.declared.parts.Parts.{Parts}
use Rattle.bgp_session.specs.Running.{RunningSession}
use Rattle.bgp_session.specs.Inner.{SessionInvariant, running, value_of}
use Rattle.bgp_session.specs.Steps.{SegmentArrives, SessionEmits, received_as, sent_as}
use Rattle.bgp_session.specs.Steps.{SessionEmitsIfAny}
use Rattle.bgp_session.proofs.Arrivals.{arrives_as}

-- ---- the end has another state, that stands for an endpoint with the same stream which has read the same

abbrev pub with_end : Parts → EndState → Parts
with_end parts end = record parts { end = end }

module _ (parts : Parts) (end : EndState) (e : Endpoint) (k : SessionInvariant parts)
    (stands : EndStands end e)
    (tied : IsTied (record (value_of parts) { end = e })) where
  pub end_is : e ≡ (value_of (with_end parts end)).end
  end_is = endpoint_is end e (put_bytes (peering_of parts.config) parts.story.lines) (got_bytes parts.story.lines) stands tied.put tied.got

  pub value_is : value_of (with_end parts end) ≡ record (value_of parts) { end = e }
  value_is = ap (λ (x : Endpoint). record (value_of parts) { end = x }) (sym end_is)

  pub end_keeps : end.peering ≡ parts.end.peering → end.way ≡ parts.end.way → end.send_first ≡ parts.end.send_first
      → end.receive_first ≡ parts.end.receive_first → SessionInvariant (with_end parts end)
  end_keeps peering way send receive = record {
    stands = subst (EndStands end) end_is stands;
    tied = subst IsTied (sym value_is) tied;
    peering = peering ∙ k.peering;
    way = way ∙ k.way;
    send_first = send ∙ k.send_first;
    receive_first = receive ∙ k.receive_first;
    send_fits = k.send_fits;
    receive_fits = k.receive_fits;
    remote_as = k.remote_as;
    opened = k.opened;
    left = k.left;
    next_round = k.next_round;
  }

-- ---- emission

-- a slice of a stream of 1 MiB, with what was received
pub in_streams : (s : EndState) (e : Endpoint) (offset len : ℕ) → EndStands s e → offset + len ≤ length e.stream → IsInStreams (slice_at e offset len)
in_streams s e offset len stands within =
    let n = length-take len (drop offset e.stream) in
    let stream = stream_is s e stands in
    let most = stands.sound.sending.stream in
    let got = received_is s e stands in
    let few = stands.sound.received in
    record { end = omega (arith, n, within, stream, most); ack = omega (arith, got, few) }

-- the numbers are those of the segment's offsets
placed_is : (send receive : ℕ) (g : Segment) (p : PlacedSegment) → send < 2 ^ 32 → receive < 2 ^ 32 → Numbered send receive g p → IsInStreams p
    → p ≡ placed send receive g
placed_is send receive g p a b numbered within =
    let offset : p.offset ≡ (placed send receive g).offset = omega (arith, a, numbered.seq, within.end) in
    let ack : p.ack ≡ (placed send receive g).ack = omega (arith, b, numbered.ack, within.ack) in
    let bytes : p.bytes ≡ g.bytes = sym numbered.bytes in
    ap (λ (n : ℕ). let q : PlacedSegment = record { offset = n; bytes = p.bytes; ack = p.ack } in q) offset
    ∙ (ap (λ (n : ℕ). let q : PlacedSegment = record { offset = (placed send receive g).offset; bytes = p.bytes; ack = n } in q) ack
    ∙ ap (λ (bs : List ℕ). let q : PlacedSegment = record { offset = (placed send receive g).offset; bytes = bs; ack = (placed send receive g).ack } in q)
    bytes)

-- the end goes on with the same peering, way and numbers
pub record Goes (before after : EndState) : Type 0 where
  pub peering : after.peering ≡ before.peering
  pub way : after.way ≡ before.way
  pub send_first : after.send_first ≡ before.send_first
  pub receive_first : after.receive_first ≡ before.receive_first

-- a segment of the end
pub record IsOf (end : EndState) (g : Segment) : Type 0 where
  pub peering : g.peering ≡ end.peering
  pub way : g.way ≡ end.way
  pub window : g.window ≡ 16384

pub of_slice : (end : EndState) (g : Segment) (offset len : ℕ) → g ≡ segment_at end offset len → IsOf end g
of_slice end g offset len is = record {
  peering = ap (λ (x : Segment). x.peering) is;
  way = ap (λ (x : Segment). x.way) is;
  window = ap (λ (x : Segment). x.window) is;
}

-- what the session is after its end made a step that emits a segment
module _ (Step : Endpoint → PlacedSegment → Endpoint → Type 0) (parts : Parts) (after : EndState) (g : Segment) (k : SessionInvariant parts)
    (b : BecomesEmitting Step parts.end (value_of parts).end g after)
    (within : IsInStreams b.segment)
    (slice : EmitsSlice (value_of parts).end b.segment b.end ⊎ EmitsEmpty (value_of parts).end b.segment b.end)
    (is_of : IsOf parts.end g) (goes : Goes parts.end after) where
  placed_here : b.segment ≡ sent_as parts.config g
  placed_here =
      let first : (send receive : ℕ) → send ≡ parts.config.send_first.0 → receive ≡ parts.config.receive_first.0
      → Numbered send receive g b.segment → b.segment ≡ sent_as parts.config g = λ send receive a c numbered.
      placed_is parts.config.send_first.0 parts.config.receive_first.0 g b.segment k.send_fits k.receive_fits
      (subst (λ (n : ℕ). Numbered n parts.config.receive_first.0 g b.segment) a (subst (λ (n : ℕ). Numbered send n g b.segment) c numbered)) within in
      first parts.end.send_first.0 parts.end.receive_first.0 (ap (λ x. x.0) k.send_first) (ap (λ x. x.0) k.receive_first) b.numbered

  tied : IsTied (record (value_of parts) { end = b.end })
  tied = emits_tied (value_of parts) b.segment b.end k.tied slice

  emits_as : (Other : Endpoint → PlacedSegment → Endpoint → Type 0) → Other (value_of parts).end b.segment b.end
      → SessionEmits Other (value_of parts) g (value_of (with_end parts after))
  emits_as Other step = record {
    end = b.end;
    step = subst (λ (q : PlacedSegment). Other (value_of parts).end q b.end) placed_here step;
    in_streams = subst IsInStreams placed_here within;
    peering = is_of.peering ∙ k.peering;
    way = is_of.way ∙ k.way;
    window = is_of.window;
    effect = value_is parts after b.end k b.stands tied;
  }

  pub emits : SessionEmits Step (value_of parts) g (value_of (with_end parts after))
  emits = emits_as Step b.step

  pub emits_slice : EmitsSlice (value_of parts).end b.segment b.end → SessionEmits EmitsSlice (value_of parts) g (value_of (with_end parts after))
  emits_slice step = emits_as EmitsSlice step

  pub emitted_keeps : SessionInvariant (with_end parts after)
  emitted_keeps = end_keeps parts after b.end k b.stands tied goes.peering goes.way goes.send_first goes.receive_first

-- ---- the calls that emit

-- what one leaves
pub record Emission (Step : Endpoint → PlacedSegment → Endpoint → Type 0) (parts : Parts) (answer : Option Segment) (after : EndState) : Type 0 where
  pub step : SessionEmitsIfAny Step (value_of parts) answer (value_of (with_end parts after))
  pub keeps : SessionInvariant (with_end parts after)

-- without a segment it is the same session
module _ (Step : Endpoint → PlacedSegment → Endpoint → Type 0) (parts : Parts) (after : EndState)
    (k : SessionInvariant parts) (stands : EndStands after (value_of parts).end) (goes : Goes parts.end after) where
  pub emits_none : Emission Step parts None after
  emits_none = record {
    step = value_is parts after (value_of parts).end k stands k.tied;
    keeps = end_keeps parts after (value_of parts).end k stands k.tied goes.peering goes.way goes.send_first goes.receive_first;
  }

next_within : (parts : Parts) (end : Endpoint) (p : PlacedSegment) → SessionInvariant parts → EmitsNext (value_of parts).end p end → IsInStreams p
next_within parts end p k step =
    let e = (value_of parts).end in
    let n = stream_is parts.end e k.stands in
    let emitted = k.stands.sound.sending.emitted in
    let within : e.emitted + next_length_of e ≤ length e.stream = omega (arith, n, emitted) in
    subst IsInStreams (sym step.slice) (in_streams parts.end e e.emitted (next_length_of e) k.stands within)

again_within : (parts : Parts) (end : Endpoint) (p : PlacedSegment) → SessionInvariant parts → EmitsAgain (value_of parts).end p end → IsInStreams p
again_within parts end p k step =
    let e = (value_of parts).end in
    let n = stream_is parts.end e k.stands in
    let emitted = k.stands.sound.sending.emitted in
    let within : e.acked + again_length_of e ≤ length e.stream = omega (arith, n, emitted, k.stands.sound.sending.acked) in
    subst IsInStreams (sym step.slice) (in_streams parts.end e e.acked (again_length_of e) k.stands within)

pub answer_within : (parts : Parts) (end : Endpoint) (p : PlacedSegment) → SessionInvariant parts → EmitsEmpty (value_of parts).end p end → IsInStreams p
answer_within parts end p k step =
    let e = (value_of parts).end in
    let n = stream_is parts.end e k.stands in
    let emitted = k.stands.sound.sending.emitted in
    let within : e.emitted + 0 ≤ length e.stream = omega (arith, n, emitted) in
    subst IsInStreams (sym step.empty) (in_streams parts.end e e.emitted 0 k.stands within)

-- the next slice, as such and as any slice
pub next_emits : (parts : Parts) (after : EndState) (answer : Option Segment) → SessionInvariant parts → Goes parts.end after
    → IfSome answer (λ g. g ≡ segment_at parts.end parts.end.sent (end_next_length parts.end)) → EndEmitsBy EmitsNext parts.end answer after
    → Emission EmitsNext parts answer after × Emission EmitsSlice parts answer after
next_emits parts after None k goes slice by = let stands = by.becomes (value_of parts).end k.stands in
    (emits_none EmitsNext parts after k stands goes, emits_none EmitsSlice parts after k stands goes)
next_emits parts after (Some g) k goes slice by =
    let e = (value_of parts).end in
    let b : BecomesEmitting EmitsNext parts.end e g after = by.becomes e k.stands in
    let any : EmitsSlice e b.segment b.end = next_is_slice e b.end b.segment k.stands.sound.sending.acked b.step in
    let within : IsInStreams b.segment = next_within parts b.end b.segment k b.step in
    let is_of : IsOf parts.end g = of_slice parts.end g parts.end.sent (end_next_length parts.end) slice in
    let keeps : SessionInvariant (with_end parts after) = emitted_keeps EmitsNext parts after g k b within (inl any) is_of goes in (
      record { step = emits EmitsNext parts after g k b within (inl any) is_of goes; keeps = keeps },
      record { step = emits_slice EmitsNext parts after g k b within (inl any) is_of goes any; keeps = keeps },
    )

-- the first slice again
pub again_emits : (parts : Parts) (after : EndState) (answer : Option Segment) → SessionInvariant parts → Goes parts.end after
    → IfSome answer (λ g. g ≡ segment_at parts.end parts.end.acked (end_again_length parts.end)) → EndEmitsBy EmitsAgain parts.end answer after
    → Emission EmitsAgain parts answer after × Emission EmitsSlice parts answer after
again_emits parts after None k goes slice by = let stands = by.becomes (value_of parts).end k.stands in
    (emits_none EmitsAgain parts after k stands goes, emits_none EmitsSlice parts after k stands goes)
again_emits parts after (Some g) k goes slice by =
    let e = (value_of parts).end in
    let n = stream_is parts.end e k.stands in
    let emitted = k.stands.sound.sending.emitted in
    let b : BecomesEmitting EmitsAgain parts.end e g after = by.becomes e k.stands in
    let any : EmitsSlice e b.segment b.end = again_is_slice e b.end b.segment (omega (arith, n, emitted)) k.stands.sound.sending.flight b.step in
    let within : IsInStreams b.segment = again_within parts b.end b.segment k b.step in
    let is_of : IsOf parts.end g = of_slice parts.end g parts.end.acked (end_again_length parts.end) slice in
    let keeps : SessionInvariant (with_end parts after) = emitted_keeps EmitsAgain parts after g k b within (inl any) is_of goes in (
      record { step = emits EmitsAgain parts after g k b within (inl any) is_of goes; keeps = keeps },
      record { step = emits_slice EmitsAgain parts after g k b within (inl any) is_of goes any; keeps = keeps },
    )

-- the answer
pub answer_emits : (parts : Parts) (after : EndState) (answer : Option Segment) → SessionInvariant parts → Goes parts.end after
    → IfSome answer (λ g. g ≡ segment_at parts.end parts.end.sent 0) → EndEmitsBy EmitsAnswer parts.end answer after → Emission EmitsAnswer parts answer after
answer_emits parts after None k goes slice by = emits_none EmitsAnswer parts after k (by.becomes (value_of parts).end k.stands) goes
answer_emits parts after (Some g) k goes slice by =
    let e = (value_of parts).end in
    let b : BecomesEmitting EmitsAnswer parts.end e g after = by.becomes e k.stands in
    let within : IsInStreams b.segment = answer_within parts b.end b.segment k b.step.answer in
    let is_of : IsOf parts.end g = of_slice parts.end g parts.end.sent 0 slice in
    record {
      step = emits EmitsAnswer parts after g k b within (inr b.step.answer) is_of goes;
      keeps = emitted_keeps EmitsAnswer parts after g k b within (inr b.step.answer) is_of goes;
    }

-- ---- by results

pub sent_more : (s after : EndState) (n : ℕ) → after ≡ record s { sent = n } → Goes s after
sent_more s after n is = record {
  peering = ap (λ (x : EndState). x.peering) is;
  way = ap (λ (x : EndState). x.way) is;
  send_first = ap (λ (x : EndState). x.send_first) is;
  receive_first = ap (λ (x : EndState). x.receive_first) is;
}

pub turned : (s after : EndState) (n : ℕ) → after ≡ record s { acked_at_turn = n } → Goes s after
turned s after n is = record {
  peering = ap (λ (x : EndState). x.peering) is;
  way = ap (λ (x : EndState). x.way) is;
  send_first = ap (λ (x : EndState). x.send_first) is;
  receive_first = ap (λ (x : EndState). x.receive_first) is;
}

pub owing : (s after : EndState) (owed : Bool) → after ≡ record s { owed = owed } → Goes s after
owing s after owed is = record {
  peering = ap (λ (x : EndState). x.peering) is;
  way = ap (λ (x : EndState). x.way) is;
  send_first = ap (λ (x : EndState). x.send_first) is;
  receive_first = ap (λ (x : EndState). x.receive_first) is;
}

pub next_result : (parts : Parts) (after : EndState) (r : Result (Option Segment) NoMemory) → SessionInvariant parts
    → IfOk r (λ answer. IfSome answer (λ g. g ≡ segment_at parts.end parts.end.sent (end_next_length parts.end)))
    → OnOk r (after ≡ record parts.end { sent = parts.end.sent + end_next_length parts.end })
    → IfOk r (λ answer. EndEmitsBy EmitsNext parts.end answer after)
    → IfOk r (λ answer. Emission EmitsNext parts answer after × Emission EmitsSlice parts answer after)
next_result parts after (Ok answer) k slice is by = next_emits parts after answer k (sent_more parts.end after _ is) slice by
next_result parts after (Err error) k slice is by = tt

pub again_result : (parts : Parts) (after : EndState) (r : Result (Option Segment) NoMemory) → SessionInvariant parts
    → IfOk r (λ answer. IfSome answer (λ g. g ≡ segment_at parts.end parts.end.acked (end_again_length parts.end)))
    → OnOk r (after ≡ record parts.end { acked_at_turn = parts.end.acked })
    → IfOk r (λ answer. EndEmitsBy EmitsAgain parts.end answer after)
    → IfOk r (λ answer. Emission EmitsAgain parts answer after × Emission EmitsSlice parts answer after)
again_result parts after (Ok answer) k slice is by = again_emits parts after answer k (turned parts.end after _ is) slice by
again_result parts after (Err error) k slice is by = tt

-- a fact of an answer follows from another
pub if_ok : {A : Type 0} (r : Result A NoMemory) {P Q : A → Type 0} → ((x : A) → P x → Q x) → IfOk r P → IfOk r Q
if_ok (Ok x) f p = f x p
if_ok (Err e) f p = p

pub on_ok : {A : Type 0} (r : Result A NoMemory) {P Q : Type 0} → (P → Q) → OnOk r P → OnOk r Q
on_ok (Ok x) f p = f p
on_ok (Err e) f p = p

pub same_keeps : (parts : Parts) (after : EndState) → SessionInvariant parts → after ≡ parts.end → SessionInvariant (with_end parts after)
same_keeps parts after k is = subst (λ (s : EndState). SessionInvariant (with_end parts s)) (sym is) k

-- ---- when there is no segment

pub next_none : (parts : Parts) (r : Result (Option Segment) NoMemory) → SessionInvariant parts
    → IfOk r (λ answer. IsNone answer ↔ ((unsent parts.end ≡ 0) ⊎ (outstanding parts.end ≡ 15360)))
    → IfOk r (λ answer. IsNone answer ↔ (next_length_of (value_of parts).end ≡ 0))
next_none parts r k none =
    let e = (value_of parts).end in
    let same = next_length_is parts.end e k.stands in
    let flight = k.stands.sound.sending.flight in
    let le = k.stands.sound.sending.acked in
    if_ok r (λ answer n. (
      (λ is. elim (n.0 is) [ inl all ↦ omega (arith, same, all) | inr full ↦ omega (arith, same, full) ]),
      (λ zero.
          n.1 (elim (cases_lt 0 (unsent parts.end)) [ inl some ↦ inr (omega (arith, same, zero, some, flight, le)) | inr not ↦ inl (omega (arith, not)) ])),
    )) none

-- with no segment, all is emitted that may be
all_emitted : (parts : Parts) → SessionInvariant parts → next_length_of (value_of parts).end ≡ 0
    → (value_of parts).end.emitted ≡ min (length (value_of parts).end.stream) ((value_of parts).end.acked + 15360)
all_emitted parts k zero =
    let stream = stream_is parts.end (value_of parts).end k.stands in
    let most = k.stands.sound.sending.emitted in
    let flight = k.stands.sound.sending.flight in
    omega (arith, zero, stream, most, flight, k.stands.acked, k.stands.emitted)

pub next_all : (parts : Parts) (r : Result (Option Segment) NoMemory) → SessionInvariant parts
    → IfOk r (λ answer. IsNone answer ↔ (next_length_of (value_of parts).end ≡ 0))
    → IfOk r (λ answer. IfNone answer ((value_of parts).end.emitted ≡ min (length (value_of parts).end.stream) ((value_of parts).end.acked + 15360)))
next_all parts (Ok None) k none = all_emitted parts k (none.0 refl)
next_all parts (Ok (Some g)) k none = tt
next_all parts (Err error) k none = tt

-- no more is emitted than there is
pub emitted_within : (parts : Parts) → SessionInvariant parts → (value_of parts).end.emitted ≤ length (value_of parts).end.stream
emitted_within parts k =
    let stream = stream_is parts.end (value_of parts).end k.stands in
    let most = k.stands.sound.sending.emitted in
    omega (arith, stream, most, k.stands.emitted)

pub again_none : (parts : Parts) (r : Result (Option Segment) NoMemory) → SessionInvariant parts
    → IfOk r (λ answer. IsNone answer ↔ ((outstanding parts.end ≡ 0) ⊎ (parts.end.acked_at_turn < parts.end.acked)))
    → IfOk r (λ answer. IsNone answer ↔ ((again_length_of (value_of parts).end ≡ 0) ⊎ (parts.end.acked_at_turn < (value_of parts).end.acked)))
again_none parts r k none =
    if_ok r (λ answer n. (
      (λ is. elim (n.0 is) [ inl all ↦ inl (omega (arith, all)) | inr rose ↦ inr rose ]),
      (λ or'. n.1 (elim or' [ inl zero ↦ inl (omega (arith, zero)) | inr rose ↦ inr rose ])),
    )) none

-- ---- arrival

leaves_goes : (s after : EndState) (g : Segment) (arrival : Arrival) → ChangesByArrival arrival s g after → Goes s after
leaves_goes s after g Outside is = owing s after true is
leaves_goes s after g (Ahead ack) is = owing s after true is
leaves_goes s after g Duplicate is = owing s after _ is
leaves_goes s after g Accepted is = record {
  peering = ap (λ (x : EndState). x.peering) is.changed;
  way = ap (λ (x : EndState). x.way) is.changed;
  send_first = ap (λ (x : EndState). x.send_first) is.changed;
  receive_first = ap (λ (x : EndState). x.receive_first) is.changed;
}

leaves_turn : (s after : EndState) (g : Segment) (arrival : Arrival) → ChangesByArrival arrival s g after → after.acked_at_turn ≡ s.acked_at_turn
leaves_turn s after g Outside is = ap (λ (x : EndState). x.acked_at_turn) is
leaves_turn s after g (Ahead ack) is = ap (λ (x : EndState). x.acked_at_turn) is
leaves_turn s after g Duplicate is = ap (λ (x : EndState). x.acked_at_turn) is
leaves_turn s after g Accepted is = ap (λ (x : EndState). x.acked_at_turn) is.changed

module _ (parts : Parts) (after : EndState) (g : Segment) (k : SessionInvariant parts) (streams : IsInStreams (received_as parts.config g))
    (short : length g.bytes < 2 ^ 16) (seq : g.seq.0 < 2 ^ 32) (ack : g.ack.0 < 2 ^ 32) where
  abbrev p : PlacedSegment
  p = received_as parts.config g

  numbered_here : Numbered parts.end.receive_first.0 parts.end.send_first.0 g p
  numbered_here =
      let n : Numbered parts.config.receive_first.0 parts.config.send_first.0 g p =
      record { seq = omega (arith, seq, k.receive_fits); ack = omega (arith, ack, k.send_fits); bytes = refl } in
      subst (λ (m : ℕ). Numbered m parts.end.send_first.0 g p) (ap (λ x. x.0) (sym k.receive_first))
      (subst (λ (m : ℕ). Numbered parts.config.receive_first.0 m g p) (ap (λ x. x.0) (sym k.send_first)) n)

  module _ (arrival : Arrival) (is : IsArrival arrival parts.end g) (leaves : ChangesByArrival arrival parts.end g after) (by : TakesBy parts.end g after) where
    b : Becomes (λ e' e''. TakesSegment e' p e'') (value_of parts).end after
    b = by.becomes (value_of parts).end p k.stands numbered_here streams

    tied_then : IsTied (record (value_of parts) { end = b.end })
    tied_then = takes_tied (value_of parts) p b.end k.tied b.step

    goes : Goes parts.end after
    goes = leaves_goes parts.end after g arrival leaves

    pub arrived : SegmentArrives arrival (running parts) g (running (with_end parts after)) × SessionInvariant (with_end parts after)
    arrived = (
      record {
        is = arrives_as parts.end (value_of parts).end g p k.stands numbered_here streams short arrival is;
        end = b.end;
        takes = b.step;
        effect = ap (λ (v : SessionValue). let r : RunningSession = record { session = v; acked_at_turn = after.acked_at_turn } in r)
            (value_is parts after b.end k b.stands tied_then)
            ∙ ap (λ (n : ℕ). let r : RunningSession = record { session = record (value_of parts) { end = b.end }; acked_at_turn = n } in r)
            (leaves_turn parts.end after g arrival leaves);
      },
      end_keeps parts after b.end k b.stands tied_then goes.peering goes.way goes.send_first goes.receive_first,
    )

  pub arrived_result : (r : Result Arrival NoMemory) → IfOk r (λ a. IsArrival a parts.end g) → IfOk r (λ a. ChangesByArrival a parts.end g after)
      → OnOk r (TakesBy parts.end g after)
      → IfOk r (λ a. SegmentArrives a (running parts) g (running (with_end parts after)) × SessionInvariant (with_end parts after))
  arrived_result (Ok arrival) is leaves by = arrived arrival is leaves by
  arrived_result (Err error) is leaves by = tt

  pub arrived_keeps : (r : Result Arrival NoMemory)
      → IfOk r (λ a. SegmentArrives a (running parts) g (running (with_end parts after)) × SessionInvariant (with_end parts after))
      → OnErr r (after ≡ parts.end) → SessionInvariant (with_end parts after)
  arrived_keeps (Ok arrival) a same = a.1
  arrived_keeps (Err error) a same = same_keeps parts after k same
