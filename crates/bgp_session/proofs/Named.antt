-- A part of the stream that a caller names is emitted, or refused.
use Rattle.std.proofs.Common.{◌≡◌, ℕ, ◌+◌, ◌==◌, Bool, true, false, length, Option, Some, None, refl, sym, ap, ◌∙◌, subst, inl, inr}
use Rattle.std.specs.Prelude.{◌⊎◌, max, if◌then◌else◌, IfOk, IfNone, IfSome, OnErr, OnOk, Result, Ok, Err}
use Rattle.graft_edge.specs.declared.memory.NoMemory.{NoMemory}
use Rattle.tcp_seq.specs.Endpoint.{Endpoint, PlacedSegment, EmitsEmpty, EmitsSlice, IsInStreams}
use Rattle.tcp_seq.specs.declared.segment.Segment.{Segment}
use Rattle.tcp_seq.specs.declared.state.EndState.{EndState}
use Rattle.tcp_end.specs.Emitting.{EmitsNone, EmitsPart, emitted_at}
use Rattle.tcp_end.specs.State.{segment_at}
use Rattle.tcp_end.specs.Standing.{BecomesEmitting, EndEmitsBy}
use Rattle.bgp_session.specs.declared.parts.Parts.{Parts}
use Rattle.bgp_session.specs.Inner.{SessionInvariant, value_of}
use Rattle.bgp_session.proofs.Exchanged.{with_end, Goes, IsOf, Emission, in_streams, answer_within, of_slice, emits, emitted_keeps, emits_none, same_keeps}

part_within : (parts : Parts) (end : Endpoint) (p : PlacedSegment) → SessionInvariant parts
    → EmitsSlice (value_of parts).end p end ⊎ EmitsEmpty (value_of parts).end p end → IsInStreams p
part_within parts end p k (inl step) =
    subst IsInStreams (sym step.slice) (in_streams parts.end (value_of parts).end p.offset (length p.bytes) k.stands step.within)
part_within parts end p k (inr step) = answer_within parts end p k step

same_goes : (s : EndState) → Goes s s
same_goes s = record { peering = refl; way = refl; send_first = refl; receive_first = refl }

part_goes : (s : EndState) (from len : ℕ) → Goes s (emitted_at s from len)
part_goes s from len = by_test (len == 0) where
  by_test : (b : Bool) → Goes s (if b then record s { owed = false } else record s { sent = max s.sent (from + len) })
  by_test true = record { peering = refl; way = refl; send_first = refl; receive_first = refl }
  by_test false = record { peering = refl; way = refl; send_first = refl; receive_first = refl }

part_emits : (parts : Parts) (after : EndState) (from len : ℕ) (answer : Option Segment) → SessionInvariant parts
    → IfSome answer (λ g. g ≡ segment_at parts.end from len) → IfSome answer (λ g. after ≡ emitted_at parts.end from len)
    → IfNone answer (after ≡ parts.end) → EndEmitsBy (EmitsPart from len) parts.end answer after → Emission (EmitsPart from len) parts answer after
part_emits parts after from len None k slice some none by =
    emits_none (EmitsPart from len) parts after k (by.becomes (value_of parts).end k.stands) (subst (Goes parts.end) (sym none) (same_goes parts.end))
part_emits parts after from len (Some g) k slice some none by =
    let e = (value_of parts).end in
    let b : BecomesEmitting (EmitsPart from len) parts.end e g after = by.becomes e k.stands in
    let within : IsInStreams b.segment = part_within parts b.end b.segment k b.step.2 in
    let is_of : IsOf parts.end g = of_slice parts.end g from len slice in
    let goes : Goes parts.end after = subst (Goes parts.end) (sym some) (part_goes parts.end from len) in
    record {
      step = emits (EmitsPart from len) parts after g k b within b.step.2 is_of goes;
      keeps = emitted_keeps (EmitsPart from len) parts after g k b within b.step.2 is_of goes;
    }

-- ---- by results

pub part_result : (parts : Parts) (after : EndState) (from len : ℕ) (r : Result (Option Segment) NoMemory) → SessionInvariant parts
    → IfOk r (λ answer. IfSome answer (λ g. g ≡ segment_at parts.end from len))
    → IfOk r (λ answer. IfSome answer (λ g. after ≡ emitted_at parts.end from len))
    → IfOk r (λ answer. IfNone answer (after ≡ parts.end))
    → IfOk r (λ answer. EndEmitsBy (EmitsPart from len) parts.end answer after)
    → IfOk r (λ answer. Emission (EmitsPart from len) parts answer after)
part_result parts after from len (Ok answer) k slice some none by = part_emits parts after from len answer k slice some none by
part_result parts after from len (Err error) k slice some none by = tt

pub part_keeps : (parts : Parts) (after : EndState) (from len : ℕ) (r : Result (Option Segment) NoMemory) → SessionInvariant parts
    → IfOk r (λ answer. Emission (EmitsPart from len) parts answer after) → OnErr r (after ≡ parts.end) → SessionInvariant (with_end parts after)
part_keeps parts after from len (Ok answer) k emission same = emission.keeps
part_keeps parts after from len (Err error) k emission same = same_keeps parts after k same

pub part_refused : (parts : Parts) (from len : ℕ) (r : Result (Option Segment) NoMemory) → SessionInvariant parts
    → IfOk r (λ answer. IfNone answer (EmitsNone parts.end from len))
    → IfOk r (λ answer. IfNone answer ((segment : PlacedSegment) (after : Endpoint) → ¬ EmitsPart from len (value_of parts).end segment after))
part_refused parts from len (Ok None) k none = λ segment after. none (value_of parts).end segment after k.stands
part_refused parts from len (Ok (Some g)) k none = tt
part_refused parts from len (Err error) k none = tt

pub part_turn : (s after : EndState) (from len : ℕ) (r : Result (Option Segment) NoMemory)
    → IfOk r (λ answer. IfSome answer (λ g. after ≡ emitted_at s from len)) → IfOk r (λ answer. IfNone answer (after ≡ s))
    → OnOk r (after.acked_at_turn ≡ s.acked_at_turn)
part_turn s after from len (Ok None) some none = ap (λ (x : EndState). x.acked_at_turn) none
part_turn s after from len (Ok (Some g)) some none = ap (λ (x : EndState). x.acked_at_turn) some ∙ by_test (len == 0) where
  by_test : (b : Bool) → (if b then record s { owed = false } else record s { sent = max s.sent (from + len) }).acked_at_turn ≡ s.acked_at_turn
  by_test true = refl
  by_test false = refl
part_turn s after from len (Err error) some none = tt
