-- What stands for an endpoint after any slice of its stream was emitted.
use Rattle.std.proofs.Common.{◌≡◌, ℕ, ◌+◌, length, take, drop, true, false, refl, sym, ap, ◌∙◌, subst, arith, inl, inr}
use Rattle.std.specs.Prelude.{◌↔◌, Bool, if◌then◌else◌, max, Some, None}
use Rattle.std.proofs.lemmas.Bool.{false≢true, ne_eqb}
use Rattle.std.proofs.lemmas.List.{length-drop, length-take}
use Rattle.tcp_seq.specs.Endpoint.{Endpoint, PlacedSegment, slice_at}
use Rattle.tcp_seq.specs.declared.segment.Segment.{Segment}
use Rattle.tcp_seq.specs.declared.state.EndState.{EndState}
use Rattle.tcp_end.specs.State.{IsSending, stream_length, segment_at}
use Rattle.tcp_end.specs.Standing.{EndStands, BecomesEmitting, EndEmitsBy}
use Rattle.tcp_end.specs.Emitting.{IsSlice, IsEmptySlice, CanEmit, EmitsPart, EmitsNone, emitted_at}
use Rattle.tcp_end.proofs.Steps.{stream_is, slice_at_is, owes, same_numbers}

-- one with bytes
emits_slice : (s after : EndState) (g : Segment) (from len : ℕ) → IsSlice s from len → g ≡ segment_at s from len
    → after ≡ record s { sent = max s.sent (from + len) } → (e : Endpoint) → EndStands s e → BecomesEmitting (EmitsPart from len) s e g after
emits_slice s after g from len may slice is e stands =
    let n : length e.stream ≡ stream_length s = stream_is s e stands in
    let sending : IsSending s = stands.sound.sending in
    let size : length (take len (drop from e.stream)) ≡ len =
    omega (arith, n, may.within, length-take len (drop from e.stream), length-drop from e.stream) in
    record {
      segment = slice_at e from len;
      end = record e { emitted = max e.emitted (from + len) };
      step = (
        refl,
        size,
        inl (record {
          from = omega (arith, stands.acked, may.acked);
          to = omega (arith, stands.emitted, may.emitted);
          some = omega (arith, size, may.some);
          short = omega (arith, size, may.short);
          within = omega (arith, size, n, may.within);
          flight = omega (arith, size, stands.acked, may.flight);
          slice = ap (slice_at e from) (sym size);
          rises = ap (λ (k : ℕ). let e' : Endpoint = record e { emitted = max e.emitted (from + k) } in e') (sym size);
        }),
      );
      numbered = slice_at_is s g e from from len len slice refl refl stands may.acked;
      stands = rw is (record {
        sound = record {
          sending = record {
            acked = omega (arith, sending.acked);
            flight = omega (arith, sending.flight, may.flight);
            emitted = omega (arith, sending.emitted, may.within);
            stream = sending.stream;
            at_turn = sending.at_turn;
          };
          received = stands.sound.received;
          ahead = stands.sound.ahead;
        };
        acked = stands.acked;
        emitted = ap (λ (k : ℕ). max k (from + len)) stands.emitted;
        read = stands.read;
        owed = stands.owed;
        acked_within = stands.acked_within;
        waiting = stands.waiting;
        read_within = stands.read_within;
        ready = stands.ready;
        ahead = stands.ahead;
        in_stream = stands.in_stream;
      });
    }

pub emits_slice_by : (s after : EndState) (g : Segment) (from len : ℕ) → IsSlice s from len → g ≡ segment_at s from len
    → after ≡ record s { sent = max s.sent (from + len) } → EndEmitsBy (EmitsPart from len) s (Some g) after
emits_slice_by s after g from len may slice is = record {
  numbers = same_numbers s (record s { sent = max s.sent (from + len) }) after refl refl is;
  becomes = emits_slice s after g from len may slice is;
}

-- one without bytes
emits_empty : (s after : EndState) (g : Segment) (from : ℕ) → from ≡ s.sent → g ≡ segment_at s s.sent 0 → after ≡ record s { owed = false }
    → (e : Endpoint) → EndStands s e → BecomesEmitting (EmitsPart from 0) s e g after
emits_empty s after g from at slice is e stands = record {
  segment = slice_at e e.emitted 0;
  end = record e { owed = false };
  step = (stands.emitted ∙ sym at, refl, inr (record { empty = refl; given = refl }));
  numbered = slice_at_is s g e s.sent e.emitted 0 0 slice (sym stands.emitted) refl stands stands.sound.sending.acked;
  stands = owes s after false is e stands;
}

pub emits_empty_by : (s after : EndState) (g : Segment) (from len : ℕ) → IsEmptySlice s from len → g ≡ segment_at s s.sent 0
    → after ≡ record s { owed = false } → EndEmitsBy (EmitsPart from len) s (Some g) after
emits_empty_by s after g from len empty slice is = subst (λ (n : ℕ). EndEmitsBy (EmitsPart from n) s (Some g) after) (sym empty.1) (record {
  numbers = same_numbers s (record s { owed = false }) after refl refl is;
  becomes = emits_empty s after g from empty.0 slice is;
})

-- none
pub emits_none_by : (Step : Endpoint → PlacedSegment → Endpoint → Type 0) (s after : EndState) → after ≡ s → EndEmitsBy Step s None after
emits_none_by Step s after is = record { numbers = same_numbers s s after refl refl is; becomes = λ e stands. rw is stands }

pub emits_none : (s : EndState) (from len : ℕ) → ¬ CanEmit s from len → EmitsNone s from len
emits_none s from len cannot = λ e p after stands emits. by e p after stands emits
  where
    by : (e : Endpoint) (p : PlacedSegment) (after : Endpoint) → EndStands s e → EmitsPart from len e p after → ⊥
    by e p after stands (offset, size, inl slice) = cannot (inl (record {
      acked = omega (arith, stands.acked, slice.from, offset);
      emitted = omega (arith, stands.emitted, slice.to, offset);
      some = omega (arith, slice.some, size);
      short = omega (arith, slice.short, size);
      within = omega (arith, slice.within, offset, size, stream_is s e stands);
      flight = omega (arith, slice.flight, offset, size, stands.acked);
    }))
    by e p after stands (offset, size, inr empty) = cannot (inr (
      sym offset ∙ ap (λ (g : PlacedSegment). g.offset) empty.empty ∙ stands.emitted,
      sym size ∙ ap (λ (g : PlacedSegment). length g.bytes) empty.empty,
    ))

-- ---- what each answer says

pub empty_slice : (s : EndState) (from len : ℕ) (g : Segment) → IsEmptySlice s from len → g ≡ segment_at s s.sent 0 → g ≡ segment_at s from len
empty_slice s from len g empty slice =
    slice ∙ ap (λ (n : ℕ). segment_at s s.sent n) (sym empty.1) ∙ ap (λ (offset : ℕ). segment_at s offset len) (sym empty.0)

pub empty_after : (s after : EndState) (from len : ℕ) → IsEmptySlice s from len → after ≡ record s { owed = false } → after ≡ emitted_at s from len
empty_after s after from len empty is = subst (λ (n : ℕ). after ≡ emitted_at s from n) (sym empty.1) is

pub slice_after : (s after : EndState) (from len : ℕ) → IsSlice s from len → after ≡ record s { sent = max s.sent (from + len) } → after ≡ emitted_at s from len
slice_after s after from len slice is =
    subst (λ (b : Bool). let t : EndState = if b then record s { owed = false } else record s { sent = max s.sent (from + len) } in after ≡ t)
    (sym (ne_eqb len 0 (λ zero. omega (arith, slice.some, zero)))) is

pub cannot_emit : (s : EndState) (from len : ℕ) → ¬ IsSlice s from len → ¬ IsEmptySlice s from len → ¬ CanEmit s from len
cannot_emit s from len no_slice no_empty = λ can. by can
  where
    by : CanEmit s from len → ⊥
    by (inl slice) = no_slice slice
    by (inr empty) = no_empty empty

pub none_exactly : (s : EndState) (from len : ℕ) → ¬ CanEmit s from len → (false ≡ true) ↔ CanEmit s from len
none_exactly s from len cannot = (λ no. absurd (false≢true no), λ can. absurd (cannot can))
