-- What 32-bit numbers of a segment say of offsets, for streams of at most 1 MiB.
use Rattle.std.proofs.Common.{◌≡◌, ℕ, ◌+◌, ◌-◌, ◌^◌, ◌<◌, ◌≤◌, List, [], ◌∷◌, length, Bool, None, refl, sym, ap, subst, ◌∙◌, arith, inl, inr}
use Rattle.std.specs.Prelude.{nat_lt, nat_le, max, if◌then◌else◌}
use Rattle.std.specs.List.{slice_get}
use Rattle.std.specs.Option.{option_or}
use Rattle.std.proofs.lemmas.Bool.{cases_lt, lt-ltb, le-ltb, lt-leb, le-leb}
use Rattle.std.proofs.lemmas.Option.{slice_get_past}
use Rattle.tcp_seq.specs.Numbers.{plus, offset_from, number}
use Rattle.tcp_seq.specs.Rules.{Acceptable, AcceptableOffset, IsAck, IsInWindow, IsOffsetInWindow}
use Rattle.tcp_seq.specs.declared.rules.AckKind.TheVariants.{New, Beyond}
use Rattle.tcp_seq.specs.declared.state.Piece.{Piece}
use Rattle.tcp_reasm.specs.Runs.{held}
use Rattle.tcp_seq.specs.Endpoint.{byte_from}
use Rattle.tcp_reasm.specs.Reassembly.{brought}
use Rattle.tcp_end.specs.State.{LieFrom, counted_from}
use Rattle.tcp_end.proofs.Counted.{byte_counted}
use Rattle.tcp_seq.proofs.ByteFrom.{byte_below, byte_there}

-- the offset of a number from another, by offsets
pub ahead_offset : (f next offset : ℕ) → next ≤ offset → offset < 2 ^ 31 → offset_from (number f offset) (number f next) ≡ offset - next
ahead_offset f next offset le fits = omega (arith, le, fits)

pub behind_offset : (f next offset : ℕ) → offset < next → next < 2 ^ 31 → offset_from (number f offset) (number f next) ≡ 2 ^ 32 - (next - offset)
behind_offset f next offset below fits = omega (arith, below, fits)

plus_number : (f offset n : ℕ) → plus (number f offset) n ≡ number f (offset + n)
plus_number f offset n = omega arith

in_window : (f next offset : ℕ) → next < 2 ^ 31 → offset < 2 ^ 31 → IsInWindow (number f next) 16384 (number f offset) → IsOffsetInWindow next 16384 offset
in_window f next offset small fits is = elim (cases_lt offset next) [
  | inl below ↦ absurd (omega (arith, behind_offset f next offset below small, is, small, below))
  | inr from ↦ (from, omega (arith, ahead_offset f next offset from fits, is, from))
]

window_in : (f next offset : ℕ) → next < 2 ^ 31 → offset < 2 ^ 31 → IsOffsetInWindow next 16384 offset → IsInWindow (number f next) 16384 (number f offset)
window_in f next offset small fits is = omega (arith, ahead_offset f next offset is.0 fits, is.0, is.1)

last_number : (f offset len : ℕ) → 0 < len → plus (number f offset) (len - 1) ≡ number f (offset + len - 1)
last_number f offset len some = plus_number f offset (len - 1) ∙ ap (number f) (let e : offset + (len - 1) ≡ offset + len - 1 = omega (arith, some) in e)

pub acceptable_offset : (f next offset len : ℕ) → next < 2 ^ 30 → offset < 2 ^ 30 → len < 2 ^ 16 → Acceptable (number f next) 16384 (number f offset) len
    → AcceptableOffset next 16384 offset len
acceptable_offset f next offset len small fits short (inl h) = absurd (omega (arith, h.1))
acceptable_offset f next offset len small fits short (inr (inl h)) =
    inr (inl (h.0, h.1, in_window f next offset (omega (arith, small)) (omega (arith, fits)) h.2))
acceptable_offset f next offset len small fits short (inr (inr (some, open', inl first))) =
    inr (inr (some, open', inl (in_window f next offset (omega (arith, small)) (omega (arith, fits)) first)))
acceptable_offset f next offset len small fits short (inr (inr (some, open', inr last))) =
    inr (inr (
      some,
      open',
      inr (in_window f next (offset + len - 1) (omega (arith, small)) (omega (arith, fits, short))
          (subst (λ (n : ℕ). IsInWindow (number f next) 16384 n) (last_number f offset len some) last)),
    ))

pub offset_acceptable : (f next offset len : ℕ) → next < 2 ^ 30 → offset < 2 ^ 30 → len < 2 ^ 16 → AcceptableOffset next 16384 offset len
    → Acceptable (number f next) 16384 (number f offset) len
offset_acceptable f next offset len small fits short (inl h) = absurd (omega (arith, h.1))
offset_acceptable f next offset len small fits short (inr (inl h)) =
    inr (inl (h.0, h.1, window_in f next offset (omega (arith, small)) (omega (arith, fits)) h.2))
offset_acceptable f next offset len small fits short (inr (inr (some, open', inl first))) =
    inr (inr (some, open', inl (window_in f next offset (omega (arith, small)) (omega (arith, fits)) first)))
offset_acceptable f next offset len small fits short (inr (inr (some, open', inr last))) =
    inr (inr (
      some,
      open',
      inr (subst (λ (n : ℕ). IsInWindow (number f next) 16384 n) (sym (last_number f offset len some))
          (window_in f next (offset + len - 1) (omega (arith, small)) (omega (arith, fits, short)) last)),
    ))

-- what an acknowledgement says
pub beyond_offset : (f acked emitted ack : ℕ) → acked ≤ emitted → emitted < 2 ^ 30 → ack < 2 ^ 30
    → IsAck Beyond (number f acked) (number f emitted) (number f ack) → emitted < ack
beyond_offset f acked emitted ack le small fits is = elim (cases_lt ack acked) [
  | inl below ↦ absurd (omega (arith, behind_offset f acked ack below (omega (arith, le, small)), is.1, le, small, below))
  | inr from ↦ omega (arith, ahead_offset f acked ack from (omega (arith, fits)), ahead_offset f acked emitted le (omega (arith, small)), is.0, from, le)
]

pub offset_beyond : (f acked emitted ack : ℕ) → acked ≤ emitted → emitted < 2 ^ 30 → ack < 2 ^ 30 → emitted < ack
    → IsAck Beyond (number f acked) (number f emitted) (number f ack)
offset_beyond f acked emitted ack le small fits past =
    let ahead : offset_from (number f ack) (number f acked) ≡ ack - acked = ahead_offset f acked ack (omega (arith, le, past)) (omega (arith, fits)) in
    (omega (arith, ahead, ahead_offset f acked emitted le (omega (arith, small)), past, le), omega (arith, ahead, fits))

-- how many outstanding bytes it acknowledges
pub newly_offset : (f acked emitted ack : ℕ) → acked ≤ emitted → emitted < 2 ^ 30 → ack < 2 ^ 30 → ack ≤ emitted
    → acked + (let ahead = offset_from (number f ack) (number f acked) in if nat_le ahead (emitted - acked) then ahead else 0) ≡ max acked ack
newly_offset f acked emitted ack le small fits within = elim (cases_lt ack acked) [
  | inl below ↦
      let far : offset_from (number f ack) (number f acked) ≡ 2 ^ 32 - (acked - ack) = behind_offset f acked ack below (omega (arith, le, small)) in
      ap (λ (b : Bool). acked + (if b then offset_from (number f ack) (number f acked) else 0))
      (lt-leb (offset_from (number f ack) (number f acked)) (emitted - acked) (omega (arith, far, small, below, le)))
      ∙ omega (arith, below)
  | inr from ↦
      let near : offset_from (number f ack) (number f acked) ≡ ack - acked = ahead_offset f acked ack from (omega (arith, fits)) in
      ap (λ (b : Bool). acked + (if b then offset_from (number f ack) (number f acked) else 0))
      (le-leb (offset_from (number f ack) (number f acked)) (emitted - acked) (omega (arith, near, within)))
      ∙ omega (arith, near, from)
]

pub new_offset : (f acked emitted ack : ℕ) → acked ≤ emitted → emitted < 2 ^ 30 → ack < 2 ^ 30 → ack ≤ emitted
    → (¬ IsAck New (number f acked) (number f emitted) (number f ack)) → ack ≤ acked
new_offset f acked emitted ack le small fits within none = elim (cases_lt acked ack) [
  | inl above ↦
      let near : offset_from (number f ack) (number f acked) ≡ ack - acked = ahead_offset f acked ack (omega (arith, above)) (omega (arith, fits)) in
      absurd (none (omega (arith, near, above), omega (arith, near, ahead_offset f acked emitted le (omega (arith, small)), within, above)))
  | inr not ↦ not
]

-- the flight keeps the numbers of what is outstanding together
pub flight_offset : (f acked emitted : ℕ) → acked ≤ emitted → emitted ≤ acked + 15360 → offset_from (number f emitted) (number f acked) ≤ 15360
flight_offset f acked emitted le within = omega (arith, le, within)

-- the bytes of a segment stand at their offsets
pub brought_offset : (f next offset : ℕ) (bytes : List ℕ) (k : ℕ) → next < 2 ^ 30 → offset < 2 ^ 30 → length bytes < 2 ^ 16
    → brought (number f next) (number f offset) bytes k ≡ (if nat_lt k 16384 then byte_from offset bytes (next + k) else None)
brought_offset f next offset bytes k small fits short = elim (cases_lt k 16384) [
  | inr past ↦ ap (λ (b : Bool). if b then slice_get bytes (offset_from (plus (number f next) k) (number f offset)) else None) (le-ltb k 16384 past)
      ∙ sym (ap (λ (b : Bool). if b then byte_from offset bytes (next + k) else None) (le-ltb k 16384 past))
  | inl within ↦ ap (λ (b : Bool). if b then slice_get bytes (offset_from (plus (number f next) k) (number f offset)) else None) (lt-ltb k 16384 within)
      ∙ ap (λ (n : ℕ). slice_get bytes (offset_from n (number f offset))) (plus_number f next k)
      ∙ elim (cases_lt (next + k) offset) as (λ _. slice_get bytes (offset_from (number f (next + k)) (number f offset)) ≡ byte_from offset bytes (next + k)) [
        | inl below ↦ slice_get_past bytes _ (omega (arith, behind_offset f offset (next + k) below (omega (arith, fits)), short, fits, below))
            ∙ sym (byte_below offset bytes (next + k) below)
        | inr from ↦ ap (slice_get bytes) (ahead_offset f offset (next + k) from (omega (arith, small, within))) ∙ sym (byte_there offset bytes (next + k) from)
      ]
      ∙ sym (ap (λ (b : Bool). if b then byte_from offset bytes (next + k) else None) (lt-ltb k 16384 within))
]

-- pieces counted from the offset expected next
pub held_from : (base low high : ℕ) (ps : List Piece) (k : ℕ) → base ≤ low → high < 2 ^ 32 → LieFrom low high ps
    → held (counted_from base ps) k ≡ held ps (base + k)
held_from base low high [] k above fits lie = refl
held_from base low high (p ∷ ps) k above fits lie =
    let at : offset_from p.offset base ≡ p.offset - base = omega (arith, lie.0, lie.2, above, fits) in
    ap (λ o. option_or o (held (counted_from base ps) k)) (byte_counted base p.offset (offset_from p.offset base) p.bytes k (omega (arith, above, lie.0)) at)
    ∙ ap (option_or (byte_from p.offset p.bytes (base + k))) (held_from base (p.offset + length p.bytes) high ps k (omega (arith, above, lie.0)) fits lie.3)
