-- A run that is filled from bytes and the pieces that they reach.
use Rattle.std.proofs.Common.{◌≡◌, ℕ, suc, ◌+◌, ◌-◌, ◌<◌, ◌≤◌, max, List, [], ◌∷◌, ◌++◌, length, take}
use Rattle.std.proofs.Common.{drop, None, sym, ap, subst, ◌∙◌, arith, inl, inr, length-append}
use Rattle.std.specs.Prelude.{if◌then◌else◌}
use Rattle.std.proofs.lemmas.Bool.{cases_lt, le-leb, lt-leb}
use Rattle.std.proofs.lemmas.List.{length-drop, length-take}
use Rattle.std.proofs.lemmas.Option.{slice_get-get_or}
use Rattle.std.specs.List.{slice_get}
use Rattle.std.specs.Option.{option_or}
use Rattle.tcp_seq.specs.declared.state.Piece.{Piece}
use Rattle.tcp_reasm.specs.Runs.{held, AreRuns}
use Rattle.tcp_seq.specs.Endpoint.{byte_from}
use Rattle.tcp_end.specs.Filling.{reached, filled}
use Rattle.tcp_seq.proofs.Lookups.{get-append_left, get-append_right, get-drop, get-take}
use Rattle.tcp_reasm.proofs.Held.{held_below, runs-take, held_here, held_later}
use Rattle.tcp_seq.proofs.ByteFrom.{byte_there, byte_below}

-- The run from `at` on, of bytes from the offset expected next on and the first c of pieces that stand at `at` or above: it goes as
-- far as the bytes do, the other pieces stand above its end, and it has the pieces' bytes, else the given ones.
pub record Fills (bytes : List ℕ) (at : ℕ) (ps : List Piece) (c : ℕ) : Type 0 where
  pub within : at + length (filled bytes at (take c ps)) ≤ 16384
  pub past : length bytes ≤ at + length (filled bytes at (take c ps))
  pub runs : AreRuns (at + length (filled bytes at (take c ps)) + 1) (drop c ps)
  pub each : (k : ℕ) → at ≤ k → slice_get (filled bytes at (take c ps)) (k - at) ≡ option_or (held (take c ps) k) (byte_from 0 bytes k)

-- no further piece is reached
fills_stop : (bytes : List ℕ) (at : ℕ) (ps : List Piece) → at ≤ 16384 → length bytes ≤ 16384
    → AreRuns (at + (length bytes - at) + 1) ps → Fills bytes at ps 0
fills_stop bytes at ps within fits runs =
    let n : length (drop at bytes) ≡ length bytes - at = length-drop at bytes in
    record {
      within = rw n (omega arith);
      past = rw n (omega arith);
      runs = rw n runs;
      each = λ k above. get-drop at bytes (k - at) (k - 0) (omega (arith, above)) ∙ sym (byte_there 0 bytes k (omega arith));
    }

-- the part of the bytes up to a piece
gap_length : (bytes : List ℕ) (at p : ℕ) → at ≤ p → p ≤ max at (length bytes) → length (take (p - at) (drop at bytes)) ≡ p - at
gap_length bytes at p above within = omega (arith, length-take (p - at) (drop at bytes), length-drop at bytes)

-- one more piece is reached
fills_each : (bytes : List ℕ) (at : ℕ) (p : Piece) (ps : List Piece) (rest : List ℕ) → at ≤ p.offset → p.offset ≤ max at (length bytes)
    → AreRuns (p.offset + length p.bytes) ps
    → ((k : ℕ) → p.offset + length p.bytes ≤ k → slice_get rest (k - (p.offset + length p.bytes)) ≡ option_or (held ps k) (byte_from 0 bytes k))
    → (k : ℕ) → at ≤ k → slice_get (take (p.offset - at) (drop at bytes) ++ (p.bytes ++ rest)) (k - at) ≡ option_or (held (p ∷ ps) k) (byte_from 0 bytes k)
fills_each bytes at p ps rest above within runs more k here =
    let gap = take (p.offset - at) (drop at bytes) in
    let n : length gap ≡ p.offset - at = gap_length bytes at p.offset above within in
    elim (cases_lt k p.offset) [
      | inl below ↦
          let none : held (p ∷ ps) k ≡ None = ap (λ o. option_or o (held ps k)) (byte_below p.offset p.bytes k below)
          ∙ held_below (p.offset + length p.bytes) ps k runs (omega (arith, below)) in
          get-append_left gap (p.bytes ++ rest) (k - at) (omega (arith, n, below, here))
          ∙ get-take (p.offset - at) (drop at bytes) (k - at) (omega (arith, below, here, above))
          ∙ get-drop at bytes (k - at) (k - 0) (omega (arith, here))
          ∙ sym (byte_there 0 bytes k (omega arith))
          ∙ sym (ap (λ o. option_or o (byte_from 0 bytes k)) none)
      | inr not_below ↦ elim (cases_lt k (p.offset + length p.bytes)) [
        | inl inside ↦
            get-append_right gap (p.bytes ++ rest) (k - at) (k - p.offset) (omega (arith, n, not_below, above))
            ∙ get-append_left p.bytes rest (k - p.offset) (omega (arith, inside, not_below))
            ∙ slice_get-get_or p.bytes (k - p.offset) 0 (omega (arith, inside, not_below))
            ∙ sym (ap (λ o. option_or o (byte_from 0 bytes k)) (held_here p ps k not_below inside))
        | inr beyond ↦
            get-append_right gap (p.bytes ++ rest) (k - at) (k - p.offset) (omega (arith, n, not_below, above))
            ∙ get-append_right p.bytes rest (k - p.offset) (k - (p.offset + length p.bytes)) (omega (arith, beyond))
            ∙ more k beyond
            ∙ sym (ap (λ o. option_or o (byte_from 0 bytes k)) (held_later p ps k beyond))
      ]
    ]

fills_more : (bytes : List ℕ) (at : ℕ) (p : Piece) (ps : List Piece) (c : ℕ) → at ≤ p.offset → p.offset ≤ max at (length bytes)
    → AreRuns (p.offset + length p.bytes) ps
    → Fills bytes (p.offset + length p.bytes) ps c → Fills bytes at (p ∷ ps) (suc c)
fills_more bytes at p ps c above within runs more =
    let rest = filled bytes (p.offset + length p.bytes) (take c ps) in
    let gap = take (p.offset - at) (drop at bytes) in
    let n : length gap ≡ p.offset - at = gap_length bytes at p.offset above within in
    let all : at + length (gap ++ (p.bytes ++ rest)) ≡ p.offset + length p.bytes + length rest =
    omega (arith, length-append gap (p.bytes ++ rest), length-append p.bytes rest, n, above) in
    record {
      within = rw all more.within;
      past = rw all more.past;
      runs = rw all more.runs;
      each = fills_each bytes at p (take c ps) rest above within (runs-take (p.offset + length p.bytes) c ps runs) more.each;
    }

reached_more : (end next : ℕ) (p : Piece) (ps : List Piece) → p.offset ≤ end → next ≡ max end (p.offset + length p.bytes)
    → reached end (p ∷ ps) ≡ suc (reached next ps)
reached_more end next p ps le is = ap (λ b. if b then suc (reached (max end (p.offset + length p.bytes)) ps) else 0) (le-leb p.offset end le)
    ∙ ap (λ (n : ℕ). suc (reached n ps)) (sym is)

reached_none : (end : ℕ) (p : Piece) (ps : List Piece) → end < p.offset → reached end (p ∷ ps) ≡ 0
reached_none end p ps above = ap (λ b. if b then suc (reached (max end (p.offset + length p.bytes)) ps) else 0) (lt-leb p.offset end above)

pub fills : (bytes : List ℕ) (at : ℕ) (ps : List Piece) → at ≤ 16384 → length bytes ≤ 16384 → AreRuns at ps
    → Fills bytes at ps (reached (max at (length bytes)) ps)
fills bytes at [] within fits runs = fills_stop bytes at [] within fits tt
fills bytes at (p ∷ ps) within fits runs = elim (cases_lt (max at (length bytes)) p.offset) [
  | inl above ↦ subst (Fills bytes at (p ∷ ps)) (sym (reached_none (max at (length bytes)) p ps above))
      (fills_stop bytes at (p ∷ ps) within fits (omega (arith, above), runs.1, runs.2, runs.3))
  | inr le ↦ subst (Fills bytes at (p ∷ ps))
      (sym (reached_more (max at (length bytes)) (max (p.offset + length p.bytes) (length bytes)) p ps le (omega (arith, runs.0, le))))
      (fills_more bytes at p ps _ runs.0 le runs.3
      (fills bytes (p.offset + length p.bytes) ps runs.2 fits runs.3))
]
