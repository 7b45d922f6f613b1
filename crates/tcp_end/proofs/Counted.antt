-- Pieces whose offsets are counted from another offset.
use Rattle.std.proofs.Common.{◌≡◌, ℕ, ◌+◌, ◌-◌, ◌^◌, ◌<◌, ◌≤◌, List, [], ◌∷◌, ◌++◌, length, take, drop, refl, sym, ap, subst, ◌∙◌, arith, get_or, set, inl, inr}
use Rattle.std.proofs.lemmas.Bool.{cases_lt}
use Rattle.std.specs.List.{slice_get}
use Rattle.std.specs.Option.{option_or}
use Rattle.std.proofs.lemmas.List.Edits.{map_over_more}
use Rattle.tcp_seq.specs.Numbers.{plus, offset_from}
use Rattle.tcp_seq.specs.declared.state.Piece.{Piece}
use Rattle.tcp_reasm.specs.Runs.{held, AreRuns}
use Rattle.tcp_seq.specs.Endpoint.{byte_from}
use Rattle.tcp_end.specs.State.{counted_from, raised}
use Rattle.tcp_reasm.proofs.Held.{runs_from}
use Rattle.tcp_seq.proofs.ByteFrom.{byte_below, byte_there}

-- one more piece is counted from an offset
pub counted_more : (base : ℕ) (xs ys : List Piece) (i : ℕ) (x : Piece) (offset : ℕ) → i < length xs → ys ≡ counted_from base (take i xs) ++ drop i xs
    → x ≡ get_or ys i x → offset ≡ offset_from (get_or ys i x).offset base
    → set ys i (record { offset = offset; bytes = (get_or ys i x).bytes }) ≡ counted_from base (take (i + 1) xs) ++ drop (i + 1) xs
counted_more base xs ys i x offset below is read moves =
    let f : Piece → Piece = λ p. record p { offset = offset_from p.offset base } in
    let same : record { offset = offset; bytes = (get_or ys i x).bytes } ≡ f x = rw (moves, ← read) refl in
    ap (set ys i) same ∙ map_over_more f xs ys i x below is read

pub raised_more : (base : ℕ) (xs ys : List Piece) (i : ℕ) (x : Piece) (offset : ℕ) → i < length xs → ys ≡ raised base (take i xs) ++ drop i xs
    → x ≡ get_or ys i x → offset ≡ plus (get_or ys i x).offset base
    → set ys i (record { offset = offset; bytes = (get_or ys i x).bytes }) ≡ raised base (take (i + 1) xs) ++ drop (i + 1) xs
raised_more base xs ys i x offset below is read moves =
    let f : Piece → Piece = λ p. record p { offset = plus p.offset base } in
    let same : record { offset = offset; bytes = (get_or ys i x).bytes } ≡ f x = rw (moves, ← read) refl in
    ap (set ys i) same ∙ map_over_more f xs ys i x below is read

-- in a window, counting from an offset below the pieces is taking that offset away
counted_offset : (base offset : ℕ) → base ≤ offset → offset ≤ 2 ^ 31 → offset_from offset base ≡ offset - base
counted_offset base offset le fits = omega (arith, le, fits)

pub runs-counted : (base low : ℕ) (ps : List Piece) → AreRuns (base + low) ps → AreRuns low (counted_from base ps)
runs-counted base low [] runs = tt
runs-counted base low (p ∷ ps) runs =
    let at : offset_from p.offset base ≡ p.offset - base = counted_offset base p.offset (omega (arith, runs.0)) (omega (arith, runs.2)) in
    let next : p.offset + length p.bytes ≡ base + (offset_from p.offset base + length p.bytes) = omega (arith, at, runs.0) in (
      omega (arith, at, runs.0),
      runs.1,
      omega (arith, at, runs.2, runs.0),
      runs-counted base (offset_from p.offset base + length p.bytes) ps (subst (λ (n : ℕ). AreRuns n ps) next runs.3),
    )

pub byte_counted : (base offset moved : ℕ) (bytes : List ℕ) (k : ℕ) → base ≤ offset → moved ≡ offset - base
    → byte_from moved bytes k ≡ byte_from offset bytes (base + k)
byte_counted base offset moved bytes k le is = elim (cases_lt k moved) [
  | inl below ↦ byte_below moved bytes k below ∙ sym (byte_below offset bytes (base + k) (omega (arith, below, is)))
  | inr there ↦ byte_there moved bytes k there ∙ ap (slice_get bytes) (let e : k - moved ≡ base + k - offset = omega (arith, there, le, is) in e)
      ∙ sym (byte_there offset bytes (base + k) (omega (arith, there, le, is)))
]

-- what is held at an offset
pub held-counted : (base : ℕ) (ps : List Piece) (k : ℕ) → AreRuns base ps → held (counted_from base ps) k ≡ held ps (base + k)
held-counted base [] k runs = refl
held-counted base (p ∷ ps) k runs =
    let at : offset_from p.offset base ≡ p.offset - base = counted_offset base p.offset runs.0 (omega (arith, runs.2)) in
    ap (λ o. option_or o (held (counted_from base ps) k)) (byte_counted base p.offset (offset_from p.offset base) p.bytes k runs.0 at)
    ∙ ap (option_or (byte_from p.offset p.bytes (base + k)))
    (held-counted base ps k (runs_from base (p.offset + length p.bytes) ps (omega (arith, runs.0)) runs.3))

-- what is left of pieces where the first are taken out, and the others are counted from the offset behind them
pub runs_skipped : (ahead pieces rest counted after : List Piece) (count by low : ℕ) → low ≤ 1 → AreRuns (by + 1) (drop count ahead)
    → pieces ≡ ahead → rest ≡ drop count pieces → counted ≡ counted_from by rest → after ≡ counted → AreRuns low after
runs_skipped ahead pieces rest counted after count by low le runs taken rests counts is =
    rw (is ∙ counts ∙ ap (counted_from by) (rests ∙ ap (drop count) taken))
    (runs_from low 1 (counted_from by (drop count ahead)) le (runs-counted by 1 (drop count ahead) runs))
