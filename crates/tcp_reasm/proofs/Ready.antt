-- What is taken from the front of a list of pieces.
use Rattle.std.proofs.Common.{◌≡◌, ℕ, zero, suc, ◌+◌, ◌-◌, ◌<◌, ◌≤◌, List, [], ◌∷◌, ◌++◌, length, take, drop, None, refl}
use Rattle.std.proofs.Common.{sym, ap, subst, ◌∙◌, arith, inl, inr, get_or, set, eq-eqb, length-append}
use Rattle.std.specs.Prelude.{if◌then◌else◌}
use Rattle.std.proofs.lemmas.List.Edits.{map_over_more}
use Rattle.std.proofs.lemmas.Bool.{cases_lt, ne_eqb}
use Rattle.std.proofs.lemmas.List.{length-take, length-drop, get_or-take, get_or-drop, ext_get_or}
use Rattle.std.proofs.lemmas.Option.{slice_get-get_or}
use Rattle.std.specs.List.{slice_get}
use Rattle.std.specs.Option.{option_or}
use Rattle.tcp_seq.specs.Numbers.{plus}
use Rattle.tcp_seq.specs.declared.state.Piece.{Piece}
use Rattle.tcp_reasm.specs.Runs.{held, AreRuns}
use Rattle.tcp_seq.specs.Endpoint.{byte_from}
use Rattle.tcp_reasm.specs.Steps.{in_order, piece_bytes, lowered}
use Rattle.tcp_reasm.specs.Reassembly.{TakesReady}
use Rattle.tcp_reasm.proofs.Held.{held_below, runs_from, held_here, held_later}
use Rattle.tcp_seq.proofs.ByteFrom.{byte_there, byte_below}
use Rattle.tcp_seq.proofs.Lookups.{get-append_left, get-append_right}

pub runs-lowered : (by low : ℕ) (ps : List Piece) → AreRuns (by + low) ps → AreRuns low (lowered by ps)
runs-lowered by low [] runs = tt
runs-lowered by low (p ∷ ps) runs =
    let next : p.offset + length p.bytes ≡ by + (p.offset - by + length p.bytes) = omega (arith, runs.0) in (
      omega (arith, runs.0),
      runs.1,
      omega (arith, runs.2, runs.0),
      runs-lowered by (p.offset - by + length p.bytes) ps (subst (λ (n : ℕ). AreRuns n ps) next runs.3),
    )

byte_lowered : (by offset : ℕ) (bytes : List ℕ) (k : ℕ) → by ≤ offset → byte_from (offset - by) bytes k ≡ byte_from offset bytes (by + k)
byte_lowered by offset bytes k le = elim (cases_lt k (offset - by)) [
  | inl below ↦ byte_below (offset - by) bytes k below ∙ sym (byte_below offset bytes (by + k) (omega (arith, below)))
  | inr there ↦ byte_there (offset - by) bytes k there
      ∙ ap (slice_get bytes) (let e : k - (offset - by) ≡ by + k - offset = omega (arith, there, le) in e)
      ∙ sym (byte_there offset bytes (by + k) (omega (arith, there, le)))
]

held-lowered : (by : ℕ) (ps : List Piece) (k : ℕ) → AreRuns by ps → held (lowered by ps) k ≡ held ps (by + k)
held-lowered by [] k runs = refl
held-lowered by (p ∷ ps) k runs =
    ap (λ o. option_or o (held (lowered by ps) k)) (byte_lowered by p.offset p.bytes k runs.0)
    ∙ ap (option_or (byte_from p.offset p.bytes (by + k))) (held-lowered by ps k (runs_from by (p.offset + length p.bytes) ps (omega (arith, runs.0)) runs.3))

-- the first pieces have no more bytes than the window has offsets
pub bytes_fit : (at n : ℕ) (ps : List Piece) → at ≤ 16384 → AreRuns at ps → at + length (piece_bytes (take n ps)) ≤ 16384
bytes_fit at zero ps fits runs = omega (arith, fits)
bytes_fit at (suc n) [] fits runs = omega (arith, fits)
bytes_fit at (suc n) (p ∷ ps) fits runs =
    omega (arith, length-append p.bytes (piece_bytes (take n ps)), bytes_fit (p.offset + length p.bytes) n ps runs.2 runs.3, runs.0)

-- the first n pieces stand one behind the other from `at` on, and no byte stands behind them
pub record InOrder (at : ℕ) (ps : List Piece) (n : ℕ) : Type 0 where
  pub each : (k : ℕ) → at ≤ k → k < at + length (piece_bytes (take n ps)) → held ps k ≡ slice_get (piece_bytes (take n ps)) (k - at)
  pub ends : held ps (at + length (piece_bytes (take n ps))) ≡ None
  pub behind : (k : ℕ) → at + length (piece_bytes (take n ps)) ≤ k → held ps k ≡ held (drop n ps) k
  pub runs : AreRuns (at + length (piece_bytes (take n ps))) (drop n ps)

-- a hole
stops : (at : ℕ) (ps : List Piece) → AreRuns at ps → held ps at ≡ None → InOrder at ps 0
stops at ps runs none =
    let here : at + 0 ≡ at = omega arith in
    record {
      each = λ k from below. absurd (omega (arith, from, below));
      ends = ap (held ps) here ∙ none;
      behind = λ k past. refl;
      runs = subst (λ (n : ℕ). AreRuns n ps) (sym here) runs;
    }

-- one more piece
goes_on : (at : ℕ) (p : Piece) (ps : List Piece) (n : ℕ) → p.offset ≡ at → 0 < length p.bytes → AreRuns (p.offset + length p.bytes) ps
    → InOrder (at + length p.bytes) ps n → InOrder at (p ∷ ps) (suc n)
goes_on at p ps n is some runs more =
    let rest = piece_bytes (take n ps) in
    let end : at + length (p.bytes ++ rest) ≡ at + length p.bytes + length rest = omega (arith, length-append p.bytes rest) in
    record {
      each = λ k from below. elim (cases_lt k (at + length p.bytes)) [
        | inl inside ↦ held_here p ps k (omega (arith, is, from)) (omega (arith, is, inside))
            ∙ sym (slice_get-get_or p.bytes (k - p.offset) 0 (omega (arith, is, from, inside)))
            ∙ sym (get-append_left p.bytes rest (k - p.offset) (omega (arith, is, from, inside)))
            ∙ ap (slice_get (p.bytes ++ rest)) (let e : k - p.offset ≡ k - at = omega (arith, is) in e)
        | inr beyond ↦ held_later p ps k (omega (arith, is, beyond)) ∙ more.each k beyond (omega (arith, end, below))
            ∙ sym (get-append_right p.bytes rest (k - at) (k - (at + length p.bytes)) (omega (arith, beyond)))
      ];
      ends = ap (held (p ∷ ps)) end ∙ held_later p ps (at + length p.bytes + length rest) (omega (arith, is)) ∙ more.ends;
      behind = λ k past. held_later p ps k (omega (arith, is, past, end)) ∙ more.behind k (omega (arith, past, end));
      runs = subst (λ (m : ℕ). AreRuns m (drop n ps)) (sym end) more.runs;
    }

pub are_in_order : (at : ℕ) (ps : List Piece) → AreRuns at ps → InOrder at ps (in_order at ps)
are_in_order at [] runs = stops at [] tt refl
are_in_order at (p ∷ ps) runs = elim (cases_lt at p.offset) [
  | inl above ↦
      subst (λ b. InOrder at (p ∷ ps) (if b then suc (in_order (at + length p.bytes) ps) else 0)) (sym (ne_eqb p.offset at (λ e. omega (arith, above, e))))
      (stops at (p ∷ ps) runs (held_below p.offset (p ∷ ps) at (omega arith, runs.1, runs.2, runs.3) above))
  | inr le ↦
      let is : p.offset ≡ at = omega (arith, le, runs.0) in
      let end : p.offset + length p.bytes ≡ at + length p.bytes = omega (arith, is) in
      subst (λ b. InOrder at (p ∷ ps) (if b then suc (in_order (at + length p.bytes) ps) else 0)) (sym (eq-eqb p.offset at is))
      (goes_on at p ps (in_order (at + length p.bytes) ps) is runs.1 runs.3
      (are_in_order (at + length p.bytes) ps (subst (λ (n : ℕ). AreRuns n ps) end runs.3)))
]

-- the pieces that are taken
pub takes_ready : (next after : ℕ) (ps left : List Piece) (out out' : List ℕ) (count len : ℕ) → AreRuns 0 ps → count ≡ in_order 0 ps
    → len ≡ length (piece_bytes (take count ps)) → out' ≡ out ++ piece_bytes (take count ps)
    → left ≡ lowered len (drop count ps) → after ≡ plus next len
    → TakesReady (record { next = next; pieces = ps }) (record { next = after; pieces = left }) out out' len
takes_ready next after ps left out out' count len runs counts lens appends lowers moves =
    let all : InOrder 0 ps count = subst (InOrder 0 ps) (sym counts) (are_in_order 0 ps runs) in
    let end : 0 + length (piece_bytes (take count ps)) ≡ len = omega (arith, lens) in
    let above : AreRuns len (drop count ps) = subst (λ (n : ℕ). AreRuns n (drop count ps)) end all.runs in
    record {
      given = piece_bytes (take count ps);
      counted = sym lens;
      appended = appends;
      each = λ k below. all.each k (omega arith) (omega (arith, below, end))
          ∙ ap (slice_get (piece_bytes (take count ps))) (let e : k - 0 ≡ k = omega arith in e);
      ends = ap (held ps) (sym end) ∙ all.ends;
      next = moves;
      ahead = λ k. ap (λ qs. held qs k) lowers ∙ held-lowered len (drop count ps) k above ∙ sym (all.behind (len + k) (omega (arith, end)));
    }

pub runs_left : (ps left : List Piece) (count len : ℕ) → AreRuns 0 ps → count ≡ in_order 0 ps → len ≡ length (piece_bytes (take count ps))
    → left ≡ lowered len (drop count ps) → AreRuns 0 left
runs_left ps left count len runs counts lens lowers =
    let all : InOrder 0 ps count = subst (InOrder 0 ps) (sym counts) (are_in_order 0 ps runs) in
    let end : 0 + length (piece_bytes (take count ps)) ≡ len + 0 = omega (arith, lens) in
    rw lowers (runs-lowered len 0 (drop count ps) (subst (λ (n : ℕ). AreRuns n (drop count ps)) end all.runs))

-- one more piece is counted from later
pub lowered_more : (by : ℕ) (xs ys : List Piece) (i : ℕ) (x : Piece) (offset : ℕ) → i < length xs → ys ≡ lowered by (take i xs) ++ drop i xs
    → x ≡ get_or ys i x → offset ≡ (get_or ys i x).offset - by
    → set ys i (record { offset = offset; bytes = (get_or ys i x).bytes }) ≡ lowered by (take (i + 1) xs) ++ drop (i + 1) xs
lowered_more by xs ys i x offset below is read moves =
    let f : Piece → Piece = λ p. record p { offset = p.offset - by } in
    let same : record { offset = offset; bytes = (get_or ys i x).bytes } ≡ f x = rw (moves, ← read) refl in
    ap (set ys i) same ∙ map_over_more f xs ys i x below is read

-- the pieces behind the first ones, at the front
pub front_removed : (xs ys : List Piece) (count left : ℕ) → count ≤ length xs → left ≡ length xs - count → length ys ≡ length xs
    → ((k : ℕ) (d : Piece) → k < left → get_or ys k d ≡ get_or xs (k + count) d) → take left ys ≡ drop count xs
front_removed xs ys count left within lefts same moved =
    let none : Piece = record { offset = 0; bytes = [] } in
    let n : length (take left ys) ≡ length (drop count xs) = omega (arith, lefts, same, within, length-take left ys, length-drop count xs) in
    ext_get_or none (take left ys) (drop count xs) n (λ i below.
    let low : i < left = omega (arith, below, lefts, length-take left ys, same) in
    get_or-take left ys i none low ∙ moved i none low
    ∙ ap (λ (j : ℕ). get_or xs j none) (let e : i + count ≡ count + i = omega arith in e) ∙ sym (get_or-drop count xs i none))
