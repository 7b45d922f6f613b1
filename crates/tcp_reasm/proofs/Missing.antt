-- The runs of bytes that stand between pieces and behind them.
use Rattle.std.proofs.Common.{◌≡◌, ℕ, suc, ◌+◌, ◌-◌, ◌<◌, ◌≤◌, List, [], ◌∷◌, ◌++◌, length, take, drop}
use Rattle.std.proofs.Common.{Option, Some, None, refl, sym, ap, subst, ◌∙◌, arith, inl, inr, max}
use Rattle.std.specs.Prelude.{if◌then◌else◌}
use Rattle.std.proofs.lemmas.Bool.{cases_lt, lt-ltb, le-ltb, le-leb, lt-leb}
use Rattle.std.proofs.lemmas.List.{length-drop, length-take, take_all}
use Rattle.std.specs.Option.{option_or}
use Rattle.tcp_seq.specs.declared.state.Piece.{Piece}
use Rattle.tcp_reasm.specs.Runs.{held, AreRuns}
use Rattle.tcp_seq.specs.Endpoint.{byte_from}
use Rattle.tcp_reasm.specs.Steps.{passed, begun_below, run_between, runs_outside, where_none}
use Rattle.tcp_seq.proofs.Lookups.{get-drop, get-take, or_none}
use Rattle.tcp_reasm.proofs.Held.{held_below, held-append, held_here, held_later, runs_from, runs-take, runs-drop}
use Rattle.tcp_seq.proofs.ByteFrom.{byte_there, byte_below, byte_past}

-- the piece from `at` up to `to`
abbrev pub run : ℕ → List ℕ → ℕ → ℕ → Piece
run offset bytes at to = record { offset = at; bytes = take (to - at) (drop (at - offset) bytes) }

run_some : (offset : ℕ) (bytes : List ℕ) (at to : ℕ) → at < to → run_between offset bytes at to ≡ run offset bytes at to ∷ []
run_some offset bytes at to below = ap (λ b. if b then run offset bytes at to ∷ [] else []) (lt-ltb at to below)

run_none : (offset : ℕ) (bytes : List ℕ) (at to : ℕ) → to ≤ at → run_between offset bytes at to ≡ []
run_none offset bytes at to above = ap (λ b. if b then run offset bytes at to ∷ [] else []) (le-ltb at to above)

run_length : (offset : ℕ) (bytes : List ℕ) (at to : ℕ) → offset ≤ at → to ≤ offset + length bytes → length (take (to - at) (drop (at - offset) bytes)) ≡ to - at
run_length offset bytes at to from within = omega (arith, length-take (to - at) (drop (at - offset) bytes), length-drop (at - offset) bytes)

-- a run, and then others above it
run_runs : (offset : ℕ) (bytes : List ℕ) (at to : ℕ) (rest : List Piece) → offset ≤ at → to ≤ offset + length bytes → offset + length bytes ≤ 16384
    → AreRuns at rest → AreRuns to rest → AreRuns at (run_between offset bytes at to ++ rest)
run_runs offset bytes at to rest from within fits above beyond = elim (cases_lt at to) [
  | inl below ↦
      let n : length (take (to - at) (drop (at - offset) bytes)) ≡ to - at = run_length offset bytes at to from within in
      let end : to ≡ at + length (take (to - at) (drop (at - offset) bytes)) = omega (arith, n, below) in
      subst (λ (rs : List Piece). AreRuns at (rs ++ rest)) (sym (run_some offset bytes at to below))
      (omega arith, omega (arith, n, below), omega (arith, n, below, within, fits), subst (λ (m : ℕ). AreRuns m rest) end beyond)
  | inr not_below ↦ subst (λ (rs : List Piece). AreRuns at (rs ++ rest)) (sym (run_none offset bytes at to not_below)) above
]

run_inside : (offset : ℕ) (bytes : List ℕ) (at to k : ℕ) → offset ≤ at → at ≤ k → k < to → held (run_between offset bytes at to) k ≡ byte_from offset bytes k
run_inside offset bytes at to k from above below =
    ap (λ rs. held rs k) (run_some offset bytes at to (omega (arith, above, below)))
    ∙ or_none (byte_from at (take (to - at) (drop (at - offset) bytes)) k)
    ∙ byte_there at (take (to - at) (drop (at - offset) bytes)) k above
    ∙ get-take (to - at) (drop (at - offset) bytes) (k - at) (omega (arith, above, below))
    ∙ get-drop (at - offset) bytes (k - at) (k - offset) (omega (arith, above, from))
    ∙ sym (byte_there offset bytes k (omega (arith, above, from)))

run_past : (offset : ℕ) (bytes : List ℕ) (at to k : ℕ) → offset ≤ at → to ≤ offset + length bytes → to ≤ k → held (run_between offset bytes at to) k ≡ None
run_past offset bytes at to k from within past = elim (cases_lt at to) [
  | inl below ↦
      let n : length (take (to - at) (drop (at - offset) bytes)) ≡ to - at = run_length offset bytes at to from within in
      ap (λ rs. held rs k) (run_some offset bytes at to below)
      ∙ or_none (byte_from at (take (to - at) (drop (at - offset) bytes)) k)
      ∙ byte_past at (take (to - at) (drop (at - offset) bytes)) k (omega (arith, n, past, below))
  | inr not_below ↦ ap (λ rs. held rs k) (run_none offset bytes at to not_below)
]

-- all pieces begin below an offset
abbrev pub AllBegin : ℕ → List Piece → Type 0
AllBegin end [] = Unit {0}
AllBegin end (p ∷ ps) = (p.offset < end) × AllBegin end ps

outside_runs : (low offset : ℕ) (bytes : List ℕ) (at : ℕ) (ps : List Piece) → offset ≤ at → offset + length bytes ≤ 16384
    → AllBegin (offset + length bytes) ps → AreRuns low ps
    → AreRuns at (runs_outside offset bytes at ps)
outside_runs low offset bytes at [] from fits begin runs =
    let to = offset + length bytes in
    elim (cases_lt at to) [
      | inl below ↦
          let n : length (take (to - at) (drop (at - offset) bytes)) ≡ to - at = run_length offset bytes at to from (omega arith) in
          subst (AreRuns at) (sym (run_some offset bytes at to below)) (omega arith, omega (arith, n, below), omega (arith, n, below, fits), tt)
      | inr not_below ↦ subst (AreRuns at) (sym (run_none offset bytes at to not_below)) tt
    ]
outside_runs low offset bytes at (p ∷ ps) from fits begin runs =
    let next = max at (p.offset + length p.bytes) in
    let rest : AreRuns next (runs_outside offset bytes next ps) =
    outside_runs (p.offset + length p.bytes) offset bytes next ps (omega (arith, from)) fits begin.1 runs.3 in
    run_runs offset bytes at p.offset (runs_outside offset bytes next ps) from (omega (arith, begin.0)) fits
    (runs_from at next (runs_outside offset bytes next ps) (omega arith) rest)
    (runs_from p.offset next (runs_outside offset bytes next ps) (omega arith) rest)

outside_held : (low offset : ℕ) (bytes : List ℕ) (at : ℕ) (ps : List Piece) → offset ≤ at → offset + length bytes ≤ 16384
    → AllBegin (offset + length bytes) ps → AreRuns low ps
    → (k : ℕ) → at ≤ k → held (runs_outside offset bytes at ps) k ≡ where_none (held ps k) (byte_from offset bytes k)
outside_held low offset bytes at [] from fits begin runs k above = elim (cases_lt k (offset + length bytes)) [
  | inl inside ↦ run_inside offset bytes at (offset + length bytes) k from above inside
  | inr past ↦ run_past offset bytes at (offset + length bytes) k from (omega arith) past ∙ sym (byte_past offset bytes k past)
]
outside_held low offset bytes at (p ∷ ps) from fits begin runs k above =
    let end = p.offset + length p.bytes in
    let next = max at end in
    let byte = byte_from offset bytes k in
    let first = run_between offset bytes at p.offset in
    let rest = runs_outside offset bytes next ps in
    let rest_runs : AreRuns next rest = outside_runs end offset bytes next ps (omega (arith, from)) fits begin.1 runs.3 in
    let within : p.offset ≤ offset + length bytes = omega (arith, begin.0) in
    let raised : AreRuns p.offset (p ∷ ps) = (omega arith, runs.1, runs.2, runs.3) in
    held-append first rest k ∙ elim (cases_lt k p.offset) [
      | inl below ↦
          ap (λ o. option_or o (held rest k)) (run_inside offset bytes at p.offset k from above below)
          ∙ ap (option_or byte) (held_below next rest k rest_runs (omega (arith, below)))
          ∙ or_none byte
          ∙ sym (ap (λ o. where_none o byte) (held_below p.offset (p ∷ ps) k raised below))
      | inr not_below ↦ ap (λ o. option_or o (held rest k)) (run_past offset bytes at p.offset k from within not_below) ∙ elim (cases_lt k end) [
        | inl inside ↦ held_below next rest k rest_runs (omega (arith, inside)) ∙ sym (ap (λ o. where_none o byte) (held_here p ps k not_below inside))
        | inr beyond ↦ outside_held end offset bytes next ps (omega (arith, from)) fits begin.1 runs.3 k (omega (arith, above, beyond))
            ∙ sym (ap (λ o. where_none o byte) (held_later p ps k beyond))
      ]
    ]

-- the pieces that end at or below an offset have no byte from there on
passed_held : (offset : ℕ) (ps : List Piece) (k : ℕ) → offset ≤ k → held (drop (passed offset ps) ps) k ≡ held ps k
passed_held offset [] k from = refl
passed_held offset (p ∷ ps) k from = elim (cases_lt offset (p.offset + length p.bytes)) [
  | inl above ↦ ap (λ b. held (drop (if b then suc (passed offset ps) else 0) (p ∷ ps)) k) (lt-leb (p.offset + length p.bytes) offset above)
  | inr le ↦
      ap (λ b. held (drop (if b then suc (passed offset ps) else 0) (p ∷ ps)) k) (le-leb (p.offset + length p.bytes) offset le)
      ∙ passed_held offset ps k from ∙ sym (held_later p ps k (omega (arith, le, from)))
]

-- those that begin at or above an offset have none below it
begun_held : (low end : ℕ) (ps : List Piece) (k : ℕ) → AreRuns low ps → k < end → held (take (begun_below end ps) ps) k ≡ held ps k
begun_held low end [] k runs below = refl
begun_held low end (p ∷ ps) k runs below = elim (cases_lt p.offset end) [
  | inl begins ↦
      ap (λ b. held (take (if b then suc (begun_below end ps) else 0) (p ∷ ps)) k) (lt-ltb p.offset end begins)
      ∙ ap (option_or (byte_from p.offset p.bytes k)) (begun_held (p.offset + length p.bytes) end ps k runs.3 below)
  | inr above ↦
      ap (λ b. held (take (if b then suc (begun_below end ps) else 0) (p ∷ ps)) k) (le-ltb p.offset end above)
      ∙ sym (held_below p.offset (p ∷ ps) k (omega arith, runs.1, runs.2, runs.3) (omega (arith, above, below)))
]

begun_all : (end : ℕ) (ps : List Piece) → AllBegin end (take (begun_below end ps) ps)
begun_all end [] = tt
begun_all end (p ∷ ps) = elim (cases_lt p.offset end) [
  | inl begins ↦ subst (λ b. AllBegin end (take (if b then suc (begun_below end ps) else 0) (p ∷ ps)))
      (sym (lt-ltb p.offset end begins)) (begins, begun_all end ps)
  | inr above ↦ subst (λ b. AllBegin end (take (if b then suc (begun_below end ps) else 0) (p ∷ ps))) (sym (le-ltb p.offset end above)) tt
]

-- the pieces that may overlap bytes from an offset on
abbrev pub near : ℕ → List ℕ → List Piece → List Piece
near offset bytes ps = take (begun_below (offset + length bytes) (drop (passed offset ps) ps)) (drop (passed offset ps) ps)

near_runs : (offset : ℕ) (bytes : List ℕ) (ps : List Piece) → AreRuns 0 ps → AreRuns 0 (near offset bytes ps)
near_runs offset bytes ps runs = runs-take 0 (begun_below (offset + length bytes) (drop (passed offset ps) ps))
    (drop (passed offset ps) ps) (runs-drop 0 (passed offset ps) ps runs)

pub missing_runs : (offset : ℕ) (bytes : List ℕ) (ps : List Piece) → offset + length bytes ≤ 16384 → AreRuns 0 ps
    → AreRuns 0 (runs_outside offset bytes offset (near offset bytes ps))
missing_runs offset bytes ps fits runs =
    runs_from 0 offset (runs_outside offset bytes offset (near offset bytes ps)) (omega arith)
    (outside_runs 0 offset bytes offset (near offset bytes ps) (omega arith) fits
    (begun_all (offset + length bytes) (drop (passed offset ps) ps)) (near_runs offset bytes ps runs))

where_none_none : (o : Option ℕ) → where_none o None ≡ None
where_none_none None = refl
where_none_none (Some x) = refl

pub missing_held : (offset : ℕ) (bytes : List ℕ) (ps : List Piece) → offset + length bytes ≤ 16384 → AreRuns 0 ps → (k : ℕ)
    → held (runs_outside offset bytes offset (near offset bytes ps)) k ≡ where_none (held ps k) (byte_from offset bytes k)
missing_held offset bytes ps fits runs k =
    let end = offset + length bytes in
    let rest = drop (passed offset ps) ps in
    let begin : AllBegin end (near offset bytes ps) = begun_all end rest in
    let found : AreRuns offset (runs_outside offset bytes offset (near offset bytes ps)) =
    outside_runs 0 offset bytes offset (near offset bytes ps) (omega arith) fits begin (near_runs offset bytes ps runs) in
    elim (cases_lt k offset) [
      | inl below ↦ held_below offset (runs_outside offset bytes offset (near offset bytes ps)) k found below
          ∙ sym (ap (where_none (held ps k)) (byte_below offset bytes k below) ∙ where_none_none (held ps k))
      | inr from ↦ outside_held 0 offset bytes offset (near offset bytes ps) (omega arith) fits begin (near_runs offset bytes ps runs) k from
          ∙ elim (cases_lt k end) [
            | inl inside ↦ ap (λ o. where_none o (byte_from offset bytes k))
                (begun_held 0 end rest k (runs-drop 0 (passed offset ps) ps runs) inside ∙ passed_held offset ps k from)
            | inr past ↦ ap (where_none (held (near offset bytes ps) k)) (byte_past offset bytes k past) ∙ where_none_none (held (near offset bytes ps) k)
                ∙ sym (ap (where_none (held ps k)) (byte_past offset bytes k past) ∙ where_none_none (held ps k))
          ]
    ]

-- the near pieces, as they are cut out
pub near_is : (offset : ℕ) (bytes : List ℕ) (ps rest cut : List Piece) (from count : ℕ) → from ≡ passed offset ps
    → rest ≡ take (length ps - from) (drop from ps) → count ≡ begun_below (offset + length bytes) rest → cut ≡ take count rest
    → cut ≡ near offset bytes ps
near_is offset bytes ps rest cut from count skips cuts counts takes =
    let rest_is : rest ≡ drop (passed offset ps) ps =
    cuts ∙ take_all (length ps - from) (drop from ps) (omega (arith, length-drop from ps)) ∙ ap (λ n. drop n ps) skips in
    takes ∙ ap (λ n. take n rest) counts ∙ ap (λ qs. take (begun_below (offset + length bytes) qs) qs) rest_is
