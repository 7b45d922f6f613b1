-- What becomes of bytes that arrive.
use Rattle.std.proofs.Common.{◌≡◌, ℕ, ◌+◌, ◌-◌, ◌^◌, ◌<◌, ◌≤◌, List, [], ◌∷◌, ◌++◌, length, take, drop, max, None, Some}
use Rattle.std.proofs.Common.{refl, sym, ap, subst, ◌∙◌, arith, inl, inr, append-nil, length-append, get_or}
use Rattle.std.specs.Prelude.{IsSome}
use Rattle.std.proofs.lemmas.Bool.{cases_lt}
use Rattle.std.proofs.lemmas.List.{take-append-drop}
use Rattle.std.proofs.lemmas.Option.{slice_get_past}
use Rattle.std.specs.List.{slice_get}
use Rattle.std.specs.Option.{option_or}
use Rattle.tcp_seq.specs.Numbers.{plus}
use Rattle.tcp_seq.specs.declared.state.Piece.{Piece}
use Rattle.tcp_reasm.specs.Runs.{held, AreRuns}
use Rattle.tcp_seq.specs.Endpoint.{byte_from}
use Rattle.tcp_reasm.specs.Reassembly.{Reassembly, Puts, brought}
use Rattle.tcp_end.specs.Filling.{reached, filled}
use Rattle.tcp_end.specs.Holes.{HasHole}
use Rattle.tcp_seq.proofs.Lookups.{or_none, or_first, or_second}
use Rattle.tcp_reasm.proofs.Held.{held_below, held_here, held-append, runs_from}
use Rattle.tcp_seq.proofs.ByteFrom.{byte_below, byte_within}
use Rattle.tcp_end.proofs.Counted.{held-counted}
use Rattle.tcp_end.proofs.Filled.{Fills, fills}
use Rattle.tcp_end.specs.Receiving.{BringsByte, byte_then, Receives, made_ready, ReceivesRun}

-- the run of bytes from the offset expected next on
pub run_fills : (bytes : List ℕ) (ps : List Piece) → length bytes ≤ 16384 → AreRuns 1 ps → Fills bytes 0 ps (reached (length bytes) ps)
run_fills bytes ps fits runs =
    let e : max 0 (length bytes) ≡ length bytes = omega arith in
    subst (λ (n : ℕ). Fills bytes 0 ps (reached n ps)) e (fills bytes 0 ps (omega arith) fits (runs_from 0 1 ps (omega arith) runs))

-- a hole that bytes fill is a byte that they bring
pub brings_hole : (r : Reassembly) (seq : ℕ) (bytes kept : List ℕ) (offset to : ℕ) → to ≡ offset + length kept
    → ((k : ℕ) → byte_from offset kept k ≡ brought r.next seq bytes k) → HasHole r.pieces offset to → BringsByte r seq bytes
brings_hole r seq bytes kept offset to ends same (k, low, high, none) =
    (k, none, subst IsSome (sym (byte_within offset kept k low (omega (arith, high, ends))) ∙ same k) refl)

held_cut : (c : ℕ) (ps : List Piece) (k : ℕ) → held ps k ≡ option_or (held (take c ps) k) (held (drop c ps) k)
held_cut c ps k = ap (λ (qs : List Piece). held qs k) (sym (take-append-drop c ps)) ∙ held-append (take c ps) (drop c ps) k

-- behind the run stands what the pieces that aren't reached have
past_run : (ps : List Piece) (bytes : List ℕ) (c : ℕ) → Fills bytes 0 ps c → (k : ℕ) → length (filled bytes 0 (take c ps)) ≤ k
    → option_or (held ps k) (byte_from 0 bytes k) ≡ held (drop c ps) k
past_run ps bytes c all k past =
    let run = filled bytes 0 (take c ps) in
    let none : option_or (held (take c ps) k) (byte_from 0 bytes k) ≡ None =
    sym (all.each k (omega arith)) ∙ slice_get_past run (k - 0) (omega (arith, past)) in
    ap (λ o. option_or o (byte_from 0 bytes k))
    (held_cut c ps k ∙ ap (λ o. option_or o (held (drop c ps) k)) (or_first (held (take c ps) k) (byte_from 0 bytes k) none))
    ∙ ap (option_or (held (drop c ps) k)) (or_second (held (take c ps) k) (byte_from 0 bytes k) none)
    ∙ or_none (held (drop c ps) k)

-- and the run's bytes stand in it
in_run : (ps : List Piece) (bytes : List ℕ) (c : ℕ) → Fills bytes 0 ps c → (k : ℕ) → k < length (filled bytes 0 (take c ps))
    → option_or (held ps k) (byte_from 0 bytes k) ≡ slice_get (filled bytes 0 (take c ps)) k
in_run ps bytes c all k below =
    let run = filled bytes 0 (take c ps) in
    let here : k - 0 ≡ k = omega arith in
    ap (λ o. option_or o (byte_from 0 bytes k))
    (held_cut c ps k ∙ ap (option_or (held (take c ps) k)) (held_below (0 + length run + 1) (drop c ps) k all.runs (omega (arith, below)))
    ∙ or_none (held (take c ps) k))
    ∙ sym (all.each k (omega arith)) ∙ ap (slice_get run) here

pub runs_behind : (ps : List Piece) (bytes : List ℕ) (c : ℕ) → Fills bytes 0 ps c → AreRuns (length (filled bytes 0 (take c ps)) + 1) (drop c ps)
runs_behind ps bytes c all =
    let run = filled bytes 0 (take c ps) in
    subst (λ (n : ℕ). AreRuns (n + 1) (drop c ps)) (let e : 0 + length run ≡ length run = omega arith in e) all.runs

-- bytes from the offset expected next on
pub receives_run : (before after : Reassembly) (ready ready' : List ℕ) (seq : ℕ) (bytes kept : List ℕ) → length kept ≤ 16384 → AreRuns 1 before.pieces
    → ((k : ℕ) → byte_from 0 kept k ≡ brought before.next seq bytes k) → ReceivesRun before after ready ready' kept
    → Receives before after ready ready' seq bytes
receives_run before after ready ready' seq bytes kept fits runs same is =
    let ps = before.pieces in
    let c = reached (length kept) ps in
    let run = made_ready before kept in
    let all : Fills kept 0 ps c = run_fills kept ps fits runs in
    let behind : AreRuns (length run + 1) (drop c ps) = runs_behind ps kept c all in
    record {
      given = run;
      appended = is.appended;
      each = λ k below. ap (option_or (held ps k)) (sym (same k)) ∙ in_run ps kept c all k below;
      ends = ap (option_or (held ps (length run))) (sym (same (length run))) ∙ past_run ps kept c all (length run) (omega arith)
          ∙ held_below (length run + 1) (drop c ps) (length run) behind (omega arith);
      next = is.next;
      ahead = λ k. ap (λ (qs : List Piece). held qs k) is.pieces
          ∙ held-counted (length run) (drop c ps) k (runs_from (length run) (length run + 1) (drop c ps) (omega arith) behind)
          ∙ sym (past_run ps kept c all (length run + k) (omega arith))
          ∙ ap (option_or (held ps (length run + k))) (same (length run + k));
    }

-- bytes behind the offset expected next
pub receives_ahead : (before after : Reassembly) (ready : List ℕ) (seq : ℕ) (bytes kept : List ℕ) (offset : ℕ) → AreRuns 1 before.pieces
    → before.next < 2 ^ 32 → 0 < offset
    → ((k : ℕ) → byte_from offset kept k ≡ brought before.next seq bytes k) → Puts before after seq bytes → Receives before after ready ready seq bytes
receives_ahead before after ready seq bytes kept offset runs fits above same puts = record {
  given = [];
  appended = sym (append-nil ready);
  each = λ k below. absurd (omega (arith, below));
  ends = ap (λ o. option_or o (brought before.next seq bytes 0)) (held_below 1 before.pieces 0 runs (omega arith)) ∙ sym (same 0)
      ∙ byte_below offset kept 0 above;
  next = puts.next ∙ (let e : before.next ≡ plus before.next 0 = omega (arith, fits) in e);
  ahead = λ k. puts.ahead k ∙ ap (byte_then before seq bytes) (let e : k ≡ 0 + k = omega arith in e);
}

-- pieces none of which has the offset expected next
runs_above : (ps : List Piece) → AreRuns 0 ps → held ps 0 ≡ None → AreRuns 1 ps
runs_above [] runs none = tt
runs_above (p ∷ ps) runs none = elim (cases_lt 0 p.offset) [
  | inl above ↦ (omega (arith, above), runs.1, runs.2, runs.3)
  | inr at ↦ let there : None ≡ Some (get_or p.bytes (0 - p.offset) 0) = sym none ∙ held_here p ps 0 at (omega (arith, runs.1)) in cc
]

pub runs_ahead : (before after : Reassembly) (seq : ℕ) (bytes kept : List ℕ) (offset : ℕ) → AreRuns 1 before.pieces → 0 < offset
    → ((k : ℕ) → byte_from offset kept k ≡ brought before.next seq bytes k) → Puts before after seq bytes → AreRuns 0 after.pieces → AreRuns 1 after.pieces
runs_ahead before after seq bytes kept offset runs above same puts left = runs_above after.pieces left
    (puts.ahead 0 ∙ ap (λ o. option_or o (brought before.next seq bytes 0)) (held_below 1 before.pieces 0 runs (omega arith))
    ∙ sym (same 0) ∙ byte_below offset kept 0 above)

-- how many bytes were added by a run
pub run_count : (before : Reassembly) (bytes ready ready' : List ℕ) (old_len new_len few : ℕ) (cut : List Piece) → old_len ≡ length ready
    → new_len ≡ length ready' → few ≡ reached (length bytes) before.pieces → cut ≡ before.pieces
    → ready' ≡ ready ++ filled bytes 0 (take few cut) → new_len - old_len ≡ length (made_ready before bytes)
run_count before bytes ready ready' old_len new_len few cut old new counts same added =
    let whole : ready' ≡ ready ++ made_ready before bytes =
    added ∙ ap (λ (qs : List Piece). ready ++ filled bytes 0 (take few qs)) same ∙ ap (λ (n : ℕ). ready ++ filled bytes 0 (take n before.pieces)) counts in
    let n : length ready' ≡ length ready + length (made_ready before bytes) = ap length whole ∙ length-append ready (made_ready before bytes) in
    omega (arith, old, new, n)

pub run_within : (before : Reassembly) (bytes : List ℕ) → length bytes ≤ 16384 → AreRuns 1 before.pieces → length (made_ready before bytes) ≤ 16384
run_within before bytes fits runs = omega (arith, (run_fills bytes before.pieces fits runs).within)

pub run_behind : (before : Reassembly) (bytes : List ℕ) (count few : ℕ) → length bytes ≤ 16384 → AreRuns 1 before.pieces
    → count ≡ length (made_ready before bytes) → few ≡ reached (length bytes) before.pieces
    → AreRuns (count + 1) (drop few before.pieces)
run_behind before bytes count few fits runs counts reaches =
    let c = reached (length bytes) before.pieces in
    let behind : AreRuns (length (made_ready before bytes) + 1) (drop c before.pieces) =
    runs_behind before.pieces bytes c (run_fills bytes before.pieces fits runs) in
    subst (λ (n : ℕ). AreRuns (n + 1) (drop few before.pieces)) (sym counts)
    (subst (λ (n : ℕ). AreRuns (length (made_ready before bytes) + 1) (drop n before.pieces)) (sym reaches) behind)

-- the number expected next, as it was read
pub same_bytes : (offset : ℕ) (kept : List ℕ) (next next' seq : ℕ) (bytes : List ℕ) → next ≡ next'
    → ((k : ℕ) → byte_from offset kept k ≡ brought next seq bytes k)
    → (k : ℕ) → byte_from offset kept k ≡ brought next' seq bytes k
same_bytes offset kept next next' seq bytes is same k = same k ∙ ap (λ (n : ℕ). brought n seq bytes k) is
