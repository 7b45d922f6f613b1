-- Pieces whose offsets are counted from the stream's first byte, as they are handed over, or from the offset expected next.
use Rattle.std.proofs.Common.{◌≡◌, ℕ, ◌+◌, ◌-◌, ◌^◌, ◌%◌, ◌<◌, ◌≤◌, List, [], ◌∷◌, length, refl, sym, ap, subst, ◌∙◌, arith}
use Rattle.tcp_seq.specs.Numbers.{plus, offset_from}
use Rattle.tcp_seq.specs.Rules.{IsInStream}
use Rattle.tcp_seq.specs.declared.state.Piece.{Piece}
use Rattle.tcp_reasm.specs.Runs.{AreRuns}
use Rattle.tcp_reasm.specs.Reassembly.{Reassembly}
use Rattle.tcp_seq.specs.declared.state.EndState.{EndState}
use Rattle.tcp_end.specs.State.{IsEndState, expected, got, counted_from, raised, LieFrom}
use Rattle.tcp_end.specs.Inner.{end_state, EndInvariant}
use Rattle.tcp_end.specs.Arriving.{ahead_of}
use Rattle.tcp_end.specs.declared.end.End.TheInside.{Inside}
use Rattle.tcp_reasm.proofs.Held.{runs_from}

-- counted from an offset and back
pub counted-raised : (base low : ℕ) (ps : List Piece) → base < 2 ^ 32 → AreRuns low ps → counted_from base (raised base ps) ≡ ps
counted-raised base low [] fits runs = refl
counted-raised base low (p ∷ ps) fits runs =
    let back : offset_from (plus p.offset base) base ≡ p.offset = omega (arith, runs.2, fits) in
    ap (λ (n : ℕ). let q : Piece = record p { offset = n } in q ∷ counted_from base (raised base ps)) back
    ∙ ap (λ (qs : List Piece). p ∷ qs) (counted-raised base (p.offset + length p.bytes) ps fits runs.3)

pub raised-counted : (base low high : ℕ) (ps : List Piece) → base ≤ low → high < 2 ^ 32 → LieFrom low high ps → raised base (counted_from base ps) ≡ ps
raised-counted base low high [] above fits lie = refl
raised-counted base low high (p ∷ ps) above fits lie =
    let back : plus (offset_from p.offset base) base ≡ p.offset = omega (arith, lie.0, lie.2, above, fits) in
    ap (λ (n : ℕ). let q : Piece = record p { offset = n } in q ∷ raised base (counted_from base ps)) back
    ∙ ap (λ (qs : List Piece). p ∷ qs) (raised-counted base (p.offset + length p.bytes) high ps (omega (arith, above, lie.0)) fits lie.3)

pub lie-raised : (base low from high : ℕ) (ps : List Piece) → IsInStream base → from ≡ base + low → high ≡ base + 16384 → AreRuns low ps
    → LieFrom from high (raised base ps)
lie-raised base low from high [] fits at window runs = tt
lie-raised base low from high (p ∷ ps) fits at window runs =
    let moved : plus p.offset base ≡ p.offset + base = omega (arith, runs.2, fits) in (
      omega (arith, moved, at, runs.0),
      runs.1,
      omega (arith, moved, window, runs.2),
      lie-raised base (p.offset + length p.bytes) (plus p.offset base + length p.bytes) high ps fits (omega (arith, moved)) window runs.3,
    )

pub runs-counted_back : (base low from high : ℕ) (ps : List Piece) → IsInStream base → from ≡ base + low → high ≡ base + 16384 → LieFrom from high ps
    → AreRuns low (counted_from base ps)
runs-counted_back base low from high [] fits at window lie = tt
runs-counted_back base low from high (p ∷ ps) fits at window lie =
    let moved : offset_from p.offset base ≡ p.offset - base = omega (arith, lie.0, lie.2, at, window, fits) in (
      omega (arith, moved, at, lie.0),
      lie.1,
      omega (arith, moved, window, lie.2, lie.0, at),
      runs-counted_back base (offset_from p.offset base + length p.bytes)
          (p.offset + length p.bytes) high ps fits (omega (arith, moved, lie.0, at)) window lie.3,
    )

-- what stands ahead of the state is what the endpoint keeps
pub ahead_is : (e : Inside) → e.ahead.next ≡ expected (end_state e) → AreRuns 1 e.ahead.pieces → ahead_of (end_state e) ≡ e.ahead
ahead_is e next runs =
    let base = (e.taken + length e.ready) % 2 ^ 32 in
    ap (λ (n : ℕ). let r : Reassembly = record { next = n; pieces = counted_from base (raised base e.ahead.pieces) } in r) (sym next)
    ∙ ap (λ (ps : List Piece). let r : Reassembly = record { next = e.ahead.next; pieces = ps } in r) (counted-raised base 1 e.ahead.pieces (omega arith) runs)

-- what is exported can be imported, where at most 1 MiB was received
pub lies : (e : Inside) → EndInvariant e → IsInStream (got (end_state e)) → IsEndState (end_state e)
lies e keeps few =
    let base : (e.taken + length e.ready) % 2 ^ 32 ≡ e.taken + length e.ready = omega (arith, few) in
    record {
      sending = keeps.sending;
      received = few;
      ahead = lie-raised ((e.taken + length e.ready) % 2 ^ 32) 1 (e.taken + length e.ready + 1) (e.taken + length e.ready + 16384) e.ahead.pieces
          (omega (arith, base, few)) (omega (arith, base)) (omega (arith, base)) keeps.runs;
    }

-- how far the number expected next is from the first one
pub base_is : (first got next base : ℕ) → first < 2 ^ 32 → next ≡ plus first got → base ≡ offset_from next first → base ≡ got % 2 ^ 32
base_is first got next base fits nexts is = omega (arith, fits, nexts, is)

-- the fields of a copy
pub copy_is : (e : Inside) (waiting ready : List ℕ) (ahead : List Piece) (base : ℕ) → waiting ≡ e.waiting → ready ≡ e.ready
    → ahead ≡ raised base e.ahead.pieces → base ≡ (e.taken + length e.ready) % 2 ^ 32
    → record (end_state e) { waiting = waiting; ready = ready; ahead = ahead } ≡ end_state e
copy_is e waiting ready ahead base waits readies pieces is =
    let raises : ahead ≡ raised ((e.taken + length e.ready) % 2 ^ 32) e.ahead.pieces = pieces ∙ ap (λ (n : ℕ). raised n e.ahead.pieces) is in
    λ i. record (end_state e) { waiting = waits i; ready = readies i; ahead = raises i }

pub exported : (e : Inside) (s : EndState) → s ≡ end_state e → EndInvariant e → IsInStream (got s) → IsEndState s
exported e s is keeps few = subst IsEndState (sym is) (lies e keeps (subst (λ (t : EndState). IsInStream (got t)) is few))

-- the fields of what is imported
abbrev pub inside_of : EndState → Reassembly → Inside
inside_of s r = record {
  way = s.way;
  peering = s.peering;
  send_first = s.send_first;
  acked = s.acked;
  sent = s.sent;
  waiting = s.waiting;
  receive_first = s.receive_first;
  taken = s.taken;
  ready = s.ready;
  ahead = r;
  acked_at_turn = s.acked_at_turn;
  owed = s.owed;
}

pub imported_runs : (s : EndState) (vec counted ahead : List Piece) (len low : ℕ) → IsEndState s → low ≤ 1 → len ≡ length s.ready → vec ≡ s.ahead
    → counted ≡ counted_from (s.taken + len) vec → ahead ≡ counted → AreRuns low ahead
imported_runs s vec counted ahead len low rests le lens vecs counts is =
    let base = s.taken + len in
    rw (is ∙ counts ∙ ap (counted_from base) vecs) (runs_from low 1 (counted_from base s.ahead) le
    (runs-counted_back base 1 (got s + 1) (got s + 16384) s.ahead (omega (arith, lens, rests.received))
    (omega (arith, lens)) (omega (arith, lens)) rests.ahead))

made_is : (s : EndState) (r : Reassembly) (next len : ℕ) (vec counted ahead : List Piece) → len ≡ length s.ready → vec ≡ s.ahead
    → counted ≡ counted_from (s.taken + len) vec → ahead ≡ counted → next ≡ plus s.receive_first.0 (s.taken + len)
    → r ≡ record { next = next; pieces = ahead }
    → r ≡ record { next = plus s.receive_first.0 (got s); pieces = counted_from (got s) s.ahead }
made_is s r next len vec counted ahead lens vecs counts is nexts made =
    made ∙ ap (λ (n : ℕ). let q : Reassembly = record { next = n; pieces = ahead } in q) (nexts ∙ ap (λ (n : ℕ). plus s.receive_first.0 (s.taken + n)) lens)
    ∙ ap (λ (ps : List Piece). let q : Reassembly = record { next = plus s.receive_first.0 (got s); pieces = ps } in q)
    (is ∙ counts ∙ ap (λ (n : ℕ). counted_from (s.taken + n) vec) lens ∙ ap (counted_from (got s)) vecs)

-- what is imported is kept, and seen as it was
pub imported_keeps : (s : EndState) → IsEndState s
    → EndInvariant (inside_of s (record { next = plus s.receive_first.0 (got s); pieces = counted_from (got s) s.ahead }))
imported_keeps s rests = record {
  sending = record {
    acked = rests.sending.acked;
    flight = rests.sending.flight;
    emitted = rests.sending.emitted;
    stream = rests.sending.stream;
    at_turn = rests.sending.at_turn;
  };
  next = refl;
  runs = imported_runs s s.ahead (counted_from (got s) s.ahead) (counted_from (got s) s.ahead) (length s.ready) 1 rests (omega arith) refl refl refl refl;
}

pub imported_is : (s : EndState) → IsEndState s
    → end_state (inside_of s (record { next = plus s.receive_first.0 (got s); pieces = counted_from (got s) s.ahead })) ≡ s
imported_is s rests =
    let same : got s % 2 ^ 32 ≡ got s = omega (arith, rests.received) in
    ap (λ (ps : List Piece). let t : EndState = record s { ahead = ps } in t)
    (ap (λ (n : ℕ). raised n (counted_from (got s) s.ahead)) same
    ∙ raised-counted (got s) (got s + 1) (got s + 16384) s.ahead (omega arith) (omega (arith, rests.received)) rests.ahead)

-- the fields as the calls answered them
pub fields_are : (s : EndState) (waiting ready : List ℕ) (r : Reassembly) (next len : ℕ) (vec counted ahead : List Piece) → waiting ≡ s.waiting
    → ready ≡ s.ready
    → len ≡ length s.ready → vec ≡ s.ahead → counted ≡ counted_from (s.taken + len) vec → ahead ≡ counted
    → next ≡ plus s.receive_first.0 (s.taken + len) → r ≡ record { next = next; pieces = ahead }
    → record (inside_of s r) { waiting = waiting; ready = ready }
    ≡ inside_of s (record { next = plus s.receive_first.0 (got s); pieces = counted_from (got s) s.ahead })
fields_are s waiting ready r next len vec counted ahead waits readies lens vecs counts is nexts made =
    ap (λ (w : List ℕ). let e : Inside = record (inside_of s r) { waiting = w; ready = ready } in e) waits
    ∙ ap (λ (bytes : List ℕ). let e : Inside = record (inside_of s r) { ready = bytes } in e) readies
    ∙ ap (inside_of s) (made_is s r next len vec counted ahead lens vecs counts is nexts made)
