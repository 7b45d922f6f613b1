-- What a segment changes that is taken in.
use Rattle.std.proofs.Common.{◌≡◌, ℕ, zero, suc, ◌+◌, ◌-◌, ◌^◌, ◌<◌, ◌≤◌, List, [], length, drop, Bool, true, false, Option}
use Rattle.std.proofs.Common.{None, Some, refl, sym, ap, subst, ◌∙◌, arith, inl, inr, append-nil, length-append}
use Rattle.std.specs.Prelude.{IsSome, nat_lt, ◌||◌, if◌then◌else◌}
use Rattle.std.specs.Option.{option_or}
use Rattle.std.proofs.lemmas.Bool.{lt-ltb}
use Rattle.tcp_seq.specs.Numbers.{plus}
use Rattle.tcp_seq.specs.Rules.{IsInStream}
use Rattle.tcp_seq.specs.declared.segment.Segment.{Segment}
use Rattle.tcp_seq.specs.declared.state.EndState.{EndState}
use Rattle.tcp_reasm.specs.Runs.{AreRuns}
use Rattle.tcp_reasm.specs.Reassembly.{Reassembly, byte_ahead, brought}
use Rattle.std.proofs.lemmas.List.{length-drop}
use Rattle.tcp_end.specs.State.{IsSending, IsEndState, expected, got}
use Rattle.tcp_end.specs.Inner.{end_state, EndInvariant}
use Rattle.tcp_end.specs.Receiving.{BringsByte, byte_then, Receives, Received}
use Rattle.tcp_end.specs.Arriving.{ahead_of, BringsNewByte, TakesByNumbers, TakenIn, IsArrival, IsAcceptableTo, SaysAck}
use Rattle.tcp_end.specs.declared.arrival.Arrival.{Arrival}
use Rattle.tcp_end.specs.declared.arrival.Arrival.TheVariants.{Outside, Ahead, Accepted, Duplicate}
use Rattle.tcp_seq.specs.declared.rules.AckKind.TheVariants.{New, Old, Beyond}
use Rattle.tcp_end.specs.declared.end.End.TheInside.{Inside}
use Rattle.tcp_reasm.proofs.Held.{held_below}
use Rattle.tcp_end.proofs.Handed.{ahead_is, lies}
use Rattle.tcp_end.proofs.Offsets.{flight_offset}

none_or : {X : Type 0} (o : Option X) → ¬ IsSome o → o ≡ None
none_or None h = refl
none_or (Some x) h = absurd (h refl)

keeps_or : {X : Type 0} (a b : Option X) → (a ≡ None → ¬ IsSome b) → a ≡ option_or a b
keeps_or None b h = sym (none_or b (h refl))
keeps_or (Some x) b h = refl

-- bytes of which none is new
receives_nothing : (r : Reassembly) (ready : List ℕ) (seq : ℕ) (bytes : List ℕ) → AreRuns 1 r.pieces → r.next < 2 ^ 32 → ¬ BringsByte r seq bytes
    → Receives r r ready ready seq bytes
receives_nothing r ready seq bytes runs fits none =
    let old : (k : ℕ) → byte_ahead r k ≡ byte_then r seq bytes k =
    λ k. keeps_or (byte_ahead r k) (brought r.next seq bytes k) (λ empty some. none (k, empty, some)) in
    record {
      given = [];
      appended = sym (append-nil ready);
      each = λ k below. absurd (omega (arith, below));
      ends = sym (old 0) ∙ held_below 1 r.pieces 0 runs (omega arith);
      next = omega (arith, fits);
      ahead = λ k. ap (byte_ahead r) (let e : k ≡ 0 + k = omega arith in e) ∙ old (0 + k);
    }

-- the fields after a segment was taken in
abbrev pub taken : Inside → List ℕ → Reassembly → Segment → ℕ → Inside
taken e ready r g acked =
    record e { acked = e.acked + acked; waiting = drop acked e.waiting; ready = ready; ahead = r; owed = e.owed || nat_lt 0 (length g.bytes) }

-- the number expected next goes on with the ready bytes
next_after : (e : Inside) (ready : List ℕ) (r : Reassembly) (g : Segment) (acked : ℕ) → EndInvariant e
    → Receives e.ahead r e.ready ready g.seq.0 g.bytes → r.next ≡ expected (end_state (taken e ready r g acked))
next_after e ready r g acked keeps is =
    let n : length ready ≡ length e.ready + length is.given = ap length is.appended ∙ length-append e.ready is.given in
    is.next ∙ ap (λ (m : ℕ). plus m (length is.given)) keeps.next ∙ omega (arith, n)

takes_segment : (e : Inside) (ready : List ℕ) (r : Reassembly) (g : Segment) (acked : ℕ) → EndInvariant e → AreRuns 1 r.pieces
    → Receives e.ahead r e.ready ready g.seq.0 g.bytes
    → TakesByNumbers (end_state e) g acked (end_state (taken e ready r g acked))
takes_segment e ready r g acked keeps runs is =
    let old : ahead_of (end_state e) ≡ e.ahead = ahead_is e keeps.next keeps.runs in
    let new : ahead_of (end_state (taken e ready r g acked)) ≡ r = ahead_is (taken e ready r g acked) (next_after e ready r g acked keeps is) runs in
    record {
      received = subst (λ (a : Reassembly). Receives a (ahead_of (end_state (taken e ready r g acked))) e.ready ready g.seq.0 g.bytes) (sym old)
          (subst (λ (a : Reassembly). Receives e.ahead a e.ready ready g.seq.0 g.bytes) (sym new) is);
      changed = refl;
    }

brings_is : (e : Inside) (g : Segment) → EndInvariant e → BringsByte e.ahead g.seq.0 g.bytes → BringsNewByte (end_state e) g
brings_is e g keeps is = subst (λ (a : Reassembly). BringsByte a g.seq.0 g.bytes) (sym (ahead_is e keeps.next keeps.runs)) is

brings_none : (e : Inside) (g : Segment) → EndInvariant e → ¬ BringsByte e.ahead g.seq.0 g.bytes → ¬ BringsNewByte (end_state e) g
brings_none e g keeps none is = none (subst (λ (a : Reassembly). BringsByte a g.seq.0 g.bytes) (ahead_is e keeps.next keeps.runs) is)

-- nothing is new
nothing_new : (e : Inside) (ready : List ℕ) (r : Reassembly) (g : Segment) → r ≡ e.ahead → ready ≡ e.ready
    → end_state (taken e ready r g 0) ≡ record (end_state e) { owed = e.owed || nat_lt 0 (length g.bytes) }
nothing_new e ready r g same_ahead same_ready =
    ap (λ (bytes : List ℕ). end_state (taken e bytes r g 0)) same_ready
    ∙ ap (λ (a : Reassembly). end_state (taken e e.ready a g 0)) same_ahead
    ∙ ap (λ (n : ℕ). let s : EndState = record (end_state e) { acked = n; owed = e.owed || nat_lt 0 (length g.bytes) } in s)
    (let z : e.acked + 0 ≡ e.acked = omega arith in z)

abbrev taken_as : Bool → Arrival
taken_as b = if b then Accepted else Duplicate

old_bytes : (e : Inside) (ready : List ℕ) (r : Reassembly) (g : Segment) → EndInvariant e → Received false e.ahead r e.ready ready g.seq.0 g.bytes
    → Receives e.ahead r e.ready ready g.seq.0 g.bytes
old_bytes e ready r g keeps is =
    subst (λ (a : Reassembly). Receives e.ahead a e.ready ready g.seq.0 g.bytes) (sym is.1)
    (subst (λ (bytes : List ℕ). Receives e.ahead e.ahead e.ready bytes g.seq.0 g.bytes) (sym is.2)
    (receives_nothing e.ahead e.ready g.seq.0 g.bytes keeps.runs (omega (arith, keeps.next)) is.0))

pub taken_in : (e : Inside) (ready : List ℕ) (r : Reassembly) (g : Segment) (acked : ℕ) (brings : Bool) → EndInvariant e → AreRuns 1 r.pieces
    → Received brings e.ahead r e.ready ready g.seq.0 g.bytes
    → TakenIn (taken_as (brings || nat_lt 0 acked)) (end_state e) g acked (end_state (taken e ready r g acked))
taken_in e ready r g acked true keeps runs is = (inr (brings_is e g keeps is.0), takes_segment e ready r g acked keeps runs is.1)
taken_in e ready r g zero false keeps runs is = (refl, brings_none e g keeps is.0, nothing_new e ready r g is.1 is.2)
taken_in e ready r g (suc n) false keeps runs is =
    let some : 0 < suc n = omega arith in
    subst (λ (b : Bool). TakenIn (taken_as b) (end_state e) g (suc n) (end_state (taken e ready r g (suc n)))) (sym (lt-ltb 0 (suc n) some))
    (inl some, takes_segment e ready r g (suc n) keeps runs (old_bytes e ready r g keeps is))

-- with what the calls on the fields answered
pub took : (before : EndState) (e : Inside) (ready waiting : List ℕ) (r : Reassembly)
    (g : Segment) (acked : ℕ) (brings owed : Bool) (bytes : List ℕ) (answer : Arrival)
    → end_state e ≡ before
    → EndInvariant e → AreRuns 1 r.pieces → Received brings e.ahead r e.ready ready g.seq.0 bytes → bytes ≡ g.bytes → waiting ≡ drop acked e.waiting
    → owed ≡ (e.owed || nat_lt 0 (length bytes)) → answer ≡ taken_as (brings || nat_lt 0 acked)
    → TakenIn answer before g acked (end_state (record e { acked = e.acked + acked; waiting = waiting; ready = ready; ahead = r; owed = owed }))
took before e ready waiting r g acked brings owed bytes answer was keeps runs is same drops owes answers =
    let is' : Received brings e.ahead r e.ready ready g.seq.0 g.bytes = subst (λ (b : List ℕ). Received brings e.ahead r e.ready ready g.seq.0 b) same is in
    let owes' : owed ≡ (e.owed || nat_lt 0 (length g.bytes)) = owes ∙ ap (λ (b : List ℕ). e.owed || nat_lt 0 (length b)) same in
    subst (λ (s : EndState).
    TakenIn answer s g acked (end_state (record e { acked = e.acked + acked; waiting = waiting; ready = ready; ahead = r; owed = owed }))) was
    (subst (λ (a : Arrival). TakenIn a (end_state e) g acked
    (end_state (record e { acked = e.acked + acked; waiting = waiting; ready = ready; ahead = r; owed = owed }))) (sym answers)
    (subst (λ (w : List ℕ). TakenIn (taken_as (brings || nat_lt 0 acked)) (end_state e) g acked
    (end_state (record e { acked = e.acked + acked; waiting = w; ready = ready; ahead = r; owed = owed }))) (sym drops)
    (subst (λ (o : Bool). TakenIn (taken_as (brings || nat_lt 0 acked)) (end_state e) g acked
    (end_state (record e { acked = e.acked + acked; waiting = drop acked e.waiting; ready = ready; ahead = r; owed = o }))) (sym owes')
    (taken_in e ready r g acked brings keeps runs is'))))

receives_either : (brings : Bool) (e : Inside) (ready : List ℕ) (r : Reassembly) (g : Segment) → EndInvariant e
    → Received brings e.ahead r e.ready ready g.seq.0 g.bytes → Receives e.ahead r e.ready ready g.seq.0 g.bytes
receives_either true e ready r g keeps is = is.1
receives_either false e ready r g keeps is = old_bytes e ready r g keeps is

-- what is left can be handed over
rests_taken : (e : Inside) (ready : List ℕ) (r : Reassembly) (g : Segment) (acked : ℕ) → acked ≤ e.sent - e.acked → EndInvariant e
    → AreRuns 1 r.pieces → Receives e.ahead r e.ready ready g.seq.0 g.bytes
    → IsInStream (got (end_state (taken e ready r g acked))) → IsEndState (end_state (taken e ready r g acked))
rests_taken e ready r g acked within keeps runs is few =
    let n : length (drop acked e.waiting) ≡ length e.waiting - acked = length-drop acked e.waiting in
    let s : IsSending (end_state e) = keeps.sending in
    lies (taken e ready r g acked) (record {
      sending = record {
        acked = omega (arith, within, s.acked);
        flight = omega (arith, s.flight);
        emitted = omega (arith, n, s.emitted, s.acked, within);
        stream = omega (arith, n, s.stream, s.emitted, s.acked, within);
        at_turn = omega (arith, s.at_turn);
      };
      next = next_after e ready r g acked keeps is;
      runs = runs;
    }) few

pub rests_took : (e : Inside) (ready waiting : List ℕ) (r : Reassembly) (g : Segment) (acked : ℕ) (brings owed : Bool) (bytes : List ℕ)
    → acked ≤ e.sent - e.acked
    → EndInvariant e → AreRuns 1 r.pieces → Received brings e.ahead r e.ready ready g.seq.0 bytes → bytes ≡ g.bytes → waiting ≡ drop acked e.waiting
    → owed ≡ (e.owed || nat_lt 0 (length bytes))
    → IsInStream (got (end_state (record e { acked = e.acked + acked; waiting = waiting; ready = ready; ahead = r; owed = owed })))
    → IsEndState (end_state (record e { acked = e.acked + acked; waiting = waiting; ready = ready; ahead = r; owed = owed }))
rests_took e ready waiting r g acked brings owed bytes within keeps runs is same drops owes few =
    let is' : Received brings e.ahead r e.ready ready g.seq.0 g.bytes = subst (λ (b : List ℕ). Received brings e.ahead r e.ready ready g.seq.0 b) same is in
    let owes' : owed ≡ (e.owed || nat_lt 0 (length g.bytes)) = owes ∙ ap (λ (b : List ℕ). e.owed || nat_lt 0 (length b)) same in
    subst (λ (w : List ℕ). IsEndState (end_state (record e { acked = e.acked + acked; waiting = w; ready = ready; ahead = r; owed = owed }))) (sym drops)
    (subst (λ (o : Bool). IsEndState (end_state (record e { acked = e.acked + acked; waiting = drop acked e.waiting; ready = ready; ahead = r; owed = o })))
    (sym owes')
    (rests_taken e ready r g acked within keeps runs (receives_either brings e ready r g keeps is') few))

-- an owed answer doesn't hinder
pub rests_owing : (e : Inside) → EndInvariant e → IsInStream (got (end_state (record e { owed = true }))) → IsEndState (end_state (record e { owed = true }))
rests_owing e keeps few =
    let rests : IsEndState (end_state e) = lies e keeps few in
    record {
      sending = record {
        acked = rests.sending.acked;
        flight = rests.sending.flight;
        emitted = rests.sending.emitted;
        stream = rests.sending.stream;
        at_turn = rests.sending.at_turn;
      };
      received = rests.received;
      ahead = rests.ahead;
    }

old_not_beyond : (s : EndState) (g : Segment) → SaysAck Old s g → SaysAck Beyond s g → ⊥
old_not_beyond s g (inl none) beyond = omega (arith, none, beyond.0)
old_not_beyond s g (inr far) beyond = omega (arith, far, beyond.1)

old_not_new : (s : EndState) (g : Segment) → IsSending s → SaysAck Old s g → SaysAck New s g → ⊥
old_not_new s g sending (inl none) new = omega (arith, none, new.0)
old_not_new s g sending (inr far) new = omega (arith, far, new.1, flight_offset s.send_first.0 s.acked s.sent sending.acked sending.flight)

-- an acknowledgement that is old is neither new nor beyond
pub old_arrival : (s : EndState) (g : Segment) (after : EndState) (arrival : Arrival) → IsSending s → IsAcceptableTo s g → SaysAck Old s g
    → TakenIn arrival s g 0 after → IsArrival arrival s g
old_arrival s g after Outside sending acceptable old is = absurd is
old_arrival s g after (Ahead ack) sending acceptable old is = absurd is
old_arrival s g after Duplicate sending acceptable old is =
    (acceptable, (λ beyond. old_not_beyond s g old beyond), (λ new. old_not_new s g sending old new), is.1)
old_arrival s g after Accepted sending acceptable old is =
    (acceptable, (λ beyond. old_not_beyond s g old beyond), elim is.0 [ inl none ↦ absurd (omega (arith, none)) | inr brings ↦ inr brings ])
