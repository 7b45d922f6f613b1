-- Slices by their offsets and lengths, and how they are counted.
use Rattle.std.proofs.Common.{◌≡◌, ℕ, zero, suc, ◌+◌, ◌<◌, ◌≤◌, length, take, drop, Bool, ◌⊎◌, inl, inr, refl, sym, ap, ◌∙◌, arith}
use Rattle.std.specs.Prelude.{if◌then◌else◌}
use Rattle.std.proofs.lemmas.List.{length-take, length-drop}
use Rattle.std.proofs.lemmas.Bool.{cases_lt, lt-ltb, le-ltb}
use Rattle.tcp_seq.specs.Endpoint.{Endpoint, PlacedSegment, EmitsNext, EmitsAgain, EmitsAnswer, EmitsSlice, next_length, again_length}
use Rattle.graft_model.specs.Slices.{EmitsAt}
use Rattle.graft_actors.specs.Emissions.{reach_of, IsCareful, Tally, tallied}

pub at_next : (e f : Endpoint) (p : PlacedSegment) → EmitsSlice e p f → EmitsNext e p f → EmitsAt e.emitted (next_length e) e p f
at_next e f p slice step = record {
  offset = ap (λ (q : PlacedSegment). q.offset) step.slice;
  size = ap (λ (q : PlacedSegment). length q.bytes) step.slice
      ∙ (let n : length (take (next_length e) (drop e.emitted e.stream)) ≡ next_length e =
      omega (arith, step.some, length-take (next_length e) (drop e.emitted e.stream), length-drop e.emitted e.stream) in n);
  emits = inl slice;
}

pub at_again : (e f : Endpoint) (p : PlacedSegment) → e.emitted ≤ length e.stream → EmitsSlice e p f → EmitsAgain e p f → EmitsAt e.acked (again_length e) e p f
at_again e f p within slice step = record {
  offset = ap (λ (q : PlacedSegment). q.offset) step.slice;
  size = ap (λ (q : PlacedSegment). length q.bytes) step.slice
      ∙ (let n : length (take (again_length e) (drop e.acked e.stream)) ≡ again_length e =
      omega (arith, step.some, within, length-take (again_length e) (drop e.acked e.stream), length-drop e.acked e.stream) in n);
  emits = inl slice;
}

pub at_answer : (e f : Endpoint) (p : PlacedSegment) → EmitsAnswer e p f → EmitsAt e.emitted 0 e p f
at_answer e f p step = record {
  offset = ap (λ (q : PlacedSegment). q.offset) step.answer.empty;
  size = ap (λ (q : PlacedSegment). length q.bytes) step.answer.empty;
  emits = inr step.answer;
}

-- each is an old slice, a new one, or an owed answer
pub careful_next : (e : Endpoint) → 0 < next_length e → IsCareful e e.emitted (next_length e)
careful_next e some = by_length (next_length e) refl some
  where
    by_length : (n : ℕ) → next_length e ≡ n → 0 < n → IsCareful e e.emitted n
    by_length zero is some = absurd (omega (arith, some))
    by_length (suc n) is some = inr (record { next = refl; all = which })
      where
        which : (suc n ≡ 1024) ⊎ (e.emitted + suc n ≡ reach_of e)
        which = elim (cases_lt (suc n) 1024) [ inl below ↦ inr (omega (arith, is, below)) | inr full ↦ inl (omega (arith, is, full)) ]

pub careful_again : (e : Endpoint) → 0 < again_length e → IsCareful e e.acked (again_length e)
careful_again e some = by_length (again_length e) refl some
  where
    by_length : (n : ℕ) → again_length e ≡ n → 0 < n → IsCareful e e.acked n
    by_length zero is some = absurd (omega (arith, some))
    by_length (suc n) is some = inl (record { first = refl; out = omega (arith, is); all = sym is })

-- how a tally counts them
pub counted_next : (e : Endpoint) (n : ℕ) (t : Tally) → 0 < n → tallied e e.emitted n t ≡ t
counted_next e zero t some = absurd (omega (arith, some))
counted_next e (suc n) t some =
    ap (λ (b : Bool). let u : Tally = if b then record t { again = t.again + 1 } else t in u) (le-ltb e.emitted e.emitted (omega arith))

pub counted_again : (e : Endpoint) (n : ℕ) (t : Tally) → 0 < n → e.acked < e.emitted → tallied e e.acked n t ≡ record t { again = t.again + 1 }
counted_again e zero t some out = absurd (omega (arith, some))
counted_again e (suc n) t some out = ap (λ (b : Bool). let u : Tally = if b then record t { again = t.again + 1 } else t in u) (lt-ltb e.acked e.emitted out)
