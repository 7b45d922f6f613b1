-- Pieces put among others that they don't overlap.
use Rattle.std.proofs.Common.{◌≡◌, ℕ, suc, ◌+◌, ◌-◌, ◌<◌, ◌≤◌, List, [], ◌∷◌, ◌++◌, length, Option, Some, None}
use Rattle.std.proofs.Common.{Result, true, false, refl, sym, ap, subst, ◌∙◌, arith, ◌⊎◌, inl, inr, get_or}
use Rattle.std.specs.Prelude.{if◌then◌else◌, is_some, is_ok, IsOk, insert}
use Rattle.std.proofs.lemmas.Bool.{cases_lt, lt-ltb, le-ltb}
use Rattle.std.proofs.lemmas.Option.{none-some}
use Rattle.std.specs.Option.{option_or}
use Rattle.tcp_seq.specs.declared.state.Piece.{Piece}
use Rattle.tcp_reasm.specs.Runs.{held, AreRuns}
use Rattle.tcp_seq.specs.Endpoint.{byte_from}
use Rattle.tcp_reasm.specs.Steps.{begun_below}
use Rattle.tcp_seq.proofs.Lookups.{or_assoc, or_none, or_swap}
use Rattle.tcp_reasm.proofs.Held.{held-append, held_here}
use Rattle.tcp_seq.proofs.ByteFrom.{byte_within, byte_past, byte_below}

-- what has no byte where another has one, the other way round
apart : (a b : Option ℕ) → (is_some b ≡ true → a ≡ None) → (a ≡ None) ⊎ (b ≡ None)
apart a None free = inr refl
apart a (Some x) free = inl (free refl)

pub or_comm : (a b : Option ℕ) → (is_some b ≡ true → a ≡ None) → option_or a b ≡ option_or b a
or_comm a b free = or_swap None a b (apart a b free)

none_behind : (a b : Option ℕ) → option_or a b ≡ None → b ≡ None
none_behind None b e = e
none_behind (Some x) b e = absurd (none-some x (sym e))

-- `after` has the pieces of `before` and p
pub record Placed (low : ℕ) (p : Piece) (before after : List Piece) : Type 0 where
  pub runs : AreRuns low after
  pub bytes : (k : ℕ) → held after k ≡ option_or (held before k) (byte_from p.offset p.bytes k)

-- p has a byte at each of its offsets
there : (p : Piece) (k : ℕ) → p.offset ≤ k → k < p.offset + length p.bytes → is_some (byte_from p.offset p.bytes k) ≡ true
there p k from below = ap is_some (byte_within p.offset p.bytes k from below)

-- a piece that begins below p ends at or below its offset
ends_below : (p q : Piece) (qs : List Piece) → q.offset < p.offset → 0 < length p.bytes
    → ((k : ℕ) → is_some (byte_from p.offset p.bytes k) ≡ true → held (q ∷ qs) k ≡ None) → q.offset + length q.bytes ≤ p.offset
ends_below p q qs below some free = elim (cases_lt p.offset (q.offset + length q.bytes)) [
  | inl inside ↦ absurd (none-some (get_or q.bytes (p.offset - q.offset) 0)
      (sym (free p.offset (there p p.offset (omega arith) (omega (arith, some)))) ∙ held_here q qs p.offset (omega (arith, below)) inside))
  | inr le ↦ le
]

-- p ends at or below a piece that doesn't begin below it
begins_above : (p q : Piece) (qs : List Piece) → p.offset ≤ q.offset → 0 < length q.bytes
    → ((k : ℕ) → is_some (byte_from p.offset p.bytes k) ≡ true → held (q ∷ qs) k ≡ None) → p.offset + length p.bytes ≤ q.offset
begins_above p q qs le some free = elim (cases_lt q.offset (p.offset + length p.bytes)) [
  | inl inside ↦ absurd (none-some (get_or q.bytes (q.offset - q.offset) 0)
      (sym (free q.offset (there p q.offset le inside)) ∙ held_here q qs q.offset (omega arith) (omega (arith, some))))
  | inr above ↦ above
]

pub placed : (low : ℕ) (p : Piece) (ps : List Piece) → low ≤ p.offset → 0 < length p.bytes → p.offset + length p.bytes ≤ 16384 → AreRuns low ps
    → ((k : ℕ) → is_some (byte_from p.offset p.bytes k) ≡ true → held ps k ≡ None) → Placed low p ps (insert ps (begun_below p.offset ps) p)
placed low p [] above some within runs free = record {
  runs = (above, some, within, tt);
  bytes = λ k. or_none (byte_from p.offset p.bytes k);
}
placed low p (q ∷ qs) above some within runs free = elim (cases_lt q.offset p.offset) [
  | inl below ↦
      let more = placed (q.offset + length q.bytes) p qs (ends_below p q qs below some free) some within runs.3
      (λ k here. none_behind (byte_from q.offset q.bytes k) (held qs k) (free k here)) in
      subst (λ b. Placed low p (q ∷ qs) (insert (q ∷ qs) (if b then suc (begun_below p.offset qs) else 0) p)) (sym (lt-ltb q.offset p.offset below))
      (record {
        runs = (runs.0, runs.1, runs.2, more.runs);
        bytes = λ k. ap (option_or (byte_from q.offset q.bytes k)) (more.bytes k)
            ∙ sym (or_assoc (byte_from q.offset q.bytes k) (held qs k) (byte_from p.offset p.bytes k));
      })
  | inr le ↦
      subst (λ b. Placed low p (q ∷ qs) (insert (q ∷ qs) (if b then suc (begun_below p.offset qs) else 0) p)) (sym (le-ltb q.offset p.offset le))
      (record {
        runs = (above, some, within, (begins_above p q qs le runs.1 free, runs.1, runs.2, runs.3));
        bytes = λ k. sym (or_comm (held (q ∷ qs) k) (byte_from p.offset p.bytes k) (free k));
      })
]

-- what a call answers that succeeds
pub if_ok : {T E X : Type 0} (r : Result T E) (x y : X) → IsOk r → (if is_ok r then x else y) ≡ x
if_ok r x y is = ap (λ b. if b then x else y) is

pub placed_at : (p : Piece) (ps all after : List Piece) (index : ℕ) → 0 < length p.bytes → p.offset + length p.bytes ≤ 16384 → AreRuns 0 ps
    → ((k : ℕ) → is_some (byte_from p.offset p.bytes k) ≡ true → held ps k ≡ None)
    → all ≡ ps → index ≡ begun_below p.offset all → after ≡ insert ps index p → Placed 0 p ps after
placed_at p ps all after index some within runs free whole counts is =
    let index_is : index ≡ begun_below p.offset ps = counts ∙ ap (begun_below p.offset) whole in
    rw (is, index_is) (placed 0 p ps (omega arith) some within runs free)

-- the last of some pieces, and those before it
pub record LastOf (low : ℕ) (ps : List Piece) (p : Piece) : Type 0 where
  pub front : AreRuns low ps
  pub above : low ≤ p.offset
  pub some : 0 < length p.bytes
  pub within : p.offset + length p.bytes ≤ 16384
  pub behind : (k : ℕ) → p.offset ≤ k → held ps k ≡ None

pub last_of : (low : ℕ) (ps : List Piece) (p : Piece) → AreRuns low (ps ++ p ∷ []) → LastOf low ps p
last_of low [] p runs = record { front = tt; above = runs.0; some = runs.1; within = runs.2; behind = λ k from. refl }
last_of low (q ∷ qs) p runs =
    let more = last_of (q.offset + length q.bytes) qs p runs.3 in
    record {
      front = (runs.0, runs.1, runs.2, more.front);
      above = omega (arith, runs.0, more.above);
      some = more.some;
      within = more.within;
      behind = λ k from. ap (λ o. option_or o (held qs k)) (byte_past q.offset q.bytes k (omega (arith, from, more.above))) ∙ more.behind k from;
    }

is_some_left : (a b : Option ℕ) → is_some a ≡ true → is_some (option_or a b) ≡ true
is_some_left None b e = absurd (let h : false ≡ true = e in cc)
is_some_left (Some x) b e = refl

is_some_right : (a b : Option ℕ) → is_some b ≡ true → is_some (option_or a b) ≡ true
is_some_right None b e = e
is_some_right (Some x) b e = refl

some-none : (o : Option ℕ) → is_some o ≡ true → o ≡ None → ⊥
some-none None e is = let h : false ≡ true = e in cc
some-none (Some x) e is = none-some x (sym is)

-- Pieces to be put among others, of which the last is put first.
pub record TakesLast (pieces more rest : List Piece) (p : Piece) : Type 0 where
  pub last : LastOf 0 rest p
  pub bytes : (k : ℕ) → held more k ≡ option_or (held rest k) (byte_from p.offset p.bytes k)
  pub free : (k : ℕ) → is_some (held more k) ≡ true → held pieces k ≡ None

pub takes_last : (pieces more rest : List Piece) (p : Piece) → more ≡ rest ++ p ∷ [] → AreRuns 0 more
    → ((k : ℕ) → is_some (held more k) ≡ true → held pieces k ≡ None) → TakesLast pieces more rest p
takes_last pieces more rest p is runs free = record {
  last = last_of 0 rest p (subst (AreRuns 0) is runs);
  bytes = λ k. ap (λ qs. held qs k) is ∙ held-append rest (p ∷ []) k ∙ ap (option_or (held rest k)) (or_none (byte_from p.offset p.bytes k));
  free = free;
}

pub last_free : (pieces more rest : List Piece) (p : Piece) → TakesLast pieces more rest p → (k : ℕ) → is_some (byte_from p.offset p.bytes k) ≡ true
    → held pieces k ≡ None
last_free pieces more rest p takes k here = takes.free k (ap is_some (takes.bytes k) ∙ is_some_right (held rest k) (byte_from p.offset p.bytes k) here)

-- either the last piece or the others have no byte at an offset
last_or_rest : (rest : List Piece) (p : Piece) → LastOf 0 rest p → (k : ℕ) → (byte_from p.offset p.bytes k ≡ None) ⊎ (held rest k ≡ None)
last_or_rest rest p last k = elim (cases_lt k p.offset) [
  | inl below ↦ inl (byte_below p.offset p.bytes k below)
  | inr from ↦ inr (last.behind k from)
]

pub rest_free : (pieces more rest after : List Piece) (p : Piece) → TakesLast pieces more rest p
    → ((k : ℕ) → held after k ≡ option_or (held pieces k) (byte_from p.offset p.bytes k))
    → (k : ℕ) → is_some (held rest k) ≡ true → held after k ≡ None
rest_free pieces more rest after p takes bytes k here =
    let none : held pieces k ≡ None = takes.free k (ap is_some (takes.bytes k) ∙ is_some_left (held rest k) (byte_from p.offset p.bytes k) here) in
    bytes k ∙ ap (λ o. option_or o (byte_from p.offset p.bytes k)) none ∙ elim (last_or_rest rest p takes.last k) [
      | inl own ↦ own
      | inr other ↦ absurd (some-none (held rest k) here other)
    ]

pub rest_bytes : (pieces more rest after : List Piece) (p : Piece) → TakesLast pieces more rest p
    → ((k : ℕ) → held after k ≡ option_or (held pieces k) (byte_from p.offset p.bytes k))
    → (k : ℕ) → option_or (held after k) (held rest k) ≡ option_or (held pieces k) (held more k)
rest_bytes pieces more rest after p takes bytes k =
    let byte = byte_from p.offset p.bytes k in
    ap (λ o. option_or o (held rest k)) (bytes k)
    ∙ or_swap (held pieces k) byte (held rest k) (last_or_rest rest p takes.last k)
    ∙ or_assoc (held pieces k) (held rest k) byte
    ∙ ap (option_or (held pieces k)) (sym (takes.bytes k))
