-- What a segment that arrives changes.
use Rattle.std.proofs.Common.{◌≡◌, ◌≢◌, ℕ, zero, suc, ◌+◌, max, length, take, Option, None, Some, cond, Bool}
use Rattle.std.proofs.Common.{true, false, refl, sym, ap, subst, ◌∙◌, arith, ◌⊎◌, ◌-◌, ◌<◌, inl, inr}
use Rattle.std.specs.Prelude.{nat_lt, nat_le, is_some, ◌==◌, ◌||◌, ◌&&◌, if◌then◌else◌}
use Rattle.std.specs.Option.{option_or}
use Rattle.std.specs.Cmp.{nat_cmp_total, unsigned_tied}
use Rattle.std.specs.FinMap as map
use Rattle.std.proofs.lemmas.Bool.Decides.{nat_tests}
use Rattle.std.proofs.lemmas.Bool.{cases_lt, cases_eq, lt-ltb, le-ltb}
use Rattle.tcp_seq.specs.Endpoint.{Bytes, Endpoint, PlacedSegment, received, received_bytes, byte_from}
use Rattle.tcp_seq.specs.Endpoint.{byte_brought, IsAcceptable, IsBeyond, TakesSegment, IsTaken}
use Rattle.tcp_seq.specs.Rules.{AcceptableOffset, IsOffsetInWindow}
use Rattle.tcp_seq.specs.Rules.{AcceptableOffset, IsOffsetInWindow}
use Rattle.tcp_seq.proofs.Lookups.{or_none}
use Rattle.tcp_seq.proofs.ByteFrom.{byte_past}
use Rattle.tcp_seq.proofs.Received.{in_order_grows}

-- A byte put at an offset where there is none
put_one : Option ℕ → ℕ → Bytes → Bytes
put_one None k m = m
put_one (Some byte) k m = if is_some (map.get m k) then m else map.insert m k byte

put_here_by : (there : Option ℕ) (byte k : ℕ) (m : Bytes) → map.get m k ≡ there
    → map.get (if is_some there then m else map.insert m k byte) k ≡ option_or there (Some byte)
put_here_by None byte k m is =
    map.get-insert nat_cmp_total m k byte k
    ∙ ap (λ (b : Bool). cond b (Some byte) (map.get m k)) (unsigned_tied k k ∙ (let t : (k == k) ≡ true = grind (arith, nat_tests) in t))
put_here_by (Some x) byte k m is = is

put_here : (o : Option ℕ) (k : ℕ) (m : Bytes) → map.get (put_one o k m) k ≡ option_or (map.get m k) o
unfolding put_one
put_here None k m = sym (or_none (map.get m k))
put_here (Some byte) k m = put_here_by (map.get m k) byte k m refl

put_other_by : (b : Bool) (byte k q : ℕ) (m : Bytes) → q ≢ k → map.get (if b then m else map.insert m k byte) q ≡ map.get m q
put_other_by true byte k q m not = refl
put_other_by false byte k q m not =
    map.get-insert nat_cmp_total m k byte q
    ∙ ap (λ (b : Bool). cond b (Some byte) (map.get m q)) (unsigned_tied q k ∙ (let t : (q == k) ≡ false = grind (arith, nat_tests) in t))

put_other : (o : Option ℕ) (k q : ℕ) (m : Bytes) → q ≢ k → map.get (put_one o k m) q ≡ map.get m q
unfolding put_one
put_other None k q m not = refl
put_other (Some byte) k q m not = put_other_by (is_some (map.get m k)) byte k q m not

-- The same at all offsets below n
put_below : (ℕ → Option ℕ) → ℕ → Bytes → Bytes
put_below f zero m = m
put_below f (suc n) m = put_one (f n) n (put_below f n m)

below_test : (n q : ℕ) → q ≢ n → nat_lt q n ≡ nat_lt q (suc n)
below_test n q not = elim (cases_lt q n) [
  | inl below ↦ lt-ltb q n below ∙ sym (lt-ltb q (suc n) (omega (arith, below)))
  | inr past ↦ le-ltb q n past ∙ sym (le-ltb q (suc n) (omega (arith, past, not)))
]

put_next : (f : ℕ → Option ℕ) (n : ℕ) (m more : Bytes) → ((q : ℕ) → map.get more q ≡ option_or (map.get m q) (if nat_lt q n then f q else None))
    → (q : ℕ) → map.get (put_one (f n) n more) q ≡ option_or (map.get m q) (if nat_lt q (suc n) then f q else None)
put_next f n m more rest q = elim (cases_eq q n) [
  | inl is ↦ subst (λ (k : ℕ). map.get (put_one (f n) n more) k ≡ option_or (map.get m k) (if nat_lt k (suc n) then f k else None)) (sym is)
      (put_here (f n) n more
      ∙ ap (λ (o : Option ℕ). option_or o (f n))
      (rest n ∙ ap (λ (b : Bool). option_or (map.get m n) (if b then f n else None)) (le-ltb n n (omega arith)) ∙ or_none (map.get m n))
      ∙ sym (ap (λ (b : Bool). option_or (map.get m n) (if b then f n else None)) (lt-ltb n (suc n) (omega arith))))
  | inr not ↦ put_other (f n) n q more not ∙ rest q ∙ ap (λ (b : Bool). option_or (map.get m q) (if b then f q else None)) (below_test n q not)
]

get-put_below : (f : ℕ → Option ℕ) (n : ℕ) (m : Bytes) (q : ℕ) → map.get (put_below f n m) q ≡ option_or (map.get m q) (if nat_lt q n then f q else None)
unfolding put_below
get-put_below f zero m q = sym (ap (λ (b : Bool). option_or (map.get m q) (if b then f q else None)) (le-ltb q 0 (omega arith)) ∙ or_none (map.get m q))
get-put_below f (suc n) m q = put_next f n m (put_below f n m) (get-put_below f n m) q

-- what has arrived after a segment was accepted
pub accepted : Endpoint → PlacedSegment → Bytes
accepted e p = put_below (byte_brought e p) (p.offset + length p.bytes) e.arrived

none_if : (b : Bool) (o : Option ℕ) → o ≡ None → (if b then o else None) ≡ None
none_if true o is = is
none_if false o is = refl

pub get-accepted : (e : Endpoint) (p : PlacedSegment) (k : ℕ) → map.get (accepted e p) k ≡ option_or (map.get e.arrived k) (byte_brought e p k)
unfolding accepted
get-accepted e p k =
    let n = p.offset + length p.bytes in
    get-put_below (byte_brought e p) n e.arrived k
    ∙ ap (option_or (map.get e.arrived k)) (elim (cases_lt k n) as (λ _. (if nat_lt k n then byte_brought e p k else None) ≡ byte_brought e p k) [
      | inl below ↦ ap (λ (b : Bool). if b then byte_brought e p k else None) (lt-ltb k n below)
      | inr past ↦ ap (λ (b : Bool). if b then byte_brought e p k else None) (le-ltb k n past)
          ∙ sym (none_if (nat_le (received e) k && nat_lt k (received e + 16384)) (byte_from p.offset p.bytes k) (byte_past p.offset p.bytes k past))
    ])

-- An offset keeps its byte
stays_or : (o more : Option ℕ) (byte : ℕ) → o ≡ Some byte → option_or o more ≡ Some byte
stays_or o more byte is = ap (λ (p : Option ℕ). option_or p more) is

pub byte_stays : (before after : Endpoint) (segment : PlacedSegment) (offset byte : ℕ) → TakesSegment before segment after
    → map.get before.arrived offset ≡ Some byte → map.get after.arrived offset ≡ Some byte
byte_stays before after segment offset byte (inl drops) is = ap (λ (e : Endpoint). map.get e.arrived offset) drops.stays ∙ is
byte_stays before after segment offset byte (inr accepts) is = accepts.arrived offset
    ∙ stays_or (map.get before.arrived offset) (byte_brought before segment offset) byte is

pub received_stays : (before after : Endpoint) (segment : PlacedSegment) → TakesSegment before segment after
    → received_bytes before ≡ take (received before) (received_bytes after)
received_stays before after segment takes = in_order_grows before.arrived after.arrived (λ k byte is. byte_stays before after segment k byte takes is)

-- One endpoint is left
pub leaves_one : (before a b : Endpoint) (segment : PlacedSegment) → TakesSegment before segment a → TakesSegment before segment b → a ≡ b
leaves_one before a b segment (inl drops) (inl drops') = drops.stays ∙ sym drops'.stays
leaves_one before a b segment (inl drops) (inr accepts) =
    elim drops.cause [ inl not ↦ absurd (not accepts.acceptable) | inr beyond ↦ absurd (accepts.within beyond) ]
leaves_one before a b segment (inr accepts) (inl drops) =
    elim drops.cause [ inl not ↦ absurd (not accepts.acceptable) | inr beyond ↦ absurd (accepts.within beyond) ]
leaves_one before a b segment (inr accepts) (inr accepts') =
    let same : a.arrived ≡ b.arrived =
    map.same_map nat_cmp_total map.nat_cmp-IsAntisymmetric a.arrived b.arrived (λ k. accepts.arrived k ∙ sym (accepts'.arrived k)) in
    accepts.changed
    ∙ ap (λ (m : Bytes). let e : Endpoint =
    record before { acked = max before.acked segment.ack; arrived = m; owed = before.owed || nat_lt 0 (length segment.bytes) } in e) same
    ∙ sym accepts'.changed

-- And there is one
in_window_or : (next offset : ℕ) → IsOffsetInWindow next 16384 offset ⊎ (¬ IsOffsetInWindow next 16384 offset)
in_window_or next offset = elim (cases_lt offset next) [
  | inl below ↦ inr (λ is. omega (arith, below, is.0))
  | inr from ↦ elim (cases_lt offset (next + 16384)) [
    | inl within ↦ inl (from, within)
    | inr past ↦ inr (λ is. omega (arith, past, is.1))
  ]
]

no_bytes : (next offset len : ℕ) → len ≡ 0 → ¬ IsOffsetInWindow next 16384 offset → AcceptableOffset next 16384 offset len → ⊥
no_bytes next offset len none not (inl closed) = omega (arith, closed.1)
no_bytes next offset len none not (inr (inl empty)) = not empty.2
no_bytes next offset len none not (inr (inr bytes)) = omega (arith, none, bytes.0)

neither_in : (next offset len : ℕ) → 0 < len → ¬ IsOffsetInWindow next 16384 offset → ¬ IsOffsetInWindow next 16384 (offset + len - 1)
    → AcceptableOffset next 16384 offset len → ⊥
neither_in next offset len some first last (inl closed) = omega (arith, closed.1)
neither_in next offset len some first last (inr (inl empty)) = omega (arith, some, empty.0)
neither_in next offset len some first last (inr (inr bytes)) = elim bytes.2 [ inl is ↦ first is | inr is ↦ last is ]

acceptable_or : (next offset len : ℕ) → AcceptableOffset next 16384 offset len ⊎ (¬ AcceptableOffset next 16384 offset len)
acceptable_or next offset len = elim (cases_lt 0 len) [
  | inl some ↦ elim (in_window_or next offset) [
    | inl is ↦ inl (inr (inr (some, omega arith, inl is)))
    | inr first ↦ elim (in_window_or next (offset + len - 1)) [
      | inl is ↦ inl (inr (inr (some, omega arith, inr is)))
      | inr last ↦ inr (neither_in next offset len some first last)
    ]
  ]
  | inr none ↦ elim (in_window_or next offset) [
    | inl is ↦ inl (inr (inl (omega (arith, none), omega arith, is)))
    | inr not ↦ inr (no_bytes next offset len (omega (arith, none)) not)
  ]
]

drops : (before : Endpoint) (segment : PlacedSegment) → (¬ IsAcceptable before segment) ⊎ IsBeyond before segment → IsTaken before segment
drops before segment cause = record { after = record before { owed = true }; takes = inl (record { cause = cause; stays = refl }) }

pub some_after : (before : Endpoint) (segment : PlacedSegment) → IsTaken before segment
some_after before segment = elim (acceptable_or (received before) segment.offset (length segment.bytes)) [
  | inr not ↦ drops before segment (inl not)
  | inl is ↦ elim (cases_lt before.emitted segment.ack) [
    | inl beyond ↦ drops before segment (inr beyond)
    | inr within ↦ record {
      after = record before { acked = max before.acked segment.ack; arrived = accepted before segment; owed = before.owed || nat_lt 0 (length segment.bytes) };
      takes = inr (record { acceptable = is; within = λ beyond. omega (arith, within, beyond); arrived = get-accepted before segment; changed = refl });
    }
  ]
]
