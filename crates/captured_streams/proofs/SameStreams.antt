-- Streams that can't be told apart: their reassemblies expect the same number, and have the same octets ahead.
use Rattle.std.proofs.Common.{◌≡◌, ℕ, suc, zero, ◌+◌, ◌^◌, ◌<◌, ◌≤◌, ltb, List, [], ◌∷◌, length, Option, Some, None, set, get_or}
use Rattle.std.proofs.Common.{refl, sym, ap, ◌∙◌, subst, inl, inr, arith}
use Rattle.std.specs.Prelude.{◌&&◌, ◌==◌, not}
use Rattle.std.specs.List.{slice_get}
use Rattle.std.specs.Option.{option_or, option_and_then}
use Rattle.std.proofs.Math.ListN.{length-set}
use Rattle.std.proofs.lemmas.Bool.{cases_lt, cases_eq}
use Rattle.std.proofs.lemmas.List.{set_past}
use Rattle.std.proofs.lemmas.Option.{slice_get-get_or}
use Rattle.tcp_seq.specs.Numbers.{plus, offset_from}
use Rattle.tcp_seq.specs.declared.segment.Way.{Way}
use Rattle.tcp_seq.specs.declared.segment.Way.TheVariants.{Home, Remote}
use Rattle.tcp_reasm.specs.Reassembly.{byte_ahead, brought}
use Rattle.tcp_reasm.proofs.Covered.{given_same}
use Rattle.tcp_packets.specs.Reading.{Segment}
use Rattle.captured_streams.specs.declared.flows.Stream.{Stream}
use Rattle.captured_streams.specs.declared.flows.Both.{Both}
use Rattle.captured_streams.specs.Flows.{one_way, with_stream, stream_of, stream_at, set_stream, is_beyond, Brings}

pub record SameStream (a b : Stream) : Type 0 where
  pub given : a.given ≡ b.given
  pub next : a.rest.next ≡ b.rest.next
  pub ahead : (k : ℕ) → byte_ahead a.rest k ≡ byte_ahead b.rest k

abbrev pub SameSlot : Option Stream → Option Stream → Type 0
SameSlot None None = Unit {0}
SameSlot (Some a) (Some b) = SameStream a b
SameSlot None (Some b) = ⊥
SameSlot (Some a) None = ⊥

pub record SameAll (a b : List Both) : Type 0 where
  pub len : length a ≡ length b
  pub each : (k : ℕ) (way : Way) → SameSlot (stream_of a k way) (stream_of b k way)

slot_itself : (o : Option Stream) → SameSlot o o
slot_itself None = tt
slot_itself (Some a) = record { given = refl; next = refl; ahead = λ k. refl }

pub all_itself : (a : List Both) → SameAll a a
all_itself a = record { len = refl; each = λ k way. slot_itself (stream_of a k way) }

slot_back : (o p : Option Stream) → SameSlot o p → SameSlot p o
slot_back None None same = tt
slot_back (Some a) (Some b) same = record { given = sym same.given; next = sym same.next; ahead = λ k. sym (same.ahead k) }
slot_back None (Some b) same = same
slot_back (Some a) None same = same

pub all_back : (a b : List Both) → SameAll a b → SameAll b a
all_back a b same = record { len = sym same.len; each = λ k way. slot_back (stream_of a k way) (stream_of b k way) (same.each k way) }

-- ---- one segment

pub same_at : (o p : Option Stream) (s : Segment) → SameSlot o p → SameSlot (stream_at o s) (stream_at p s)
same_at None None s same = slot_itself (stream_at None s)
same_at (Some a) (Some b) s same = same
same_at None (Some b) s same = absurd same
same_at (Some a) None s same = absurd same

pub beyond_same : (a b : Stream) (s : Segment) → SameStream a b → is_beyond a s ≡ is_beyond b s
beyond_same a b s same =
    ap (λ (n : ℕ). not (length s.octets == 0) && ltb (offset_from s.first n) (2 ^ 31) && ltb 16384 (offset_from s.first n + length s.octets))
    same.next

pub brings_same : (a b : Stream) (s : Segment) (xs ys : List ℕ) (a' b' : Stream) → SameStream a b → Brings a s xs a' → Brings b s ys b'
    → (xs ≡ ys) × SameStream a' b'
brings_same a b s xs ys a' b' same one other =
    let between : (k : ℕ) → byte_ahead one.between k ≡ byte_ahead other.between k = λ k.
    one.puts.ahead k ∙ ap (λ (o : Option ℕ). option_or o (brought a.rest.next s.first s.octets k)) (same.ahead k)
    ∙ ap (λ (n : ℕ). option_or (byte_ahead b.rest k) (brought n s.first s.octets k)) same.next ∙ sym (other.puts.ahead k) in
    let octets : xs ≡ ys = given_same one.between other.between a'.rest b'.rest [] xs ys (length xs) (length ys) between one.takes other.takes in
    let count : length xs ≡ length ys = ap (λ (zs : List ℕ). length zs) octets in (
      octets,
      record {
        given = omega (arith, one.given, other.given, same.given, count);
        next = one.takes.next ∙ ap (λ (n : ℕ). plus n (length xs)) (one.puts.next ∙ same.next ∙ sym other.puts.next)
            ∙ ap (plus other.between.next) count ∙ sym other.takes.next;
        ahead = λ k. one.takes.ahead k ∙ between (length xs + k) ∙ ap (λ (n : ℕ). byte_ahead other.between (n + k)) count ∙ sym (other.takes.ahead k);
      },
    )

-- ---- one stream is replaced

get-set_here : {X : Type 0} (xs : List X) (k : ℕ) (y : X) → k < length xs → slice_get (set xs k y) k ≡ Some y
get-set_here [] k y below = absurd (omega (arith, below))
get-set_here (x ∷ xs) zero y below = refl
get-set_here (x ∷ xs) (suc k) y below = get-set_here xs k y (omega (arith, below))

get-set_other : {X : Type 0} (xs : List X) (k n : ℕ) (y : X) → (k ≡ n → ⊥) → slice_get (set xs k y) n ≡ slice_get xs n
get-set_other [] k n y ne = refl
get-set_other (x ∷ xs) zero zero y ne = absurd (ne refl)
get-set_other (x ∷ xs) zero (suc n) y ne = refl
get-set_other (x ∷ xs) (suc k) zero y ne = refl
get-set_other (x ∷ xs) (suc k) (suc n) y ne = get-set_other xs k n y (λ e. ne (ap suc e))

moved : (o o' p p' : Option Stream) → o ≡ o' → p ≡ p' → SameSlot o' p' → SameSlot o p
moved o o' p p' e f same = subst (λ (q : Option Stream). SameSlot q p) (sym e) (subst (SameSlot o') (sym f) same)

slot_replaced : (w way : Way) (st st' : Stream) (x y : Both) → SameStream st st' → SameSlot (one_way w x) (one_way w y)
    → SameSlot (one_way w (with_stream way st x)) (one_way w (with_stream way st' y))
slot_replaced Home Home st st' x y same slots = same
slot_replaced Home Remote st st' x y same slots = slots
slot_replaced Remote Home st st' x y same slots = slots
slot_replaced Remote Remote st st' x y same slots = same

abbrev none : Both
none = record { to_home = None; to_remote = None }

module _ (a b : List Both) (k : ℕ) (way : Way) (st st' : Stream) (all : SameAll a b) (same : SameStream st st') where
  replaced_here : k < length a → (w : Way) → SameSlot (stream_of (set_stream a k way st) k w) (stream_of (set_stream b k way st') k w)
  replaced_here low w =
      let low' : k < length b = omega (arith, low, all.len) in
      let x = get_or a k none in
      let y = get_or b k none in
      moved (stream_of (set_stream a k way st) k w) (one_way w (with_stream way st x))
      (stream_of (set_stream b k way st') k w) (one_way w (with_stream way st' y))
      (ap (option_and_then (one_way w)) (get-set_here a k (with_stream way st x) low))
      (ap (option_and_then (one_way w)) (get-set_here b k (with_stream way st' y) low'))
      (slot_replaced w way st st' x y same
      (moved (one_way w x) (stream_of a k w) (one_way w y) (stream_of b k w)
      (sym (ap (option_and_then (one_way w)) (slice_get-get_or a k none low)))
      (sym (ap (option_and_then (one_way w)) (slice_get-get_or b k none low'))) (all.each k w)))

  replaced_other : (n : ℕ) → (k ≡ n → ⊥) → (w : Way) → SameSlot (stream_of (set_stream a k way st) n w) (stream_of (set_stream b k way st') n w)
  replaced_other n ne w =
      moved (stream_of (set_stream a k way st) n w) (stream_of a n w) (stream_of (set_stream b k way st') n w) (stream_of b n w)
      (ap (option_and_then (one_way w)) (get-set_other a k n (with_stream way st (get_or a k none)) ne))
      (ap (option_and_then (one_way w)) (get-set_other b k n (with_stream way st' (get_or b k none)) ne)) (all.each n w)

  replaced_past : length a ≤ k → (n : ℕ) (w : Way) → SameSlot (stream_of (set_stream a k way st) n w) (stream_of (set_stream b k way st') n w)
  replaced_past past n w =
      moved (stream_of (set_stream a k way st) n w) (stream_of a n w) (stream_of (set_stream b k way st') n w) (stream_of b n w)
      (ap (λ (l : List Both). stream_of l n w) (set_past a k (with_stream way st (get_or a k none)) past))
      (ap (λ (l : List Both). stream_of l n w) (set_past b k (with_stream way st' (get_or b k none)) (omega (arith, past, all.len)))) (all.each n w)

  pub all_replaced : SameAll (set_stream a k way st) (set_stream b k way st')
  all_replaced = record {
    len = length-set a k (with_stream way st (get_or a k none)) ∙ all.len ∙ sym (length-set b k (with_stream way st' (get_or b k none)));
    each = λ n w. elim (cases_lt k (length a)) [
      | inl low ↦ elim (cases_eq k n) [
        | inl is ↦ subst (λ (m : ℕ). SameSlot (stream_of (set_stream a k way st) m w) (stream_of (set_stream b k way st') m w)) is (replaced_here low w)
        | inr ne ↦ replaced_other n ne w
      ]
      | inr past ↦ replaced_past past n w
    ];
  }
