-- An endpoint is known by its state, its stream and what was read.
use Rattle.std.proofs.Common.{◌≡◌, ◌≢◌, ℕ, zero, suc, ◌+◌, ◌-◌, List, [], ◌∷◌, ◌++◌, length, take, drop, Option, Some}
use Rattle.std.proofs.Common.{None, cond, Bool, true, false, refl, sym, ap, ◌∙◌, arith, inl, inr}
use Rattle.std.specs.Prelude.{◌==◌}
use Rattle.std.specs.List.{slice_get}
use Rattle.std.specs.Option.{option_or}
use Rattle.std.specs.Ordering.{nat_cmp}
use Rattle.std.specs.Cmp.{nat_cmp_total, unsigned_tied}
use Rattle.std.specs.FinMap as map
use Rattle.std.specs.FinMap.{find}
use Rattle.std.proofs.lemmas.Bool.Decides.{nat_tests}
use Rattle.std.proofs.lemmas.Bool.{cases_lt, cases_eq}
use Rattle.std.proofs.lemmas.List.{take-append-drop}
use Rattle.tcp_seq.specs.Endpoint.{Endpoint, byte_from, received, received_bytes}
use Rattle.tcp_seq.specs.declared.state.Piece.{Piece}
use Rattle.tcp_seq.specs.declared.state.EndState.{EndState}
use Rattle.tcp_seq.proofs.ByteFrom.{byte_below, byte_there, byte_past}
use Rattle.tcp_seq.proofs.Received.{byte_in_order, some_in_order, some_none}
use Rattle.tcp_reasm.specs.Runs.{held}
use Rattle.tcp_end.specs.Standing.{EndStands}
use Rattle.tcp_end.specs.Whole.{numbered_from, numbered_in, arrived_of, endpoint_of}

or_by_test : (b : Bool) (x : ℕ) (o o' o'' : Option ℕ) → o'' ≡ option_or o o' → cond b (Some x) o'' ≡ option_or (cond b (Some x) o) o'
or_by_test true x o o' o'' is = refl
or_by_test false x o o' o'' is = is

find_joined : (k : ℕ) (es fs : List (ℕ × ℕ)) → find nat_cmp k (es ++ fs) ≡ option_or (find nat_cmp k es) (find nat_cmp k fs)
find_joined k [] fs = refl
find_joined k (e ∷ es) fs =
    ap (λ (b : Bool). cond b (Some e.1) (find nat_cmp k (es ++ fs))) (unsigned_tied k e.0)
    ∙ or_by_test (k == e.0) e.1 (find nat_cmp k es) (find nat_cmp k fs) (find nat_cmp k (es ++ fs)) (find_joined k es fs)
    ∙ ap (λ (b : Bool). option_or (cond b (Some e.1) (find nat_cmp k es)) (find nat_cmp k fs)) (sym (unsigned_tied k e.0))

-- the byte at an offset
find_numbered : (k offset : ℕ) (bytes : List ℕ) → find nat_cmp k (numbered_from offset bytes) ≡ byte_from offset bytes k
find_numbered k offset [] = elim (cases_lt k offset) [ inl below ↦ sym (byte_below offset [] k below) | inr there ↦ sym (byte_there offset [] k there) ]
find_numbered k offset (b ∷ bs) =
    let rest : find nat_cmp k (numbered_from (offset + 1) bs) ≡ byte_from (offset + 1) bs k = find_numbered k (offset + 1) bs in
    elim (cases_eq k offset) [
      | inl is ↦ ap (λ (t : Bool). cond t (Some b) (find nat_cmp k (numbered_from (offset + 1) bs)))
          (unsigned_tied k offset ∙ (let t : (k == offset) ≡ true = grind (arith, nat_tests) in t))
          ∙ sym (byte_there offset (b ∷ bs) k (omega (arith, is)) ∙ ap (slice_get (b ∷ bs)) (let e : k - offset ≡ zero = omega (arith, is) in e))
      | inr not ↦ ap (λ (t : Bool). cond t (Some b) (find nat_cmp k (numbered_from (offset + 1) bs)))
          (unsigned_tied k offset ∙ (let t : (k == offset) ≡ false = grind (arith, nat_tests) in t))
          ∙ rest ∙ later not
    ]
  where
    later : k ≢ offset → byte_from (offset + 1) bs k ≡ byte_from offset (b ∷ bs) k
    later not = elim (cases_lt k offset) [
      | inl below ↦ byte_below (offset + 1) bs k (omega (arith, below)) ∙ sym (byte_below offset (b ∷ bs) k below)
      | inr from ↦ byte_there (offset + 1) bs k (omega (arith, from, not))
          ∙ sym (byte_there offset (b ∷ bs) k from ∙ ap (slice_get (b ∷ bs)) (let e : k - offset ≡ suc (k - (offset + 1)) = omega (arith, from, not) in e))
    ]

find_pieces : (k : ℕ) (pieces : List Piece) → find nat_cmp k (numbered_in pieces) ≡ held pieces k
find_pieces k [] = refl
find_pieces k (p ∷ ps) =
    find_joined k (numbered_from p.offset p.bytes) (numbered_in ps)
    ∙ ap (λ (o : Option ℕ). option_or o (find nat_cmp k (numbered_in ps))) (find_numbered k p.offset p.bytes)
    ∙ ap (option_or (byte_from p.offset p.bytes k)) (find_pieces k ps)

pub get-arrived_of : (bytes : List ℕ) (pieces : List Piece) (k : ℕ) → map.get (arrived_of bytes pieces) k ≡ option_or (byte_from 0 bytes k) (held pieces k)
get-arrived_of bytes pieces k =
    map.get-from_entries nat_cmp_total (numbered_from 0 bytes ++ numbered_in pieces) k
    ∙ find_joined k (numbered_from 0 bytes) (numbered_in pieces)
    ∙ ap (λ (o : Option ℕ). option_or o (find nat_cmp k (numbered_in pieces))) (find_numbered k 0 bytes)
    ∙ ap (option_or (byte_from 0 bytes k)) (find_pieces k pieces)

or_there : (o more : Option ℕ) → (o ≡ None → ⊥) → option_or o more ≡ o
or_there None more there = absurd (there refl)
or_there (Some x) more there = refl

-- what arrived, offset by offset
same_byte : (s : EndState) (e : Endpoint) (bytes : List ℕ) → EndStands s e → received_bytes e ≡ bytes → (k : ℕ)
    → map.get e.arrived k ≡ map.get (arrived_of bytes s.ahead) k
same_byte s e bytes stands is k = elim (cases_lt k (received e)) [
  | inl below ↦
      let there : map.get e.arrived k ≡ byte_from 0 bytes k =
      sym (byte_in_order e.arrived k below) ∙ ap (λ (xs : List ℕ). slice_get xs k) is
      ∙ ap (slice_get bytes) (let z : k ≡ k - 0 = omega arith in z) ∙ sym (byte_there 0 bytes k (omega arith)) in
      there
      ∙ sym (or_there (byte_from 0 bytes k) (held s.ahead k) (λ none. some_none (map.get e.arrived k) (some_in_order e.arrived k below) (there ∙ none)))
      ∙ sym (get-arrived_of bytes s.ahead k)
  | inr past ↦
      stands.ahead k past
      ∙ sym (get-arrived_of bytes s.ahead k ∙ ap (λ (o : Option ℕ). option_or o (held s.ahead k)) (byte_past 0 bytes k (omega (arith, past, ap length is))))
]

-- an endpoint that a state stands for is the one of its stream and of what was read
pub endpoint_is : (s : EndState) (e : Endpoint) (stream read : List ℕ) → EndStands s e → e.stream ≡ stream → take e.read (received_bytes e) ≡ read
    → e ≡ endpoint_of stream read s
endpoint_is s e stream read stands is was =
    let bytes : received_bytes e ≡ read ++ s.ready = sym (take-append-drop e.read (received_bytes e))
    ∙ ap (λ (xs : List ℕ). xs ++ drop e.read (received_bytes e)) was ∙ ap (λ (xs : List ℕ). read ++ xs) (sym stands.ready) in
    let same : e.arrived ≡ arrived_of (read ++ s.ready) s.ahead = map.same_map nat_cmp_total map.nat_cmp-IsAntisymmetric e.arrived
    (arrived_of (read ++ s.ready) s.ahead) (same_byte s e (read ++ s.ready) stands bytes) in
    made e (endpoint_of stream read s) is stands.emitted stands.acked same stands.read stands.owed
  where
    made : (e f : Endpoint) → e.stream ≡ f.stream → e.emitted ≡ f.emitted → e.acked ≡ f.acked → e.arrived ≡ f.arrived → e.read ≡ f.read
        → e.owed ≡ f.owed → e ≡ f
    made e f a b c d g h = λ i. record { stream = a i; emitted = b i; acked = c i; arrived = d i; read = g i; owed = h i }
