-- The bytes of an endpoint by their offsets, and as pieces.
use Rattle.std.proofs.Common.{◌≡◌, ℕ, ◌+◌, ◌<◌, ◌≤◌, Bool, true, false, cond, List, [], ◌∷◌, ◌++◌, length, drop, refl, sym, ap, ◌∙◌, subst}
use Rattle.std.proofs.Common.{append-nil, append_assoc, arith, inl, inr}
use Rattle.std.specs.Prelude.{T, ◌==◌, ◌&&◌}
use Rattle.std.specs.Ordering.{nat_cmp, is_lt}
use Rattle.std.specs.Cmp.{nat_cmp_total}
use Rattle.std.specs.FinMap as map
use Rattle.std.specs.FinMap.{is_sorted}
use Rattle.std.specs.FinMap.Entries.{below_all}
use Rattle.std.proofs.Math.Seq.{drop-append_seam}
use Rattle.std.proofs.lemmas.Bool.{cases_eq}
use Rattle.std.proofs.lemmas.Bool.Decides.{nat_tests}
use Rattle.tcp_seq.specs.Endpoint.{Bytes, run_from, bytes_in_order}
use Rattle.tcp_seq.specs.declared.state.Piece.{Piece}
use Rattle.tcp_end.specs.State.{LieFrom}
use Rattle.tcp_end.specs.Whole.{arrived_of, numbered_from, numbered_in}
use Rattle.capsule_parts.specs.Parts.{in_front, pieces_of}
use Rattle.capsule_parts.specs.Sound.{LieAbove}

-- ---- bytes with their offsets

pub numbered_more : (offset : ℕ) (xs ys : List ℕ) → numbered_from offset (xs ++ ys) ≡ numbered_from offset xs ++ numbered_from (offset + length xs) ys
numbered_more offset [] ys = ap (λ (n : ℕ). numbered_from n ys) (let e : offset ≡ offset + 0 = omega arith in e)
numbered_more offset (x ∷ xs) ys =
    ap (λ (es : List (ℕ × ℕ)). (offset, x) ∷ es) (numbered_more (offset + 1) xs ys
    ∙ ap (λ (n : ℕ). numbered_from (offset + 1) xs ++ numbered_from n ys) (let e : offset + 1 + length xs ≡ offset + length (x ∷ xs) = omega arith in e))

pub numbered_pieces : (ps qs : List Piece) → numbered_in (ps ++ qs) ≡ numbered_in ps ++ numbered_in qs
numbered_pieces [] qs = refl
numbered_pieces (p ∷ ps) qs =
    ap (λ (es : List (ℕ × ℕ)). numbered_from p.offset p.bytes ++ es) (numbered_pieces ps qs)
    ∙ sym (append_assoc (numbered_from p.offset p.bytes) (numbered_in ps) (numbered_in qs))

pub numbered_one : (p : Piece) → numbered_in (p ∷ []) ≡ numbered_from p.offset p.bytes
numbered_one p = append-nil (numbered_from p.offset p.bytes)

-- ---- as pieces

in_front_said : (offset byte : ℕ) (ps : List Piece) → numbered_in (in_front offset byte ps) ≡ (offset, byte) ∷ numbered_in ps
in_front_said offset byte [] = refl
in_front_said offset byte (p ∷ ps) = by_test (p.offset == offset + 1) refl where
  by_test : (t : Bool) → (p.offset == offset + 1) ≡ t
      → numbered_in (cond t (record { offset = offset; bytes = byte ∷ p.bytes } ∷ ps) (record { offset = offset; bytes = byte ∷ [] } ∷ p ∷ ps))
      ≡ (offset, byte) ∷ numbered_in (p ∷ ps)
  by_test true e =
      let next : p.offset ≡ offset + 1 = grind (arith, nat_tests) in
      ap (λ (n : ℕ). (offset, byte) ∷ (numbered_from n p.bytes ++ numbered_in ps)) (sym next)
  by_test false e = refl

-- the pieces have the same bytes at the same offsets
pub pieces_said : (es : List (ℕ × ℕ)) → numbered_in (pieces_of es) ≡ es
pieces_said [] = refl
pieces_said (e ∷ es) = in_front_said e.0 e.1 (pieces_of es) ∙ ap (λ (fs : List (ℕ × ℕ)). (e.0, e.1) ∷ fs) (pieces_said es)

abbrev front_at : ℕ → ℕ → List Piece → Piece → Bool → List Piece
front_at offset byte ps p t = cond t (record { offset = offset; bytes = byte ∷ p.bytes } ∷ ps) (record { offset = offset; bytes = byte ∷ [] } ∷ p ∷ ps)

apart_front : (offset byte high : ℕ) (ps : List Piece) → LieAbove (offset + 1) high ps
    → in_front offset byte ps ≡ record { offset = offset; bytes = byte ∷ [] } ∷ ps
apart_front offset byte high [] lie = refl
apart_front offset byte high (p ∷ ps) lie =
    let t : (p.offset == offset + 1) ≡ false = let above = lie.0 in grind (arith, nat_tests) in
    ap (front_at offset byte ps p) t

next_front : (offset byte : ℕ) (bytes : List ℕ) (ps : List Piece)
    → in_front offset byte (record { offset = offset + 1; bytes = bytes } ∷ ps) ≡ record { offset = offset; bytes = byte ∷ bytes } ∷ ps
next_front offset byte bytes ps =
    let t : (offset + 1 == offset + 1) ≡ true = grind (arith, nat_tests) in ap (front_at offset byte ps (record { offset = offset + 1; bytes = bytes })) t

one_piece : (offset byte high : ℕ) (bytes : List ℕ) (es : List (ℕ × ℕ)) (ps : List Piece) → pieces_of es ≡ ps
    → LieAbove (offset + length (byte ∷ bytes)) high ps
    → pieces_of (numbered_from offset (byte ∷ bytes) ++ es) ≡ record { offset = offset; bytes = byte ∷ bytes } ∷ ps
one_piece offset byte high [] es ps is lie = ap (in_front offset byte) is ∙ apart_front offset byte high ps lie
one_piece offset byte high (c ∷ bytes) es ps is lie =
    let later : LieAbove (offset + 1 + length (c ∷ bytes)) high ps =
    subst (λ (n : ℕ). LieAbove n high ps) (let e : offset + length (byte ∷ c ∷ bytes) ≡ offset + 1 + length (c ∷ bytes) = omega arith in e) lie in
    ap (in_front offset byte) (one_piece (offset + 1) c high bytes es ps is later) ∙ next_front offset byte (c ∷ bytes) ps

-- pieces that lie apart are those of their bytes
pub pieces_are : (below high : ℕ) (ps : List Piece) → LieAbove below high ps → pieces_of (numbered_in ps) ≡ ps
pieces_are below high [] lie = refl
pieces_are below high (p ∷ ps) lie = by_bytes p.bytes refl (pieces_are (p.offset + length p.bytes) high ps lie.3) where
  by_bytes : (bytes : List ℕ) → p.bytes ≡ bytes → pieces_of (numbered_in ps) ≡ ps → pieces_of (numbered_in (p ∷ ps)) ≡ p ∷ ps
  by_bytes [] e are = absurd (omega (arith, lie.1, ap (λ (xs : List ℕ). length xs) e))
  by_bytes (b ∷ bs) e are =
      let rest : LieAbove (p.offset + length (b ∷ bs)) high ps = subst (λ (xs : List ℕ). LieAbove (p.offset + length xs) high ps) e lie.3 in
      ap (λ (xs : List ℕ). pieces_of (numbered_from p.offset xs ++ numbered_in ps)) e
      ∙ one_piece p.offset b high bs (numbered_in ps) ps are rest
      ∙ ap (λ (xs : List ℕ). let q : Piece = record { offset = p.offset; bytes = xs } in q ∷ ps) (sym e)

-- ---- pieces that lie apart, and those that may touch

pub lie_from : (low below high : ℕ) (ps : List Piece) → low ≤ below + 1 → LieAbove below high ps → LieFrom low high ps
lie_from low below high [] le lie = tt
lie_from low below high (p ∷ ps) le lie =
    (omega (arith, le, lie.0), lie.1, lie.2, lie_from (p.offset + length p.bytes) (p.offset + length p.bytes) high ps (omega arith) lie.3)

pub above_wider : (below low high : ℕ) (ps : List Piece) → low ≤ high → LieAbove below low ps → LieAbove below high ps
above_wider below low high [] le lie = tt
above_wider below low high (p ∷ ps) le lie = (lie.0, lie.1, omega (arith, lie.2, le), above_wider (p.offset + length p.bytes) low high ps le lie.3)

-- the last piece is replaced by pieces that lie above the same offset
pub last_replaced : (below low high : ℕ) (rest : List Piece) (last : Piece) (tail : List Piece) → low ≤ high → LieAbove below low (rest ++ last ∷ [])
    → ((n : ℕ) → n < last.offset → LieAbove n high tail) → LieAbove below high (rest ++ tail)
last_replaced below low high [] last tail le lie new = new below lie.0
last_replaced below low high (p ∷ rest) last tail le lie new =
    (lie.0, lie.1, omega (arith, lie.2, le), last_replaced (p.offset + length p.bytes) low high rest last tail le lie.3 new)

pub last_ends : (below high : ℕ) (rest : List Piece) (last : Piece) → LieAbove below high (rest ++ last ∷ [])
    → (0 < length last.bytes) × (last.offset + length last.bytes ≤ high)
last_ends below high [] last lie = (lie.1, lie.2)
last_ends below high (p ∷ rest) last lie = last_ends (p.offset + length p.bytes) high rest last lie.3

-- ---- the entries of what arrived

-- entries whose offsets are at least n, and each above the one before it
abbrev Rises : ℕ → List (ℕ × ℕ) → Type 0
Rises n [] = Unit {0}
Rises n (e ∷ es) = (n ≤ e.0) × Rises (e.0 + 1) es

both : (a b : Bool) → T a → T b → T (a && b)
both true b p q = q
both false b p q = p

lt_said : (x y : ℕ) → x < y → T (is_lt (nat_cmp x y))
lt_said x y below = grind (arith, nat_tests)

rises_below : (x n : ℕ) (es : List (ℕ × ℕ)) → x < n → Rises n es → T (below_all nat_cmp x es)
rises_below x n [] below rises = tt
rises_below x n (e ∷ es) below rises =
    both (is_lt (nat_cmp x e.0)) (below_all nat_cmp x es) (lt_said x e.0 (omega (arith, below, rises.0)))
    (rises_below x (e.0 + 1) es (omega (arith, below, rises.0)) rises.1)

rises_sorted : (n : ℕ) (es : List (ℕ × ℕ)) → Rises n es → T (is_sorted nat_cmp es)
rises_sorted n [] rises = tt
rises_sorted n (e ∷ es) rises =
    both (below_all nat_cmp e.0 es) (is_sorted nat_cmp es) (rises_below e.0 (e.0 + 1) es (omega arith) rises.1) (rises_sorted (e.0 + 1) es rises.1)

rises_from : (n m : ℕ) (es : List (ℕ × ℕ)) → n ≤ m → Rises m es → Rises n es
rises_from n m [] le rises = tt
rises_from n m (e ∷ es) le rises = (omega (arith, le, rises.0), rises.1)

rises_numbered : (n offset : ℕ) (bytes : List ℕ) (es : List (ℕ × ℕ)) → n ≤ offset → Rises (offset + length bytes) es
    → Rises n (numbered_from offset bytes ++ es)
rises_numbered n offset [] es le rises = rises_from n (offset + 0) es (omega (arith, le)) rises
rises_numbered n offset (b ∷ bytes) es le rises = (
  le,
  rises_numbered (offset + 1) (offset + 1) bytes es (omega arith) (subst (λ (m : ℕ). Rises m es)
      (let e : offset + length (b ∷ bytes) ≡ offset + 1 + length bytes = omega arith in e) rises),
)

rises_pieces : (low high : ℕ) (ps : List Piece) → LieFrom low high ps → Rises low (numbered_in ps)
rises_pieces low high [] lie = tt
rises_pieces low high (p ∷ ps) lie = rises_numbered low p.offset p.bytes (numbered_in ps) lie.0 (rises_pieces (p.offset + length p.bytes) high ps lie.3)

sorted_entries : (es : List (ℕ × ℕ)) → T (is_sorted nat_cmp es) → map.entries (map.from_entries {R = nat_cmp} es) ≡ es
sorted_entries es sorted =
    ap map.entries (map.same_map nat_cmp_total map.nat_cmp-IsAntisymmetric (map.from_entries {R = nat_cmp} es) (map.from_sorted {R = nat_cmp} es)
    (λ k. map.get-from_entries nat_cmp_total es k ∙ sym (map.get-from_sorted nat_cmp es k sorted)))
    ∙ map.entries-from_sorted nat_cmp es sorted

module _ (bytes : List ℕ) (high : ℕ) (ps : List Piece) (lie : LieFrom (length bytes + 1) high ps) where
  arrived_rises : Rises 0 (numbered_from 0 bytes ++ numbered_in ps)
  arrived_rises = rises_numbered 0 0 bytes (numbered_in ps) (omega arith) (rises_from (0 + length bytes) (length bytes + 1) (numbered_in ps) (omega arith)
      (rises_pieces (length bytes + 1) high ps lie))

  pub arrived_entries : map.entries (arrived_of bytes ps) ≡ numbered_from 0 bytes ++ numbered_in ps
  arrived_entries = sorted_entries (numbered_from 0 bytes ++ numbered_in ps) (rises_sorted 0 (numbered_from 0 bytes ++ numbered_in ps) arrived_rises)

-- ---- the bytes that stand from offset 0 on

run_numbered : (n : ℕ) (bytes : List ℕ) (es : List (ℕ × ℕ)) → run_from n (numbered_from n bytes ++ es) ≡ bytes ++ run_from (n + length bytes) es
run_numbered n [] es = ap (λ (m : ℕ). run_from m es) (let e : n ≡ n + 0 = omega arith in e)
run_numbered n (b ∷ bytes) es =
    let t : (n == n) ≡ true = grind (arith, nat_tests) in
    ap (λ (x : Bool). cond x (b ∷ run_from (n + 1) (numbered_from (n + 1) bytes ++ es)) []) t
    ∙ ap (λ (xs : List ℕ). b ∷ xs) (run_numbered (n + 1) bytes es
    ∙ ap (λ (m : ℕ). bytes ++ run_from m es) (let e : n + 1 + length bytes ≡ n + length (b ∷ bytes) = omega arith in e))

run_past : (n m : ℕ) (es : List (ℕ × ℕ)) → n < m → Rises m es → run_from n es ≡ []
run_past n m [] past rises = refl
run_past n m (e ∷ es) past rises =
    let t : (e.0 == n) ≡ false = let from = rises.0 in grind (arith, nat_tests) in ap (λ (x : Bool). cond x (e.1 ∷ run_from (n + 1) es) []) t

pub arrived_in_order : (bytes : List ℕ) (high : ℕ) (ps : List Piece) → LieFrom (length bytes + 1) high ps → bytes_in_order (arrived_of bytes ps) ≡ bytes
arrived_in_order bytes high ps lie =
    ap (run_from 0) (arrived_entries bytes high ps lie)
    ∙ run_numbered 0 bytes (numbered_in ps)
    ∙ ap (λ (xs : List ℕ). bytes ++ xs) (run_past (0 + length bytes) (length bytes + 1) (numbered_in ps) (omega arith)
    (rises_pieces (length bytes + 1) high ps lie))
    ∙ append-nil bytes

length-numbered : (n : ℕ) (bytes : List ℕ) → length (numbered_from n bytes) ≡ length bytes
length-numbered n [] = refl
length-numbered n (b ∷ bytes) = let rest = length-numbered (n + 1) bytes in omega (arith, rest)

-- what arrived behind those bytes
pub arrived_ahead : (bytes : List ℕ) (high : ℕ) (ps : List Piece) → LieFrom (length bytes + 1) high ps
    → drop (length (bytes_in_order (arrived_of bytes ps))) (map.entries (arrived_of bytes ps)) ≡ numbered_in ps
arrived_ahead bytes high ps lie =
    ap (λ (xs : List ℕ). drop (length xs) (map.entries (arrived_of bytes ps))) (arrived_in_order bytes high ps lie)
    ∙ ap (drop (length bytes)) (arrived_entries bytes high ps lie)
    ∙ ap (λ (n : ℕ). drop n (numbered_from 0 bytes ++ numbered_in ps)) (sym (length-numbered 0 bytes))
    ∙ drop-append_seam (numbered_from 0 bytes) (numbered_in ps)

-- ---- what arrived is known by the bytes in order and the pieces behind them

run_split : (n : ℕ) (es : List (ℕ × ℕ)) → es ≡ numbered_from n (run_from n es) ++ drop (length (run_from n es)) es
run_split n [] = refl
run_split n (e ∷ es) = elim (cases_eq e.0 n) [
  | inl is ↦
      let t : (e.0 == n) ≡ true = grind (arith, nat_tests) in
      let run : run_from n (e ∷ es) ≡ e.1 ∷ run_from (n + 1) es = ap (λ (x : Bool). cond x (e.1 ∷ run_from (n + 1) es) []) t in
      ap (λ (k : ℕ). (k, e.1) ∷ es) is
      ∙ ap (λ (fs : List (ℕ × ℕ)). (n, e.1) ∷ fs) (run_split (n + 1) es)
      ∙ ap (λ (xs : List ℕ). numbered_from n xs ++ drop (length xs) (e ∷ es)) (sym run)
  | inr not ↦
      let t : (e.0 == n) ≡ false = grind (arith, nat_tests) in
      let run : run_from n (e ∷ es) ≡ [] = ap (λ (x : Bool). cond x (e.1 ∷ run_from (n + 1) es) []) t in
      ap (λ (xs : List ℕ). numbered_from n xs ++ drop (length xs) (e ∷ es)) (sym run)
]

pub same_arrived : (m n : Bytes) → bytes_in_order m ≡ bytes_in_order n
    → pieces_of (drop (length (bytes_in_order m)) (map.entries m)) ≡ pieces_of (drop (length (bytes_in_order n)) (map.entries n)) → m ≡ n
same_arrived m n order ahead = map.same_entries_map m n
    (run_split 0 (map.entries m)
    ∙ ap (λ (es : List (ℕ × ℕ)). numbered_from 0 (bytes_in_order m) ++ es) (sym (pieces_said (drop (length (bytes_in_order m)) (map.entries m)))
    ∙ ap numbered_in ahead ∙ pieces_said (drop (length (bytes_in_order n)) (map.entries n)))
    ∙ ap (λ (xs : List ℕ). numbered_from 0 xs ++ drop (length (bytes_in_order n)) (map.entries n)) order
    ∙ sym (run_split 0 (map.entries n)))
