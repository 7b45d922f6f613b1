-- The bytes that stand from offset 0 on without a gap.
use Rattle.std.proofs.Common.{◌≡◌, ◌≢◌, ℕ, zero, suc, ◌+◌, ◌<◌, ◌≤◌, List, [], ◌∷◌, length, take, get_or, refl, sym, ap}
use Rattle.std.proofs.Common.{subst, ◌∙◌, arith, inl, inr, Option, None, Some, cond, Bool, true, false}
use Rattle.std.specs.Prelude.{IsSome, T, ◌==◌, ◌&&◌}
use Rattle.std.specs.List.{slice_get}
use Rattle.std.specs.Ordering.{nat_cmp, is_lt}
use Rattle.std.specs.Cmp.{unsigned_tied}
use Rattle.std.specs.FinMap as map
use Rattle.std.specs.FinMap.{find, is_sorted}
use Rattle.std.specs.FinMap.Entries.{below_all}
use Rattle.std.proofs.lemmas.Bool.Decides.{nat_tests}
use Rattle.std.proofs.lemmas.Bool.{cases_lt, cases_eq}
use Rattle.std.proofs.lemmas.List.{length-take, ext_get_or}
use Rattle.std.proofs.lemmas.Option.{slice_get-get_or, get_or_from_slice_get}
use Rattle.tcp_seq.specs.Endpoint.{Bytes, IsReceived, run_from, bytes_in_order}
use Rattle.tcp_seq.proofs.Lookups.{get-take}

-- entries whose offsets are at least n, and each above the one before it
abbrev Rises : ℕ → List (ℕ × ℕ) → Type 0
Rises n [] = Unit {0}
Rises n (e ∷ es) = (n ≤ e.0) × Rises (e.0 + 1) es

and_first : (a b : Bool) → T (a && b) → T a
and_first true b h = tt
and_first false b h = h

and_second : (a b : Bool) → T (a && b) → T b
and_second true b h = h
and_second false b h = absurd h

lt_below : (x y : ℕ) → T (is_lt (nat_cmp x y)) → x < y
lt_below x y h = grind (arith, nat_tests)

rises_above : (x : ℕ) (es : List (ℕ × ℕ)) → T (below_all nat_cmp x es) → T (is_sorted nat_cmp es) → Rises (x + 1) es
rises_above x [] above sorted = tt
rises_above x (e ∷ es) above sorted =
    let below : x < e.0 = lt_below x e.0 (and_first (is_lt (nat_cmp x e.0)) (below_all nat_cmp x es) above) in (
      omega (arith, below),
      rises_above e.0 es (and_first (below_all nat_cmp e.0 es) (is_sorted nat_cmp es) sorted)
          (and_second (below_all nat_cmp e.0 es) (is_sorted nat_cmp es) sorted),
    )

rises_all : (es : List (ℕ × ℕ)) → T (is_sorted nat_cmp es) → Rises 0 es
rises_all [] sorted = tt
rises_all (e ∷ es) sorted = (
  omega arith,
  rises_above e.0 es (and_first (below_all nat_cmp e.0 es) (is_sorted nat_cmp es) sorted)
      (and_second (below_all nat_cmp e.0 es) (is_sorted nat_cmp es) sorted),
)

-- Look-ups
find_here : (k : ℕ) (e : ℕ × ℕ) (es : List (ℕ × ℕ)) → e.0 ≡ k → find nat_cmp k (e ∷ es) ≡ Some e.1
find_here k e es is =
    ap (λ (b : Bool). cond b (Some e.1) (find nat_cmp k es)) (unsigned_tied k e.0 ∙ (let t : (k == e.0) ≡ true = grind (arith, nat_tests) in t))

find_later : (k : ℕ) (e : ℕ × ℕ) (es : List (ℕ × ℕ)) → e.0 ≢ k → find nat_cmp k (e ∷ es) ≡ find nat_cmp k es
find_later k e es not =
    ap (λ (b : Bool). cond b (Some e.1) (find nat_cmp k es)) (unsigned_tied k e.0 ∙ (let t : (k == e.0) ≡ false = grind (arith, nat_tests) in t))

find_low : (n k : ℕ) (es : List (ℕ × ℕ)) → Rises n es → k < n → find nat_cmp k es ≡ None
find_low n k [] rises below = refl
find_low n k (e ∷ es) rises below =
    find_later k e es (λ is. omega (arith, rises.0, below, is)) ∙ find_low (e.0 + 1) k es rises.1 (omega (arith, rises.0, below))

-- One step: the next offset is there, or it isn't
run_on : (n : ℕ) (e : ℕ × ℕ) (es : List (ℕ × ℕ)) → e.0 ≡ n → run_from n (e ∷ es) ≡ e.1 ∷ run_from (n + 1) es
run_on n e es is = ap (λ (b : Bool). cond b (e.1 ∷ run_from (n + 1) es) []) (let t : (e.0 == n) ≡ true = grind (arith, nat_tests) in t)

run_stops : (n : ℕ) (e : ℕ × ℕ) (es : List (ℕ × ℕ)) → e.0 ≢ n → run_from n (e ∷ es) ≡ []
run_stops n e es not = ap (λ (b : Bool). cond b (e.1 ∷ run_from (n + 1) es) []) (let t : (e.0 == n) ≡ false = grind (arith, nat_tests) in t)

-- the run's bytes, and the offset behind it
record IsRun (n : ℕ) (es : List (ℕ × ℕ)) (run : List ℕ) : Type 0 where
  each : (j : ℕ) → j < length run → slice_get run j ≡ find nat_cmp (n + j) es
  ends : find nat_cmp (n + length run) es ≡ None

each_more : (n : ℕ) (e : ℕ × ℕ) (es : List (ℕ × ℕ)) (run : List ℕ) → e.0 ≡ n → IsRun (n + 1) es run → (j : ℕ) → j < length (e.1 ∷ run)
    → slice_get (e.1 ∷ run) j ≡ find nat_cmp (n + j) (e ∷ es)
each_more n e es run is rest zero below = sym (find_here (n + 0) e es (omega (arith, is)))
each_more n e es run is rest (suc j) below =
    rest.each j (omega (arith, below)) ∙ ap (λ (k : ℕ). find nat_cmp k es) (let same : n + 1 + j ≡ n + suc j = omega arith in same)
    ∙ sym (find_later (n + suc j) e es (λ at. omega (arith, is, at)))

run_is : (n : ℕ) (es : List (ℕ × ℕ)) → Rises n es → IsRun n es (run_from n es)
run_is n [] rises = record { each = λ j below. absurd (omega (arith, below)); ends = refl }
run_is n (e ∷ es) rises =
    let rest : e.0 ≡ n → IsRun (n + 1) es (run_from (n + 1) es) = λ is. run_is (n + 1) es (subst (λ (m : ℕ). Rises (m + 1) es) is rises.1) in
    elim (cases_eq e.0 n) [
      | inl is ↦ subst (IsRun n (e ∷ es)) (sym (run_on n e es is)) (record {
        each = each_more n e es (run_from (n + 1) es) is (rest is);
        ends = find_later (n + length (e.1 ∷ run_from (n + 1) es)) e es (λ at. omega (arith, is, at))
            ∙ ap (λ (k : ℕ). find nat_cmp k es) (let same : n + length (e.1 ∷ run_from (n + 1) es) ≡ n + 1 + length (run_from (n + 1) es) = omega arith in same)
            ∙ (rest is).ends;
      })
      | inr not ↦ subst (IsRun n (e ∷ es)) (sym (run_stops n e es not)) (record {
        each = λ j below. absurd (omega (arith, below));
        ends = find_later (n + 0) e es (λ at. not (omega (arith, at))) ∙ find_low (e.0 + 1) (n + 0) es rises.1 (omega (arith, rises.0));
      })
    ]

whole : (m : Bytes) → IsRun 0 (map.entries m) (bytes_in_order m)
whole m = run_is 0 (map.entries m) (rises_all (map.entries m) (map.entries_sorted m))

-- The same by offsets
pub byte_in_order : (m : Bytes) (k : ℕ) → k < length (bytes_in_order m) → slice_get (bytes_in_order m) k ≡ map.get m k
byte_in_order m k below =
    (whole m).each k below ∙ ap (λ (j : ℕ). find nat_cmp j (map.entries m)) (let same : 0 + k ≡ k = omega arith in same) ∙ sym (map.get-entries m k)

pub none_behind : (m : Bytes) → map.get m (length (bytes_in_order m)) ≡ None
none_behind m =
    map.get-entries m (length (bytes_in_order m))
    ∙ ap (λ (j : ℕ). find nat_cmp j (map.entries m)) (let same : length (bytes_in_order m) ≡ 0 + length (bytes_in_order m) = omega arith in same)
    ∙ (whole m).ends

pub some_none : {X : Type 0} (o : Option X) → IsSome o → o ≡ None → ⊥
some_none None some none = let e : false ≡ true = some in cc
some_none (Some x) some none = cc

pub some_in_order : (m : Bytes) (k : ℕ) → k < length (bytes_in_order m) → IsSome (map.get m k)
some_in_order m k below =
    subst (λ (o : Option ℕ). IsSome o) (byte_in_order m k below) (subst (λ (o : Option ℕ). IsSome o) (sym (slice_get-get_or (bytes_in_order m) k 0 below)) refl)

pub received_is : (m : Bytes) → IsReceived m (length (bytes_in_order m))
received_is m = record {
  all = some_in_order m;
  greatest = λ n all. elim (cases_lt (length (bytes_in_order m)) n) [
    | inl past ↦ absurd (some_none (map.get m (length (bytes_in_order m))) (all (length (bytes_in_order m)) past) (none_behind m))
    | inr within ↦ within
  ];
}

-- a list whose elements are the first ones of another
pub first_bytes : (xs ys : List ℕ) → length xs ≤ length ys → ((k : ℕ) → k < length xs → slice_get xs k ≡ slice_get ys k) → xs ≡ take (length xs) ys
first_bytes xs ys within same =
    let n : length xs ≡ length (take (length xs) ys) = omega (arith, within, length-take (length xs) ys) in
    ext_get_or 0 xs (take (length xs) ys) n
    (λ i below. sym (get_or_from_slice_get (take (length xs) ys) i (get_or xs i 0) 0
    (get-take (length xs) ys i below ∙ sym (same i below) ∙ slice_get-get_or xs i 0 below)))

-- the bytes in order are those that stand at their offsets up to one that has none
pub bytes_are : (m : Bytes) (xs : List ℕ) → ((k : ℕ) → k < length xs → slice_get xs k ≡ map.get m k) → map.get m (length xs) ≡ None → bytes_in_order m ≡ xs
bytes_are m xs each ends =
    let run = bytes_in_order m in
    let short : length run ≤ length xs = elim (cases_lt (length xs) (length run)) [
      | inl past ↦ absurd (some_none (map.get m (length xs)) (some_in_order m (length xs) past) ends)
      | inr within ↦ within
    ] in
    let long : length xs ≤ length run = (received_is m).greatest (length xs)
    (λ k below. subst (λ (o : Option ℕ). IsSome o) (each k below) (subst (λ (o : Option ℕ). IsSome o) (sym (slice_get-get_or xs k 0 below)) refl)) in
    let n : length run ≡ length xs = omega (arith, short, long) in
    ext_get_or 0 run xs n (λ i below. get_or_from_slice_get run i (get_or xs i 0) 0
    (byte_in_order m i below ∙ sym (each i (omega (arith, below, n))) ∙ slice_get-get_or xs i 0 (omega (arith, below, n))))

-- bytes that stay keep the bytes in order
pub in_order_grows : (m m' : Bytes) → ((k byte : ℕ) → map.get m k ≡ Some byte → map.get m' k ≡ Some byte)
    → bytes_in_order m ≡ take (length (bytes_in_order m)) (bytes_in_order m')
in_order_grows m m' stays =
    let run = bytes_in_order m in
    let there : (k : ℕ) → k < length run → map.get m' k ≡ Some (get_or run k 0) =
    λ k below. stays k (get_or run k 0) (sym (byte_in_order m k below) ∙ slice_get-get_or run k 0 below) in
    let long : length run ≤ length (bytes_in_order m') =
    (received_is m').greatest (length run) (λ k below. subst (λ (o : Option ℕ). IsSome o) (sym (there k below)) refl) in
    first_bytes run (bytes_in_order m') long
    (λ k below. slice_get-get_or run k 0 below ∙ sym (there k below) ∙ sym (byte_in_order m' k (omega (arith, below, long))))
