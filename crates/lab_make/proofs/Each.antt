-- Texts, numbers and counts that grow by one.
use Rattle.std.proofs.Common.{◌≡◌, ℕ, zero, suc, ◌+◌, ◌%◌, List, [], ◌∷◌, ◌++◌, ap, sym, ◌∙◌, refl, arith, append-nil, append_assoc, add-one, Bool}
use Rattle.std.specs.Prelude.{◌==◌, filter, count_by, if◌then◌else◌}
use Rattle.std.specs.List.{flat_map, range_with_len}
use Rattle.std.proofs.lemmas.List.{flat_map_more}
use Rattle.std.proofs.lemmas.List.Elements.{filter-append}
use Rattle.std.proofs.lemmas.List.Sums.{sum_by-append}
use Rattle.lab_make.specs.Made.{each_below, prefixes_below, moves_before, moved_peering}

range-suc : (a n j : ℕ) → a + n ≡ j → range_with_len a (suc n) ≡ range_with_len a n ++ j ∷ []
range-suc a zero j is = let e : a ≡ j = omega arith in ap (λ (k : ℕ). k ∷ []) e
range-suc a (suc n) j is = ap (λ (l : List ℕ). a ∷ l) (range-suc (a + 1) n j (omega arith))

range_next : (n : ℕ) → range_with_len 0 (n + 1) ≡ range_with_len 0 n ++ n ∷ []
range_next n = ap (λ (k : ℕ). range_with_len 0 k) (add-one n) ∙ range-suc 0 n n (omega arith)

-- ---- texts one behind the other

pub each_none : (text : ℕ → List ℕ) (before : List ℕ) → before ≡ before ++ each_below text 0
unfolding each_below
each_none text before = sym (append-nil before)

pub each_more : (text : ℕ → List ℕ) (before : List ℕ) (n : ℕ) → (before ++ each_below text n) ++ text n ≡ before ++ each_below text (n + 1)
unfolding each_below
each_more text before n = flat_map_more text before (range_with_len 0 n) n ∙ ap (λ (ns : List ℕ). before ++ flat_map text ns) (sym (range_next n))

-- a step of a loop over texts
pub each_step : (text : ℕ → List ℕ) (before old new : List ℕ) (n : ℕ) → old ≡ before ++ each_below text n → new ≡ old ++ text n
    → new ≡ before ++ each_below text (n + 1)
each_step text before old new n so_far is = is ∙ ap (λ (t : List ℕ). t ++ text n) so_far ∙ each_more text before n

-- ---- the prefixes of a peering

pub prefixes_none : (shift j : ℕ) → [] ≡ prefixes_below 0 shift j
unfolding prefixes_below
prefixes_none shift j = refl

prefixes_next : (n shift j : ℕ) → prefixes_below (n + 1) shift j ≡ prefixes_below n shift j ++ (if (n + shift) % 12 == j then n ∷ [] else [])
unfolding prefixes_below
prefixes_next n shift j = ap (filter (λ i. (i + shift) % 12 == j)) (range_next n) ∙ filter-append (λ i. (i + shift) % 12 == j) (range_with_len 0 n) (n ∷ [])

pub prefixes_step : (n shift j : ℕ) (old new : List ℕ) → old ≡ prefixes_below n shift j → new ≡ old ++ (if (n + shift) % 12 == j then n ∷ [] else [])
    → new ≡ prefixes_below (n + 1) shift j
prefixes_step n shift j old new so_far is = is ∙ ap (λ (l : List ℕ). l ++ (if (n + shift) % 12 == j then n ∷ [] else [])) so_far ∙ sym (prefixes_next n shift j)

-- ---- the moves of a peering

count_snoc : (p : ℕ → Bool) (xs : List ℕ) (x : ℕ) → count_by p (xs ++ x ∷ []) ≡ count_by p xs + (if p x then 1 else 0)
count_snoc p xs x = omega (arith, sum_by-append (λ (y : ℕ). if p y then 1 else 0) xs (x ∷ []))

pub moves_none : (seed peering : ℕ) → 0 ≡ moves_before seed peering 0
unfolding moves_before
moves_none seed peering = refl

moves_next : (seed peering g : ℕ) → moves_before seed peering (g + 1) ≡ moves_before seed peering g + (if moved_peering seed g == peering then 1 else 0)
unfolding moves_before
moves_next seed peering g = ap (count_by (λ h. moved_peering seed h == peering)) (range_next g)
    ∙ count_snoc (λ h. moved_peering seed h == peering) (range_with_len 0 g) g

pub moves_step : (seed peering g n m : ℕ) → n ≡ moves_before seed peering g → m ≡ (if moved_peering seed g == peering then 1 else 0)
    → n + m ≡ moves_before seed peering (g + 1)
moves_step seed peering g n m so_far is = ap (λ (k : ℕ). k + m) so_far ∙ ap (λ (k : ℕ). moves_before seed peering g + k) is ∙ sym (moves_next seed peering g)

-- ---- texts that grow

-- what stands behind four texts that were added one after another
pub four_added : (t0 t1 t2 t3 a b c d : List ℕ) → t1 ≡ t0 ++ a → t2 ≡ t1 ++ b → t3 ≡ t2 ++ c → t3 ++ d ≡ t0 ++ (a ++ b ++ c ++ d)
four_added t0 t1 t2 t3 a b c d e f g = rw (g, f, e) (simp append_assoc)
