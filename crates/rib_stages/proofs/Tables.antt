-- Tables in a list, one of which changes.
use Rattle.std.proofs.Common.{◌≡◌, ℕ, zero, suc, ◌<◌, ◌==◌, Bool, true, false, cond, List, [], ◌∷◌, length}
use Rattle.std.proofs.Common.{replicate, ◌++◌, ◌+◌, get_or, set, add-one, refl, sym, ap, ◌∙◌, arith}
use Rattle.std.proofs.lemmas.Bool.{eqb-true, eq-eqb}
use Rattle.std.proofs.lemmas.Bool.Decides.{nat_tests}
use Rattle.std.proofs.lemmas.List.{length-map, map-append, map-set}
use Rattle.std.specs.Prelude.{Result, Ok, Err, OnErr}
use Rattle.bgp_types.specs.Prefixes.{PrefixValue}
use Rattle.std.specs.FinMap as map
use Rattle.bgp_types.specs.Tables.{prefix_cmp}
use Rattle.prefix_trie.specs.Table.{TableValue}
use Rattle.session_value.specs.Points.{at}
use Rattle.rib_stages.specs.Values.{table_at, contents_of, tables_of}

pub length_replicate : {B : Type 0} (n : ℕ) (x : B) → length (replicate n x) ≡ n
length_replicate zero x = refl
length_replicate (suc n) x = omega (arith, length_replicate n x)

not_zero : (k : ℕ) → (suc k == 0) ≡ false
not_zero k = grind (arith, nat_tests)

zero_not : (n : ℕ) → (0 == suc n) ≡ false
zero_not n = grind (arith, nat_tests)

both_suc : (k n : ℕ) → (k == n) ≡ (suc k == suc n)
both_suc k n = grind (arith, nat_tests)

module _ {A : Type 0} where
  one_set : (cs : List (map.FinMap prefix_cmp A)) (n k : ℕ) (c : map.FinMap prefix_cmp A) → n < length cs
      → table_at (set cs n c) k ≡ cond (k == n) c (table_at cs k)
  one_set [] n k c h = absurd (omega (arith, h))
  one_set (x ∷ cs) zero zero c h = refl
  one_set (x ∷ cs) zero (suc k) c h = ap (λ (b : Bool). cond b c (table_at cs k)) (sym (not_zero k))
  one_set (x ∷ cs) (suc n) zero c h = ap (λ (b : Bool). cond b c x) (sym (zero_not n))
  one_set (x ∷ cs) (suc n) (suc k) c h = one_set cs n k c (omega (arith, h)) ∙ ap (λ (b : Bool). cond b c (table_at cs k)) (both_suc k n)

  -- one of the tables is another
  pub table-set : (cs : List (map.FinMap prefix_cmp A)) (n : ℕ) (c : map.FinMap prefix_cmp A) → n < length cs → table_at (set cs n c) ≡ at (table_at cs) n c
  table-set cs n c h = λ i k. one_set cs n k c h i

  -- the same of tables with their room
  pub tables-set : (ts : List (TableValue A)) (n : ℕ) (t : TableValue A) → n < length ts → tables_of (set ts n t) ≡ at (tables_of ts) n t.contents
  tables-set ts n t h = ap table_at (map-set (λ (x : TableValue A). x.contents) ts n t)
      ∙ table-set (contents_of ts) n t.contents (omega (arith, h, length-map ts (λ (x : TableValue A). x.contents)))

  itself : (f : ℕ → map.FinMap prefix_cmp A) (n k : ℕ) (b : Bool) → (k == n) ≡ b → cond b (f n) (f k) ≡ f k
  itself f n k true e = ap f (sym (eqb-true k n e))
  itself f n k false e = refl

  pub there_at : (f : ℕ → map.FinMap prefix_cmp A) (n : ℕ) (t : map.FinMap prefix_cmp A) → at f n t n ≡ t
  there_at f n t = ap (λ (b : Bool). cond b t (f n)) (eq-eqb n n refl)

  pub at-itself : (f : ℕ → map.FinMap prefix_cmp A) (n : ℕ) → at f n (f n) ≡ f
  at-itself f n = λ i k. itself f n k (k == n) refl i

  -- what is read at an index is the table there
  pub read_is : (cs : List (map.FinMap prefix_cmp A)) (n : ℕ) (x : map.FinMap prefix_cmp A) → n < length cs → x ≡ get_or cs n x → table_at cs n ≡ x
  read_is [] n x h is = absurd (omega (arith, h))
  read_is (y ∷ cs) zero x h is = sym is
  read_is (y ∷ cs) (suc n) x h is = read_is cs n x (omega (arith, h)) is

  pub table_is : (ts : List (TableValue A)) (n : ℕ) (x : TableValue A) → n < length ts → x ≡ get_or ts n x → tables_of ts n ≡ x.contents
  table_is [] n x h is = absurd (omega (arith, h))
  table_is (y ∷ ts) zero x h is = ap (λ (t : TableValue A). t.contents) (sym is)
  table_is (y ∷ ts) (suc n) x h is = table_is ts n x (omega (arith, h)) is

  pub empty_at : (n k : ℕ) → table_at (replicate n (map.empty {K = PrefixValue} {X = A} {R = prefix_cmp})) k ≡ map.empty
  empty_at zero k = refl
  empty_at (suc n) zero = refl
  empty_at (suc n) (suc k) = empty_at n k

  pub empty_tables : (n : ℕ) → table_at (replicate n (map.empty {K = PrefixValue} {X = A} {R = prefix_cmp})) ≡ (λ k. map.empty)
  empty_tables n = λ i k. empty_at n k i

  -- ---- as calls see it: the list before opening, and an index that is the number

  module _ (ts vs : List (TableValue A)) (n k : ℕ) (x t : TableValue A) (same : ts ≡ vs)
      (index : k ≡ n) (all : length ts ≡ 256) (octet : n < 256) (read : x ≡ get_or ts k x) where
    within : k < length ts
    within = omega (arith, index, all, octet)

    there : x.contents ≡ tables_of vs n
    there = sym (table_is ts k x within read) ∙ (λ i. tables_of (same i) (index i))

    pub call_becomes : (change : map.FinMap prefix_cmp A → map.FinMap prefix_cmp A) → t.contents ≡ change x.contents
        → tables_of (set ts k t) ≡ at (tables_of vs) n (change (tables_of vs n))
    call_becomes change e = tables-set ts k t within
        ∙ (ap (at (tables_of ts) k) (e ∙ ap change there) ∙ λ i. at (tables_of (same i)) (index i) (change (tables_of vs n)))

    pub call_stays : {B E : Type 0} (r : Result B E) → t.contents ≡ x.contents → OnErr r (tables_of (set ts k t) ≡ tables_of vs)
    call_stays (Ok v) e = tt
    call_stays (Err v) e = tables-set ts k t within
        ∙ (ap (at (tables_of ts) k) (e ∙ sym (table_is ts k x within read)) ∙ (at-itself (tables_of ts) k ∙ ap tables_of same))

  -- ---- empty tables

  abbrev pub empties : ℕ → List (map.FinMap prefix_cmp A)
  empties n = replicate n map.empty

  pub one_more : (n : ℕ) → empties n ++ map.empty ∷ [] ≡ empties (suc n)
  one_more zero = refl
  one_more (suc n) = ap (λ (ts : List (map.FinMap prefix_cmp A)). map.empty ∷ ts) (one_more n)

  pub contents_more : (ts us : List (TableValue A)) (t : TableValue A) (n : ℕ) → contents_of ts ≡ empties n → us ≡ ts ++ t ∷ []
      → t.contents ≡ map.empty → contents_of us ≡ empties (n + 1)
  contents_more ts us t n is more none =
      ap contents_of more ∙ (map-append (λ (x : TableValue A). x.contents) ts (t ∷ [])
      ∙ ((λ i. is i ++ none i ∷ []) ∙ (one_more n ∙ ap empties (sym (add-one n)))))

  pub length_is : (ts : List (TableValue A)) (n : ℕ) → contents_of ts ≡ empties n → length ts ≡ n
  length_is ts n is = sym (length-map ts (λ (x : TableValue A). x.contents)) ∙ (ap length is ∙ length_replicate n map.empty)
