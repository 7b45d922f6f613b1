-- Sets by number, where one of them changes.
use Rattle.std.proofs.Common.{◌≡◌, ℕ, zero, suc, ◌<◌, ◌≤◌, false, List, [], ◌∷◌, length, get_or, set, is_some, refl, sym, ap, ◌∙◌, arith}
use Rattle.std.proofs.lemmas.List.{length-set}
use Rattle.std.specs.FinMap as map
use Rattle.std.specs.Prelude.{Result, Ok, Err, OnOk, OnErr}
use Rattle.bgp_types.specs.Prefixes.{PrefixValue}
use Rattle.bgp_types.specs.Tables.{prefix_cmp}
use Rattle.session_value.specs.Points.{at}
use Rattle.session_value.specs.Sets.{Prefixes, has}
use Rattle.rib_stages.specs.Values.{table_at}
use Rattle.rib_stages.proofs.Tables.{at-itself, read_is, table-set}

-- no prefix is in the empty set
pub none_in : (x : PrefixValue) → has map.empty x ≡ false
none_in x = ap is_some (map.get-empty prefix_cmp x)

-- what stands behind the last is empty
pub table_at_end : {A : Type 0} (xs : List (map.FinMap prefix_cmp A)) (n : ℕ) → length xs ≤ n → table_at xs n ≡ map.empty
table_at_end [] n from = refl
table_at_end (x ∷ xs) zero from = absurd (omega (arith, from))
table_at_end (x ∷ xs) (suc n) from = table_at_end xs n (omega (arith, from))

-- x stands at number n of these sets, and t takes its place
module _ (xs now : List Prefixes) (n : ℕ) (x t : Prefixes) (same : xs ≡ now) (there : n < length now) (read : x ≡ get_or xs n x) where
  within : n < length xs
  within = omega (arith, there, ap (λ (ts : List Prefixes). length ts) same)

  was : x ≡ table_at now n
  was = sym (read_is xs n x within read) ∙ ap (λ (ts : List Prefixes). table_at ts n) same

  pub becomes : (change : Prefixes → Prefixes) → t ≡ change x → table_at (set xs n t) ≡ at (table_at now) n (change (table_at now n))
  becomes change e = table-set xs n t within ∙ (λ i. at (table_at (same i)) n ((e ∙ ap change was) i))

  pub stays : t ≡ x → table_at (set xs n t) ≡ table_at now
  stays e = table-set xs n t within ∙ (λ i. at (table_at (same i)) n ((e ∙ was) i)) ∙ at-itself (table_at now) n

  pub size : length (set xs n t) ≡ length now
  size = length-set xs n t ∙ ap (λ (ts : List Prefixes). length ts) same

  pub becomes_ok : {A E : Type 0} (r : Result A E) (change : Prefixes → Prefixes) → OnOk r (t ≡ change x)
      → OnOk r (table_at (set xs n t) ≡ at (table_at now) n (change (table_at now n)))
  becomes_ok (Ok a) change e = becomes change e
  becomes_ok (Err e) change h = tt

  pub stays_err : {A E : Type 0} (r : Result A E) → OnErr r (t ≡ x) → OnErr r (table_at (set xs n t) ≡ table_at now)
  stays_err (Ok a) h = tt
  stays_err (Err e) h = stays h
