-- Sets by number, to some of which one prefix is added.
use Rattle.std.proofs.Common.{◌≡◌, ◌≢◌, ℕ, ◌+◌, ◌<◌, ◌≤◌, List, length, Bool, true, false, cond, ◌&&◌, ◌||◌}
use Rattle.std.proofs.Common.{◌⊎◌, inl, inr, refl, sym, ap, subst, ◌∙◌, arith}
use Rattle.std.specs.Prelude.{if◌then◌else◌}
use Rattle.std.specs.FinMap as map
use Rattle.std.specs.Ordering.{eq_by_cmp}
use Rattle.std.proofs.lemmas.Bool.{cases_lt}
use Rattle.bgp_types.specs.Prefixes.{PrefixValue, same_prefix}
use Rattle.bgp_types.specs.Tables.{prefix_cmp}
use Rattle.bgp_types.proofs.TableLaws.{tied}
use Rattle.session_value.specs.Sets.{Prefixes, has}
use Rattle.rib_stages.specs.Values.{table_at}
use Rattle.rib_stages.proofs.Kept.{tests_same}
use Rattle.rib_stages.proofs.Marks.{has_inserted}
use Rattle.graft_model.specs.Points.{at}
use Rattle.graft_model.specs.Sets.{Adds}
use Rattle.graft_model.specs.TableRows.{only_prefix}
use Rattle.router_tables.specs.Dues.{AddsBelow}
use Rattle.router_tables.proofs.Points.{one_or_other, at_own, at_else}

by_test : (b : Bool) → (b ≡ true) ⊎ (b ≡ false)
by_test true = inl refl
by_test false = inr refl

either_way : (p q : PrefixValue) → eq_by_cmp prefix_cmp p q ≡ eq_by_cmp prefix_cmp q p
either_way p q = elim (by_test (eq_by_cmp prefix_cmp p q)) [
  | inl e ↦ let same : p ≡ q = tied p q e in (λ i. eq_by_cmp prefix_cmp (same i) (sym same i))
  | inr e ↦ elim (by_test (eq_by_cmp prefix_cmp q p)) [
    | inl f ↦ let same : q ≡ p = tied q p f in (λ i. eq_by_cmp prefix_cmp (sym same i) (same i))
    | inr f ↦ e ∙ sym f
  ]
]

no_add : (s : Prefixes) (prefix : PrefixValue) → Adds s (only_prefix prefix false) s
no_add s prefix = record { members = λ x. by_both (has s x) (same_prefix prefix x) }
  where
    by_both : (h b : Bool) → h ≡ (h || (b && false))
    by_both true true = refl
    by_both true false = refl
    by_both false true = refl
    by_both false false = refl

one_add : (s : Prefixes) (prefix : PrefixValue) → Adds s (only_prefix prefix true) (map.insert s prefix tt)
one_add s prefix = record {
  members = λ x. has_inserted s prefix x ∙ ap (λ (b : Bool). cond b true (has s x)) (either_way x prefix ∙ tests_same prefix x)
      ∙ by_both (has s x) (same_prefix prefix x);
}
  where
    by_both : (h b : Bool) → cond b true h ≡ (h || (b && true))
    by_both true true = refl
    by_both true false = refl
    by_both false true = refl
    by_both false false = refl

add_where : (s : Prefixes) (prefix : PrefixValue) (b : Bool) → Adds s (only_prefix prefix b) (if b then map.insert s prefix tt else s)
add_where s prefix true = one_add s prefix
add_where s prefix false = no_add s prefix

pub adds_next : (n : ℕ) (test : ℕ → Bool) (prefix : PrefixValue) (xs ys zs : List Prefixes) (b : Bool) → AddsBelow n test prefix xs ys → b ≡ test n
    → length zs ≡ length ys
    → table_at zs ≡ at (table_at ys) n (if b then map.insert (table_at ys n) prefix tt else table_at ys n) → AddsBelow (n + 1) test prefix xs zs
adds_next n test prefix xs ys zs b before is size added = record {
  size = size ∙ before.size;
  below = λ k below. elim (one_or_other n k) [
    | inl e ↦ subst (λ (j : ℕ). Adds (table_at xs j) (only_prefix prefix (test j)) (table_at zs j)) (sym e) here
    | inr not ↦ subst (Adds (table_at xs k) (only_prefix prefix (test k))) (sym (other k not)) (before.below k (lower k below not))
  ];
  from = λ k from. other k (λ e. let x : ⊥ = omega (arith, from, e) in x) ∙ before.from k (omega (arith, from));
}
  where
    other : (k : ℕ) → k ≢ n → table_at zs k ≡ table_at ys k
    other k not = ap (λ (d : ℕ → Prefixes). d k) added ∙ at_else (table_at ys) n (if b then map.insert (table_at ys n) prefix tt else table_at ys n) k not

    here : Adds (table_at xs n) (only_prefix prefix (test n)) (table_at zs n)
    here = subst (Adds (table_at xs n) (only_prefix prefix (test n)))
        (sym (ap (λ (d : ℕ → Prefixes). d n) added ∙ at_own (table_at ys) n (if b then map.insert (table_at ys n) prefix tt else table_at ys n)))
        (subst (λ (s : Prefixes). Adds s (only_prefix prefix (test n)) (if b then map.insert (table_at ys n) prefix tt else table_at ys n))
        (before.from n (omega arith))
        (subst (λ (c : Bool). Adds (table_at ys n) (only_prefix prefix c) (if b then map.insert (table_at ys n) prefix tt else table_at ys n)) is
        (add_where (table_at ys n) prefix b)))

    lower : (k : ℕ) → k < n + 1 → k ≢ n → k < n
    lower k below not = elim (cases_lt k n) [ inl under ↦ under | inr from ↦ absurd (not (omega (arith, from, below))) ]

pub adds_all : (test : ℕ → Bool) (prefix : PrefixValue) (xs ys : List Prefixes) → AddsBelow (length xs) test prefix xs ys
    → ((k : ℕ) → length xs ≤ k → test k ≡ false) → (k : ℕ) → Adds (table_at xs k) (only_prefix prefix (test k)) (table_at ys k)
adds_all test prefix xs ys adds none k = elim (cases_lt k (length xs)) [
  | inl below ↦ adds.below k below
  | inr from ↦ subst (λ (s : Prefixes). Adds (table_at xs k) (only_prefix prefix (test k)) s) (sym (adds.from k from))
      (subst (λ (b : Bool). Adds (table_at xs k) (only_prefix prefix b) (table_at xs k)) (sym (none k from)) (no_add (table_at xs k) prefix))
]
