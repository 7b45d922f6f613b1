-- The keys of a table rise, and a prefix stands among them exactly where it has a value.
use Rattle.std.proofs.Common.{◌≡◌, ℕ, Bool, true, false, ◌&&◌, is_some, List, [], ◌∷◌, ◌++◌, take, drop, refl, sym, ap, ◌∙◌, subst}
use Rattle.std.specs.Prelude.{T}
use Rattle.std.specs.declared.cmp.Ordering.TheVariants.{Less}
use Rattle.std.specs.FinMap as table
use Rattle.std.specs.List.{AllByRecursion, list_any}
use Rattle.std.specs.List.Sorted.{IsStrictlySortedBy}
use Rattle.std.specs.Ordering.{eq_by_cmp}
use Rattle.std.specs.Prelude.{map}
use Rattle.std.proofs.lemmas.Bool.{false≢true}
use Rattle.std.proofs.lemmas.List.{take-append-drop}
use Rattle.bgp_types.specs.Prefixes.{PrefixValue, same_prefix}
use Rattle.bgp_types.specs.Tables.{prefix_cmp}
use Rattle.bgp_types.proofs.OnceLaws.{same_itself, is_same}
use Rattle.bgp_types.proofs.TableLaws.{AllAbove, prefix_total, rising_parts, tied}
use Rattle.rib_stages.proofs.Marks.{itself}

-- ---- which prefixes stand among them

pub same_is : (p q : PrefixValue) → eq_by_cmp prefix_cmp p q ≡ same_prefix p q
same_is p q = by_tests (eq_by_cmp prefix_cmp p q) (same_prefix p q) refl refl where
  by_tests : (a b : Bool) → eq_by_cmp prefix_cmp p q ≡ a → same_prefix p q ≡ b → eq_by_cmp prefix_cmp p q ≡ same_prefix p q
  by_tests true true e f = e ∙ sym f
  by_tests false false e f = e ∙ sym f
  by_tests true false e f = absurd (false≢true (sym f ∙ (ap (same_prefix p) (sym (tied p q e)) ∙ same_itself p)))
  by_tests false true e f = absurd (false≢true (sym e ∙ (ap (eq_by_cmp prefix_cmp p) (sym (is_same p q f)) ∙ itself p)))

pub keys_any : {A : Type 0} (t : table.FinMap prefix_cmp A) (x : PrefixValue) → list_any (same_prefix x) (table.keys t) ≡ is_some (table.get t x)
keys_any t x = (λ i. list_any (λ y. sym (same_is x y) i) (table.keys t)) ∙ sym (table.contains_key-keys t x)

-- ---- they rise

and_second : (b c : Bool) → T (b && c) → T c
and_second true c h = h
and_second false c h = absurd h

above_keys : {A : Type 0} (p : PrefixValue) (es : List (PrefixValue × A)) → AllAbove prefix_cmp p es
    → AllByRecursion (λ q. prefix_cmp p q ≡ Less) (map (λ e. e.0) es)
above_keys p [] h = tt
above_keys p (e ∷ es) h = (h.0, above_keys p es h.1)

keys_rise : {A : Type 0} (es : List (PrefixValue × A)) → T (table.is_sorted prefix_cmp es) → IsStrictlySortedBy prefix_cmp (map (λ e. e.0) es)
unfolding IsStrictlySortedBy
keys_rise [] h = tt
keys_rise (e ∷ es) h = (above_keys e.0 es (rising_parts prefix_total [] e es h).1, keys_rise es (and_second _ _ h))

front : {A : Type 0} (P : A → Type 0) (xs ys : List A) → AllByRecursion P (xs ++ ys) → AllByRecursion P xs
front P [] ys h = tt
front P (x ∷ xs) ys h = (h.0, front P xs ys h.1)

front_rises : (xs ys : List PrefixValue) → IsStrictlySortedBy prefix_cmp (xs ++ ys) → IsStrictlySortedBy prefix_cmp xs
unfolding IsStrictlySortedBy
front_rises [] ys h = tt
front_rises (x ∷ xs) ys h = (front (λ q. prefix_cmp x q ≡ Less) xs ys h.0, front_rises xs ys h.1)

-- the first of them rise
pub first_keys_rise : {A : Type 0} (t : table.FinMap prefix_cmp A) (n : ℕ) → IsStrictlySortedBy prefix_cmp (take n (table.keys t))
first_keys_rise t n = front_rises (take n (table.keys t)) (drop n (table.keys t))
    (subst (IsStrictlySortedBy prefix_cmp) (sym (take-append-drop n (table.keys t))) (keys_rise (table.entries t) (table.entries_sorted t)))
