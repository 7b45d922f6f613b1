-- Sets in which nothing is.
use Rattle.std.proofs.Common.{◌≡◌, ℕ, ◌<◌, ◌≤◌, ◌↔◌, Bool, true, false, not, List, length, Option, Some, None, is_some, inl, inr, refl, sym, ap, ◌∙◌, arith}
use Rattle.std.specs.Prelude.{IsTrue}
use Rattle.std.specs.FinMap as map
use Rattle.std.proofs.lemmas.Bool.{cases_lt, false≢true}
use Rattle.bgp_types.specs.Prefixes.{PrefixValue}
use Rattle.bgp_types.specs.Tables.{first_above}
use Rattle.session_value.specs.Sets.{Prefixes, has}
use Rattle.rib_stages.specs.Values.{table_at}
use Rattle.rib_stages.proofs.Drops.{least_is, no_least_is}
use Rattle.router_tables.proofs.DueSteps.{none_in, table_at_end}

abbrev pub IsEmptied : Prefixes → Type 0
IsEmptied set = (x : PrefixValue) → has set x ≡ false

-- a set has none where it has no least prefix
module _ (set : Prefixes) (least : Option PrefixValue) (is : least ≡ first_above None (map.keys set)) where
  pub emptied : is_some least ≡ false → IsEmptied set
  emptied none x = ap (λ (s : Prefixes). has s x) (no_least_is set (sym is ∙ by_least least none)) ∙ none_in x
    where
      by_least : (o : Option PrefixValue) → is_some o ≡ false → o ≡ None
      by_least None e = refl
      by_least (Some p) e = absurd (false≢true (sym e))

  pub not_emptied : is_some least ≡ true → ¬ IsEmptied set
  not_emptied some empty = by_least least refl some
    where
      by_least : (o : Option PrefixValue) → least ≡ o → is_some o ≡ true → ⊥
      by_least None e f = false≢true f
      by_least (Some p) e f = false≢true (sym (empty p) ∙ least_is set p (sym is ∙ e))

  pub emptied_is : (answer : Bool) → is_some least ≡ not answer → IsTrue answer ↔ IsEmptied set
  emptied_is answer says = (λ t. emptied (says ∙ ap not t), by_answer answer says)
    where
      by_answer : (b : Bool) → is_some least ≡ not b → IsEmptied set → b ≡ true
      by_answer true e empty = refl
      by_answer false e empty = absurd (not_emptied e empty)

-- those of the first so many sets
abbrev pub AreEmptied : List Prefixes → ℕ → Type 0
AreEmptied sets n = (k : ℕ) → k < n → IsEmptied (table_at sets k)

-- nothing is in a set that isn't there
pub emptied_past : (sets : List Prefixes) (n : ℕ) → length sets ≤ n → IsEmptied (table_at sets n)
emptied_past sets n past x = ap (λ (s : Prefixes). has s x) (table_at_end sets n past) ∙ none_in x

pub all_emptied : (sets : List Prefixes) (n : ℕ) → length sets ≤ n → AreEmptied sets n → (k : ℕ) → IsEmptied (table_at sets k)
all_emptied sets n all before k = elim (cases_lt k n) [ inl below ↦ before k below | inr from ↦ emptied_past sets k (omega (arith, all, from)) ]
