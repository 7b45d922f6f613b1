-- What was told, once one UPDATE more was.
use Rattle.std.proofs.Common.{◌≡◌, List, [], ◌∷◌, Bool, true, false, cond, ◌||◌, Option, Some, None, refl, sym, ap, ◌∙◌}
use Rattle.std.specs.Prelude.{fold}
use Rattle.std.specs.FinMap as map
use Rattle.std.specs.Cmp.{eq_by_cmp_equiv}
use Rattle.std.specs.List.{list_any}
use Rattle.std.specs.Ordering.{eq_by_cmp}
use Rattle.std.proofs.lemmas.Bool.{false≢true}
use Rattle.bgp_types.specs.declared.attrs.Attrs.{Attrs}
use Rattle.bgp_types.specs.Prefixes.{PrefixValue, same_prefix}
use Rattle.bgp_types.specs.Tables.{prefix_cmp}
use Rattle.bgp_types.proofs.TableLaws.{prefix_total, tied}
use Rattle.bgp_story.specs.Readings.{Routes, announce, apply}
use Rattle.session_value.specs.Cases.{update_for}
use Rattle.update_plan.proofs.Listed.{same_itself, is_same}

-- the two tests for the same prefix
one_test : (p q : PrefixValue) → eq_by_cmp prefix_cmp p q ≡ same_prefix p q
one_test p q = elim (same_prefix p q) as (λ b. same_prefix p q ≡ b → eq_by_cmp prefix_cmp p q ≡ b) [
  | true ↦ λ e. ap (eq_by_cmp prefix_cmp p) (sym (is_same p q e)) ∙ (eq_by_cmp_equiv prefix_total).refl p
  | false ↦ λ e. elim (eq_by_cmp prefix_cmp p q) as (λ b. eq_by_cmp prefix_cmp p q ≡ b → eq_by_cmp prefix_cmp p q ≡ false) [
    | true ↦ λ f. absurd (false≢true (sym e ∙ (ap (same_prefix p) (sym (tied p q f)) ∙ same_itself p)))
    | false ↦ λ f. f
  ] refl
] refl

either : (t u : Bool) (new old : Option Attrs) → cond u new (cond t new old) ≡ cond (t || u) new old
either true true new old = refl
either true false new old = refl
either false u new old = refl

get_announced : (a : Attrs) (xs : List PrefixValue) (routes : Routes) (p : PrefixValue)
    → map.get (fold (announce (Some a)) routes xs) p ≡ cond (list_any (same_prefix p) xs) (Some a) (map.get routes p)
get_announced a [] routes p = refl
get_announced a (x ∷ xs) routes p =
    get_announced a xs (map.insert routes x a) p
    ∙ (ap (λ (o : Option Attrs). cond (list_any (same_prefix p) xs) (Some a) o)
    (map.get-insert prefix_total routes x a p ∙ ap (λ (t : Bool). cond t (Some a) (map.get routes p)) (one_test p x))
    ∙ either (same_prefix p x) (list_any (same_prefix p) xs) (Some a) (map.get routes p))

get_removed : (xs : List PrefixValue) (routes : Routes) (p : PrefixValue)
    → map.get (fold map.remove routes xs) p ≡ cond (list_any (same_prefix p) xs) None (map.get routes p)
get_removed [] routes p = refl
get_removed (x ∷ xs) routes p =
    get_removed xs (map.remove routes x) p
    ∙ (ap (λ (o : Option Attrs). cond (list_any (same_prefix p) xs) None o)
    (map.get-remove prefix_total routes x p ∙ ap (λ (t : Bool). cond t None (map.get routes p)) (one_test p x))
    ∙ either (same_prefix p x) (list_any (same_prefix p) xs) None (map.get routes p))

-- those of the UPDATE have its attributes, or none, and all others what they had
pub value_then : (attrs : Option Attrs) (prefixes : List PrefixValue) (routes : Routes) (p : PrefixValue)
    → map.get (apply routes (update_for attrs prefixes)) p ≡ cond (list_any (same_prefix p) prefixes) attrs (map.get routes p)
value_then None prefixes routes p = get_removed prefixes routes p
value_then (Some a) prefixes routes p = get_announced a prefixes routes p

pub value_of_listed : (attrs : Option Attrs) (prefixes : List PrefixValue) (routes : Routes) (p : PrefixValue)
    → list_any (same_prefix p) prefixes ≡ true → map.get (apply routes (update_for attrs prefixes)) p ≡ attrs
value_of_listed attrs prefixes routes p e = value_then attrs prefixes routes p ∙ ap (λ (t : Bool). cond t attrs (map.get routes p)) e

pub value_of_other : (attrs : Option Attrs) (prefixes : List PrefixValue) (routes : Routes) (p : PrefixValue)
    → list_any (same_prefix p) prefixes ≡ false → map.get (apply routes (update_for attrs prefixes)) p ≡ map.get routes p
value_of_other attrs prefixes routes p e = value_then attrs prefixes routes p ∙ ap (λ (t : Bool). cond t attrs (map.get routes p)) e
