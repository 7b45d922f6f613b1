-- Whether an UPDATE may be put.
use Rattle.std.proofs.Common.{◌≡◌, ◌≢◌, Bool, true, false, List, [], ◌∷◌, Option, Some, None, refl, sym, ap, ◌∙◌, subst}
use Rattle.std.proofs.Common.{append-nil, ◌||◌, inl, inr}
use Rattle.std.specs.Prelude.{All, MatchBool, IsTrue, ◌↔◌, not}
use Rattle.std.proofs.lemmas.Option.{same_Some}
use Rattle.std.specs.FinMap as map
use Rattle.std.specs.List.{AllByRecursion, list_any}
use Rattle.std.proofs.lemmas.List.Elements.{All-from_recursion, recursion_from_All}
use Rattle.bgp_types.specs.declared.attrs.Attrs.{Attrs}
use Rattle.bgp_types.specs.declared.message.Update.{Update}
use Rattle.bgp_types.specs.Prefixes.{PrefixValue, same_prefix}
use Rattle.bgp_types.specs.Writable.{HasAttrsFor}
use Rattle.bgp_types.specs.contracts.attrs.AttrsPartialEq.TheImpl as attrs_eq
use Rattle.bgp_types.proofs.Equality.{attrs_equal}
use Rattle.bgp_types.proofs.OnceLaws.{same_itself}
use Rattle.bgp_story.specs.Readings.{Routes, apply}
use Rattle.session_value.specs.Cases.{Changes, update_for}
use Rattle.update_plan.proofs.Told.{value_of_listed}
use Rattle.capsule_parts.specs.Offered.{IsEitherWay}

-- ---- a route has other attributes, or there is none

pub differs : (entry : Option Attrs) (a b : Attrs) (t : Bool) → entry ≡ Some a → t ≡ not (attrs_eq.eq-value.it a b)
    → MatchBool t (entry ≢ Some b) (entry ≡ Some b)
differs entry a b t is says = by_test (attrs_eq.eq-value.it a b) refl says where
  by_test : (e : Bool) → attrs_eq.eq-value.it a b ≡ e → t ≡ not e → MatchBool t (entry ≢ Some b) (entry ≡ Some b)
  by_test true e s =
      subst (λ (x : Bool). MatchBool x (entry ≢ Some b) (entry ≡ Some b)) (sym s) (is ∙ ap (λ (x : Attrs). Some x) ((attrs_equal a b).0 e))
  by_test false e s = subst (λ (x : Bool). MatchBool x (entry ≢ Some b) (entry ≡ Some b)) (sym s) (λ same.
      let one : a ≡ b = same_Some a b (sym is ∙ same) in
      let equal : ◌≡◌ {A = Bool} false true = sym e ∙ (attrs_equal a b).1 one in
      cc)

-- ---- each prefix of a list is in it

or_first : (a b : Bool) → a ≡ true → (a || b) ≡ true
or_first true b e = refl
or_first false b e = absurd cc

or_second : (a b : Bool) → b ≡ true → (a || b) ≡ true
or_second true b e = refl
or_second false b e = e

all_in : (xs ys : List PrefixValue) → ((p : PrefixValue) → list_any (same_prefix p) xs ≡ true → list_any (same_prefix p) ys ≡ true)
    → AllByRecursion (λ p. list_any (same_prefix p) ys ≡ true) xs
all_in [] ys sub = tt
all_in (x ∷ xs) ys sub = (
  sub x (or_first (same_prefix x x) (list_any (same_prefix x) xs) (same_itself x)),
  all_in xs ys (λ p e. sub p (or_second (same_prefix p x) (list_any (same_prefix p) xs) e)),
)

all_by : (P Q R : PrefixValue → Type 0) → ((p : PrefixValue) → P p → Q p → R p) → (xs : List PrefixValue) → AllByRecursion P xs
    → AllByRecursion Q xs → AllByRecursion R xs
all_by P Q R f [] a b = tt
all_by P Q R f (x ∷ xs) a b = (f x a.0 b.0, all_by P Q R f xs a.1 b.1)

-- ---- an UPDATE that gives these prefixes attributes, or withdraws them

module _ (table : Routes) (attrs : Option Attrs) (prefixes : List PrefixValue) where
  abbrev Is : PrefixValue → Type 0
  Is p = map.get table p ≢ attrs

  abbrev Moves : PrefixValue → Type 0
  Moves p = map.get (apply table (update_for attrs prefixes)) p ≢ map.get table p

  listed : AllByRecursion (λ p. list_any (same_prefix p) prefixes ≡ true) prefixes
  listed = all_in prefixes prefixes (λ p e. e)

  moves : All Is prefixes → All Moves prefixes
  moves other = All-from_recursion Moves prefixes (all_by (λ p. list_any (same_prefix p) prefixes ≡ true) Is Moves
      (λ p e is same. is (sym same ∙ value_of_listed attrs prefixes table p e)) prefixes listed (recursion_from_All Is prefixes other))

  others : All Moves prefixes → All Is prefixes
  others moved = All-from_recursion Is prefixes (all_by (λ p. list_any (same_prefix p) prefixes ≡ true) Moves Is
      (λ p e new is. new (value_of_listed attrs prefixes table p e ∙ sym is)) prefixes listed (recursion_from_All Moves prefixes moved))

decided : {A B : Type 0} (t : Bool) → IsTrue t ↔ A → (A → B) → (B → A) → MatchBool t B (¬ B)
decided true iff to from = to (iff.0 refl)
decided false iff to from = λ b. let no : ◌≡◌ {A = Bool} false true = iff.1 (from b) in cc

module _ (table : Routes) (u : Update) (way : IsEitherWay u) (has : HasAttrsFor u.attrs u.nlri) where
  announces : (a : Attrs) → u.attrs ≡ Some a → u ≡ update_for (Some a) u.nlri
  announces a e = by_way way where
    some : u.nlri ≢ []
    some = (subst (λ (o : Option Attrs). HasAttrsFor o u.nlri) e has).0

    by_way : IsEitherWay u → u ≡ update_for (Some a) u.nlri
    by_way (inl w) = absurd (some w.1)
    by_way (inr w) = λ i. record { withdrawn = w.0 i; attrs = e i; nlri = u.nlri }

  withdraws : u.attrs ≡ None → u ≡ update_for None u.withdrawn
  withdraws e =
      let none : u.nlri ≡ [] = subst (λ (o : Option Attrs). HasAttrsFor o u.nlri) e has in
      λ i. record { withdrawn = u.withdrawn; attrs = e i; nlri = none i }

  pub announced_match : (a : Attrs) (t : Bool) → u.attrs ≡ Some a → IsTrue t ↔ All (λ p. map.get table p ≢ Some a) u.nlri
      → MatchBool t (Changes table u) (¬ Changes table u)
  announced_match a t e iff = subst (λ (x : Update). MatchBool t (Changes table x) (¬ Changes table x)) (sym (announces a e))
      (decided t iff (moves table (Some a) u.nlri) (others table (Some a) u.nlri))

  pub withdrawn_match : (t : Bool) → u.attrs ≡ None → IsTrue t ↔ All (λ p. map.get table p ≢ None) u.withdrawn
      → MatchBool t (Changes table u) (¬ Changes table u)
  withdrawn_match t e iff = subst (λ (x : Update). MatchBool t (Changes table x) (¬ Changes table x)) (sym (withdraws e))
      (decided t iff
      (λ other. subst (All (Moves table None u.withdrawn)) (sym (append-nil u.withdrawn)) (moves table None u.withdrawn other))
      (λ moved. others table None u.withdrawn (subst (All (Moves table None u.withdrawn)) (append-nil u.withdrawn) moved)))
