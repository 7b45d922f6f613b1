-- What the tests of a rule mean, and the first rule that matches.
use Rattle.std.proofs.Common.{◌≡◌, ℕ, zero, suc, ◌+◌, ◌<◌, Bool, true, false, List, [], ◌∷◌, get_or, length, Option, Some, None, refl, sym, ◌∙◌, subst, arith}
use Rattle.std.specs.Prelude.{◌==◌, IsTrue, Contains, position, cond, unwrap_or}
use Rattle.std.specs.Bool.{Decides}
use Rattle.std.specs.Option.{is_none}
use Rattle.std.proofs.lemmas.Bool.{eqb-true}
use Rattle.std.proofs.lemmas.Iterator.Adapters.{position_from-zero}
use Rattle.std.specs.List.{list_any, position_from}
use Rattle.std.proofs.lemmas.Bool.Decides.{same_from_decides, Decides-eqb}
use Rattle.std.proofs.lemmas.List.Folds.{Any-from_list_any, list_any_at}
use Rattle.std.proofs.lemmas.List.Quantifiers.{position-Some}
use Rattle.bgp_types.specs.Prefixes.{PrefixValue}
use Rattle.bgp_types.specs.Paths.{ases_of, HoldsAs}
use Rattle.bgp_types.specs.declared.attrs.Route.{Route}
use Rattle.bgp_types.specs.declared.path.PathPart.{PathPart}
use Rattle.route_policy.specs.Rules.{holds_as, holds_some_as, matches}
use Rattle.route_policy.specs.Policies.{policy, decision, changed}
use Rattle.route_policy.specs.declared.rule.Rule.{Rule}

Contains-from_test : (ases : List ℕ) (as_number : ℕ) → list_any (λ other. other == as_number) ases ≡ true → Contains ases as_number
Contains-from_test ases as_number h =
    let found = Any-from_list_any (λ other. other == as_number) ases h in
    let same : found.1 ≡ as_number = (Decides-eqb found.1 as_number).0 found.4 in
    (found.0, found.2, subst (λ x. get_or ases found.0 x ≡ x) same found.3)

test_from_Contains : (ases : List ℕ) (as_number : ℕ) → Contains ases as_number → list_any (λ other. other == as_number) ases ≡ true
test_from_Contains ases as_number (k, within, is) =
    list_any_at (λ other. other == as_number) ases k as_number within ((Decides-eqb (get_or ases k as_number) as_number).1 is)

holds_as_decides : (path : List PathPart) (as_number : ℕ) → Decides (holds_as path as_number) (HoldsAs path as_number)
holds_as_decides path as_number = (
  (λ h.
      let found = Any-from_list_any (λ part. list_any (λ other. other == as_number) (ases_of part)) path h in
      (found.0, found.1, found.2, found.3, Contains-from_test (ases_of found.1) as_number found.4)),
  (λ (k, part, within, is, there).
      list_any_at (λ part. list_any (λ other. other == as_number) (ases_of part)) path k part within
      (rw is (test_from_Contains (ases_of part) as_number there))),
)

pub holds_as-is : (path : List PathPart) (as_number : ℕ) (answer : Bool)
    → (IsTrue answer → HoldsAs path as_number) × (HoldsAs path as_number → IsTrue answer) → answer ≡ holds_as path as_number
holds_as-is path as_number answer h = same_from_decides answer (holds_as path as_number) h (holds_as_decides path as_number)

pub holds_some_as-is : (path : List PathPart) (as_number : ℕ) (wanted : Option ℕ) (answer : Bool) → wanted ≡ Some as_number
    → (IsTrue answer → HoldsAs path as_number) × (HoldsAs path as_number → IsTrue answer) → answer ≡ holds_some_as wanted path
holds_some_as-is path as_number wanted answer is h = rw is (holds_as-is path as_number answer h)

-- ---- a rule that changes no attribute

pub none_is : {A : Type 0} (o : Option A) → is_none o ≡ true → o ≡ None
none_is None e = refl
none_is (Some x) e = absurd cc

pub unchanged : (rule : Rule) (as_number : ℕ) (route : Route) → (rule.prepend == 0) ≡ true → is_none rule.med ≡ true
    → record { attrs = route.attrs; pref = unwrap_or rule.pref route.pref } ≡ changed rule as_number route
unchanged rule as_number route times med = rw (eqb-true rule.prepend 0 times, none_is rule.med med) refl

-- ---- the first rule that matches

tried : {X : Type 0} (b : Bool) (x y z : X) → b ≡ false → y ≡ z → cond b x y ≡ z
tried b x y z h is = rw h is

policy-first : (rules : List Rule) (prefix : PrefixValue) (as_number : ℕ) (route : Route) (index : ℕ) (d : Rule) → index < length rules
    → matches (get_or rules index d) prefix route ≡ true → ((k : ℕ) → k < index → matches (get_or rules k d) prefix route ≡ false)
    → policy rules prefix as_number route ≡ decision (get_or rules index d) as_number route
policy-first [] prefix as_number route index d within here before = absurd (omega arith)
policy-first (rule ∷ rules) prefix as_number route zero d within here before = rw here refl
policy-first (rule ∷ rules) prefix as_number route (suc index) d within here before =
    tried (matches rule prefix route) (decision rule as_number route) (policy rules prefix as_number route)
    (decision (get_or rules index d) as_number route) (before 0 (omega arith))
    (policy-first rules prefix as_number route index d (omega (arith, within)) here (λ k below. before (suc k) (omega (arith, below))))

pub policy-matching : (rules : List Rule) (prefix : PrefixValue) (as_number : ℕ) (route : Route) (index : ℕ) (d : Rule)
    → position (λ rule. matches rule prefix route) rules ≡ Some index
    → policy rules prefix as_number route ≡ decision (get_or rules index d) as_number route
policy-matching rules prefix as_number route index d is =
    let found = position-Some (λ rule. matches rule prefix route) rules index d is in
    policy-first rules prefix as_number route index d found.0 found.1 found.2

none_found : {X : Type 0} (b : Bool) (x : X) (o : Option X) → cond b (Some x) o ≡ None → (b ≡ false) × (o ≡ None)
none_found true x o h = cc
none_found false x o h = (refl, h)

policy-unmatched : (rules : List Rule) (prefix : PrefixValue) (as_number : ℕ) (route : Route) (n : ℕ)
    → position_from (λ rule. matches rule prefix route) n rules ≡ None → policy rules prefix as_number route ≡ Some route
policy-unmatched [] prefix as_number route n h = refl
policy-unmatched (rule ∷ rules) prefix as_number route n h =
    let parts = none_found (matches rule prefix route) n (position_from (λ rule. matches rule prefix route) (n + 1) rules) h in
    tried (matches rule prefix route) (decision rule as_number route) (policy rules prefix as_number route)
    (Some route) parts.0 (policy-unmatched rules prefix as_number route (n + 1) parts.1)

pub policy-no_match : (rules : List Rule) (prefix : PrefixValue) (as_number : ℕ) (route : Route)
    → position (λ rule. matches rule prefix route) rules ≡ None → policy rules prefix as_number route ≡ Some route
policy-no_match rules prefix as_number route h =
    policy-unmatched rules prefix as_number route 0 (sym (position_from-zero (λ rule. matches rule prefix route) rules) ∙ h)
