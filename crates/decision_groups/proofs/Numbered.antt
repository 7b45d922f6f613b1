-- What a change of one neighbour AS' group leaves of the groups.
use Rattle.std.proofs.Common.{◌≡◌, ℕ, ◌==◌, Bool, true, false, cond, List, [], ◌∷◌, get_or, set, Option, Some, None, refl, sym, ap, ◌∙◌, subst, arith}
use Rattle.std.specs.Prelude.{unwrap_or}
use Rattle.std.specs.List as list
use Rattle.std.specs.Map.{keys_of}
use Rattle.std.specs.BTreeMap.{is_at}
use Rattle.std.specs.Cmp.{Equal-is}
use Rattle.std.specs.Ordering.{nat_cmp, is_eq}
use Rattle.std.proofs.lemmas.Bool.Decides.{nat_tests}
use Rattle.std.proofs.lemmas.Cmp.{nat_cmp_total, eq_by_cmp_equiv}
use Rattle.std.proofs.lemmas.Map.{lookup-remove_entry}
use Rattle.std.proofs.lemmas.Map.Keys.{IsDistinct-from_sorted}
use Rattle.decision_groups.specs.Order.{RankedSource}
use Rattle.decision_groups.specs.Groups.{some_members, NumberedGroup, AreNumbered, group_at, members_of}
use Rattle.decision_groups.specs.Indices.{IsIndexOfKey, IsGapForKey}
use Rattle.decision_groups.proofs.Entries.{sorted-insert, sorted-remove, lookup-insert_entry}
use Rattle.decision_groups.proofs.Indices.{lookup_index, insert_over, remove_index, remove_over, lookup_gap, insert_gap}

at_number : (n m : ℕ) → is_at (nat_cmp n) m ≡ (n == m)
at_number n m = grind (arith, nat_tests)

number_at : (n m : ℕ) → is_at (nat_cmp m) n ≡ (n == m)
number_at n m = grind (arith, nat_tests)

same_number : (n m : ℕ) → (n == m) ≡ true → n ≡ m
same_number n m h = grind (arith, nat_tests)

some_unless : (members : List RankedSource) → (members ≡ [] → ⊥) → some_members members ≡ Some members
some_unless [] some = absurd (some refl)
some_unless (c ∷ cs) some = refl

-- ---- the group of a neighbour AS that has one

module _ (es : List NumberedGroup) (neighbour at : ℕ) (e : NumberedGroup) (is : e ≡ get_or es at e) (here : IsIndexOfKey nat_cmp neighbour es at) where
  group_there : group_at es neighbour ≡ Some e.1
  group_there = lookup_index nat_cmp neighbour es at e here ∙ ap (λ (f : NumberedGroup). Some f.1) (sym is)

  members_there : (n : ℕ) → (n == neighbour) ≡ true → members_of es n ≡ e.1
  members_there n same = ap (members_of es) (same_number n neighbour same) ∙ ap (λ (o : Option (List RankedSource)). unwrap_or o []) group_there

  pub changed_numbers : AreNumbered es → (members : List RankedSource) → AreNumbered (set es at (e.0, members))
  changed_numbers numbered members =
      subst AreNumbered (insert_over nat_cmp neighbour es at e members is here) (sorted-insert nat_cmp_total neighbour members es numbered)

  changed_group : (n : ℕ) (members : List RankedSource) → group_at (set es at (e.0, members)) n ≡ cond (n == neighbour) (Some members) (group_at es n)
  changed_group n members =
      ap (λ (gs : List NumberedGroup). group_at gs n) (sym (insert_over nat_cmp neighbour es at e members is here))
      ∙ (lookup-insert_entry nat_cmp_total n neighbour members es
      ∙ ap (λ b. cond b (Some members) (group_at es n)) (at_number n neighbour))

  pub gone_numbers : AreNumbered es → (members : List RankedSource) → AreNumbered (list.remove (set es at (e.0, members)) at)
  gone_numbers numbered members =
      subst AreNumbered (remove_index nat_cmp neighbour es at here ∙ sym (remove_over nat_cmp neighbour es at (e.0, members) here))
      (sorted-remove nat_cmp (is_at (nat_cmp neighbour)) es numbered)

  gone_group : AreNumbered es → (n : ℕ) (members : List RankedSource)
      → group_at (list.remove (set es at (e.0, members)) at) n ≡ cond (n == neighbour) None (group_at es n)
  gone_group numbered n members =
      ap (λ (gs : List NumberedGroup). group_at gs n)
      (remove_over nat_cmp neighbour es at (e.0, members) here ∙ sym (remove_index nat_cmp neighbour es at here))
      ∙ (lookup-remove_entry (eq_by_cmp_equiv nat_cmp_total) (is_at (nat_cmp neighbour)) (λ x y passes. ap is_eq
      (nat_cmp_total.congr neighbour x y ((Equal-is (nat_cmp neighbour x)).0 passes))) n es (IsDistinct-from_sorted nat_cmp (keys_of es) numbered)
      ∙ ap (λ b. cond b None (group_at es n)) (number_at n neighbour))

  by_number : (b : Bool) (n : ℕ) (f : List RankedSource → Option (List RankedSource)) → (n == neighbour) ≡ b
      → cond b (f e.1) (group_at es n) ≡ cond b (f (members_of es n)) (group_at es n)
  by_number true n f same = ap f (sym (members_there n same))
  by_number false n f other = refl

  -- what its members become is what the groups have there
  pub group-changed : (n : ℕ) (f : List RankedSource → List RankedSource) (members : List RankedSource) → members ≡ f e.1
      → group_at (set es at (e.0, members)) n ≡ cond (n == neighbour) (Some (f (members_of es n))) (group_at es n)
  group-changed n f members become =
      changed_group n members
      ∙ (ap (λ ms. cond (n == neighbour) (Some ms) (group_at es n)) become
      ∙ by_number (n == neighbour) n (λ ms. Some (f ms)) refl)

  pub group-stays : (n : ℕ) (f : List RankedSource → List RankedSource) (members : List RankedSource) → members ≡ f e.1 → (members ≡ [] → ⊥)
      → group_at (set es at (e.0, members)) n ≡ cond (n == neighbour) (some_members (f (members_of es n))) (group_at es n)
  group-stays n f members become some =
      changed_group n members
      ∙ (ap (λ g. cond (n == neighbour) g (group_at es n)) (sym (some_unless members some) ∙ ap some_members become)
      ∙ by_number (n == neighbour) n (λ ms. some_members (f ms)) refl)

  pub group-gone : AreNumbered es → (n : ℕ) (f : List RankedSource → List RankedSource) (members : List RankedSource) → members ≡ f e.1
      → members ≡ []
      → group_at (list.remove (set es at (e.0, members)) at) n ≡ cond (n == neighbour) (some_members (f (members_of es n))) (group_at es n)
  group-gone numbered n f members become none =
      gone_group numbered n members
      ∙ (ap (λ g. cond (n == neighbour) g (group_at es n)) (ap some_members (sym none ∙ become))
      ∙ by_number (n == neighbour) n (λ ms. some_members (f ms)) refl)

-- ---- the group of one that has none yet

module _ (es : List NumberedGroup) (neighbour at : ℕ) (gap : IsGapForKey nat_cmp neighbour es at) where
  pub made_numbers : AreNumbered es → (members : List RankedSource) → AreNumbered (list.insert es at (neighbour, members))
  made_numbers numbered members = subst AreNumbered (insert_gap nat_cmp neighbour es at members gap) (sorted-insert nat_cmp_total neighbour members es numbered)

  no_members : (n : ℕ) → (n == neighbour) ≡ true → [] ≡ members_of es n
  no_members n same = sym (ap (members_of es) (same_number n neighbour same)
      ∙ ap (λ (o : Option (List RankedSource)). unwrap_or o []) (lookup_gap nat_cmp neighbour es at gap))

  no_group : (n : ℕ) → (n == neighbour) ≡ true → group_at es n ≡ None
  no_group n same = ap (group_at es) (same_number n neighbour same) ∙ lookup_gap nat_cmp neighbour es at gap

  made_by_number : (b : Bool) (n : ℕ) (f : List RankedSource → List RankedSource) → (n == neighbour) ≡ b
      → cond b (Some (f [])) (group_at es n) ≡ cond b (Some (f (members_of es n))) (group_at es n)
  made_by_number true n f same = ap (λ ms. Some (f ms)) (no_members n same)
  made_by_number false n f other = refl

  pub group-made : (n : ℕ) (f : List RankedSource → List RankedSource)
      → group_at (list.insert es at (neighbour, f [])) n ≡ cond (n == neighbour) (Some (f (members_of es n))) (group_at es n)
  group-made n f =
      ap (λ (gs : List NumberedGroup). group_at gs n) (sym (insert_gap nat_cmp neighbour es at (f []) gap))
      ∙ (lookup-insert_entry nat_cmp_total n neighbour (f []) es
      ∙ (ap (λ b. cond b (Some (f [])) (group_at es n)) (at_number n neighbour)
      ∙ made_by_number (n == neighbour) n f refl))

  none_by_number : (b : Bool) (n : ℕ) (f : List RankedSource → List RankedSource) → f [] ≡ [] → (n == neighbour) ≡ b
      → group_at es n ≡ cond b (some_members (f (members_of es n))) (group_at es n)
  none_by_number true n f none same = no_group n same ∙ (ap some_members (sym none) ∙ ap (λ ms. some_members (f ms)) (no_members n same))
  none_by_number false n f none other = refl

  pub group-none : (n : ℕ) (f : List RankedSource → List RankedSource) → f [] ≡ []
      → group_at es n ≡ cond (n == neighbour) (some_members (f (members_of es n))) (group_at es n)
  group-none n f none = none_by_number (n == neighbour) n f none refl
