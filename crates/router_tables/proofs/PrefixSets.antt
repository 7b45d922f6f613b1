-- Sets of prefixes that are listed.
use Rattle.std.proofs.Common.{◌≡◌, List, [], ◌∷◌, ◌++◌, Bool, true, false, cond, ◌||◌, is_some, refl, sym, ap, ◌∙◌, inl, inr}
use Rattle.std.specs.FinMap as map
use Rattle.std.specs.List.{list_any}
use Rattle.std.specs.Ordering.{eq_by_cmp}
use Rattle.bgp_types.specs.Prefixes.{PrefixValue, same_prefix}
use Rattle.bgp_types.specs.Tables.{prefix_cmp}
use Rattle.bgp_story.specs.Readings.{Routes}
use Rattle.session_value.specs.Sets.{BestRoutes, Prefixes, has}
use Rattle.rib_stages.proofs.Marks.{itself, has_inserted}
use Rattle.update_plan.proofs.Keys.{same_is, keys_any}
use Rattle.router_tables.specs.Dues.{AddsAll, IsDueAgain, IsDueBest}
use Rattle.router_tables.proofs.DueSteps.{none_in}
use Rattle.router_tables.proofs.EnterSteps.{same_or_not, any_last, any_other}

pub adds_none : (a : Prefixes) → AddsAll a [] a
adds_none a = record { members = λ x. or_false (has a x) } where
  or_false : (b : Bool) → b ≡ (b || false)
  or_false true = refl
  or_false false = refl

pub adds_more : (a b c : Prefixes) (xs : List PrefixValue) (x : PrefixValue) → AddsAll a xs b → c ≡ map.insert b x tt → AddsAll a (xs ++ x ∷ []) c
adds_more a b c xs x so_far set = record { members = λ y. ap (λ (s : Prefixes). has s y) set ∙ has_inserted b x y ∙ by_test y }
  where
    or_true : (d : Bool) → true ≡ (d || true)
    or_true true = refl
    or_true false = refl

    by_test : (y : PrefixValue) → cond (eq_by_cmp prefix_cmp y x) true (has b y) ≡ (has a y || list_any (same_prefix y) (xs ++ x ∷ []))
    by_test y = elim (same_or_not x y) [
      | inl e ↦
          ap (λ (t : Bool). cond t true (has b y)) (ap (λ (z : PrefixValue). eq_by_cmp prefix_cmp z x) e ∙ itself x)
          ∙ or_true (has a y) ∙ ap (λ (t : Bool). has a y || t) (sym (ap (λ (z : PrefixValue). list_any (same_prefix z) (xs ++ x ∷ [])) e ∙ any_last xs x))
      | inr not ↦
          ap (λ (t : Bool). cond t true (has b y)) (same_is y x ∙ not)
          ∙ so_far.members y ∙ ap (λ (t : Bool). has a y || t) (sym (any_other xs x y not))
    ]

-- ---- what is due

pub due_best : (best : BestRoutes) (set : Prefixes) → AddsAll map.empty (map.keys best) set → IsDueBest best set
due_best best set adds =
    record { members = λ x. adds.members x ∙ ap (λ (b : Bool). b || list_any (same_prefix x) (map.keys best)) (none_in x) ∙ keys_any best x }

pub due_again_is : (adj_rib_out : Routes) (best : BestRoutes) (a set : Prefixes) → IsDueBest best a → AddsAll a (map.keys adj_rib_out) set
    → IsDueAgain adj_rib_out best set
due_again_is adj_rib_out best a set due adds = record {
  members = λ x. adds.members x ∙ (λ i. due.members x i || keys_any adj_rib_out x i) ∙ either (is_some (map.get best x)) (is_some (map.get adj_rib_out x));
}
  where
    either : (b c : Bool) → (b || c) ≡ (c || b)
    either true true = refl
    either true false = refl
    either false true = refl
    either false false = refl
