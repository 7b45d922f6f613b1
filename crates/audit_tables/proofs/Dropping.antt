-- Prefixes leave a set, one after another.
use Rattle.std.proofs.Common.{◌≡◌, ◌≢◌, ℕ, Bool, true, false, cond, not, ◌&&◌, ◌||◌, List, [], ◌∷◌, ◌++◌, length, is_some, None}
use Rattle.std.proofs.Common.{refl, sym, ap, ◌∙◌}
use Rattle.std.specs.FinMap as map
use Rattle.std.specs.List.{list_any}
use Rattle.std.specs.Ordering.{eq_by_cmp}
use Rattle.std.proofs.lemmas.List.Folds.{list_any-append}
use Rattle.bgp_types.specs.Prefixes.{PrefixValue, same_prefix}
use Rattle.bgp_types.specs.Tables.{prefix_cmp}
use Rattle.bgp_types.proofs.TableLaws.{prefix_total}
use Rattle.session_value.specs.Sets.{Prefixes, has}
use Rattle.rib_stages.specs.Values.{table_at}
use Rattle.update_plan.proofs.Keys.{keys_any, same_is}
use Rattle.update_plan.proofs.Listed.{is_same}
use Rattle.graft_model.specs.Points.{at}
use Rattle.router_tables.proofs.Points.{at_else, at_is, at_own}
use Rattle.audit_tables.specs.Dues.{DropsAt}

-- one more in a list
pub any_one_more : (xs : List PrefixValue) (y x : PrefixValue) → list_any (same_prefix x) (xs ++ y ∷ []) ≡ (list_any (same_prefix x) xs || same_prefix x y)
any_one_more xs y x = list_any-append (same_prefix x) xs (y ∷ []) ∙ ap (λ (b : Bool). list_any (same_prefix x) xs || b) (alone (same_prefix x y))
  where
    alone : (b : Bool) → (b || false) ≡ b
    alone true = refl
    alone false = refl

module _ (p : ℕ) (before : List Prefixes) where
  pub dropped_none : (test : PrefixValue → Bool) → ((x : PrefixValue) → test x ≡ false) → DropsAt p test before before
  dropped_none test none = record {
    size = refl;
    effect = at_is (table_at before) (table_at before) p (table_at before p) refl (λ q not. refl);
    drops = record { members = λ x. all (has (table_at before p) x) ∙ ap (λ (b : Bool). has (table_at before p) x && not b) (sym (none x)) };
  }
    where
      all : (a : Bool) → a ≡ (a && not false)
      all true = refl
      all false = refl

  module _ (test : PrefixValue → Bool) (now : List Prefixes) (so_far : DropsAt p test before now) where
    -- the same test, as it is said otherwise
    pub dropped_as : (other : PrefixValue → Bool) → ((x : PrefixValue) → has (table_at before p) x ≡ true → other x ≡ test x) → DropsAt p other before now
    dropped_as other says = record {
      size = so_far.size;
      effect = so_far.effect;
      drops = record { members = λ x. so_far.drops.members x ∙ by_member x (has (table_at before p) x) refl };
    }
      where
        by_member : (x : PrefixValue) (b : Bool) → has (table_at before p) x ≡ b → (b && not (test x)) ≡ (b && not (other x))
        by_member x true e = ap not (sym (says x e))
        by_member x false e = refl

    -- one prefix more
    module _ (y : PrefixValue) (next : List Prefixes) (size : length next ≡ length now)
        (removed : table_at next ≡ at (table_at now) p (map.remove (table_at now p) y)) where
      here : table_at next p ≡ map.remove (table_at now p) y
      here = ap (λ (d : ℕ → Prefixes). d p) removed ∙ at_own (table_at now) p (map.remove (table_at now p) y)

      gone : (x : PrefixValue) → has (table_at next p) x ≡ (has (table_at now p) x && not (same_prefix x y))
      gone x = ap (λ (s : Prefixes). has s x) here
          ∙ (ap is_some (map.get-remove prefix_total (table_at now p) y x) ∙ by_test (eq_by_cmp prefix_cmp x y) (same_prefix x y) (same_is x y))
        where
          no : (a : Bool) → false ≡ (a && false)
          no true = refl
          no false = refl

          yes : (a : Bool) → a ≡ (a && true)
          yes true = refl
          yes false = refl

          by_test : (a b : Bool) → a ≡ b → is_some (cond a None (map.get (table_at now p) x)) ≡ (has (table_at now p) x && not b)
          by_test true b e = no (has (table_at now p) x) ∙ ap (λ (c : Bool). has (table_at now p) x && not c) e
          by_test false b e = yes (has (table_at now p) x) ∙ ap (λ (c : Bool). has (table_at now p) x && not c) e

      either : (a b c : Bool) → ((a && not b) && not c) ≡ (a && not (b || c))
      either true true c = refl
      either true false c = refl
      either false b c = refl

      pub dropped_more : (more : PrefixValue → Bool) → ((x : PrefixValue) → more x ≡ (test x || same_prefix x y)) → DropsAt p more before next
      dropped_more more says = record {
        size = size ∙ so_far.size;
        effect = at_is (table_at before) (table_at next) p (table_at next p) refl
            (λ q other. ap (λ (d : ℕ → Prefixes). d q) removed ∙ (at_else (table_at now) p (map.remove (table_at now p) y) q other
            ∙ (ap (λ (d : ℕ → Prefixes). d q) so_far.effect ∙ at_else (table_at before) p (table_at now p) q other)));
        drops = record {
          members = λ x. gone x ∙ (ap (λ (b : Bool). b && not (same_prefix x y)) (so_far.drops.members x)
              ∙ (either (has (table_at before p) x) (test x) (same_prefix x y) ∙ ap (λ (b : Bool). has (table_at before p) x && not b) (sym (says x))));
        };
      }

-- ---- those that aren't dirty

-- one of the listed prefixes, which isn't dirty
abbrev pub clean_in : Prefixes → List PrefixValue → PrefixValue → Bool
clean_in dirty xs x = list_any (same_prefix x) xs && not (has dirty x)

module _ (dirty : Prefixes) (xs : List PrefixValue) (y : PrefixValue) where
  by_same : (x : PrefixValue) (d : Bool) → has dirty y ≡ d → same_prefix x y ≡ true → has dirty x ≡ d
  by_same x d is same = ap (has dirty) (is_same x y same) ∙ is

  pub one_clean : has dirty y ≡ false → (x : PrefixValue) → clean_in dirty (xs ++ y ∷ []) x ≡ (clean_in dirty xs x || same_prefix x y)
  one_clean clean x = ap (λ (b : Bool). b && not (has dirty x)) (any_one_more xs y x)
      ∙ by_test (list_any (same_prefix x) xs) (has dirty x) (same_prefix x y) (by_same x false clean)
    where
      by_test : (a d s : Bool) → (s ≡ true → d ≡ false) → ((a || s) && not d) ≡ ((a && not d) || s)
      by_test true true true if_same = sym (if_same refl)
      by_test false true true if_same = sym (if_same refl)
      by_test true false true if_same = refl
      by_test false false true if_same = refl
      by_test true true false if_same = refl
      by_test true false false if_same = refl
      by_test false d false if_same = refl

  pub one_dirty : has dirty y ≡ true → (x : PrefixValue) → clean_in dirty (xs ++ y ∷ []) x ≡ clean_in dirty xs x
  one_dirty is_dirty x = ap (λ (b : Bool). b && not (has dirty x)) (any_one_more xs y x)
      ∙ by_test (list_any (same_prefix x) xs) (has dirty x) (same_prefix x y) (by_same x true is_dirty)
    where
      by_test : (a d s : Bool) → (s ≡ true → d ≡ true) → ((a || s) && not d) ≡ (a && not d)
      by_test true d s if_same = refl
      by_test false true true if_same = refl
      by_test false false true if_same = sym (if_same refl)
      by_test false d false if_same = refl

-- all that a set has
pub clean_of_all : (dirty set : Prefixes) (xs : List PrefixValue) → xs ≡ map.keys set → (x : PrefixValue) → has set x ≡ true
    → not (has dirty x) ≡ clean_in dirty xs x
clean_of_all dirty set xs all x there =
    ap (λ (b : Bool). b && not (has dirty x)) (sym (ap (λ (ks : List PrefixValue). list_any (same_prefix x) ks) all ∙ (keys_any set x ∙ there)))
