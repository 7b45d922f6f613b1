-- Ranks by prefix, where one of them is set or taken out.
use Rattle.std.proofs.Common.{◌≡◌, Bool, true, false, cond, List, [], ◌∷◌, Option, Some, None, refl, sym, ap, subst, ◌∙◌}
use Rattle.std.specs.Prelude.{◌≢◌, Result, Ok, Err, OnOk, OnErr}
use Rattle.std.specs.BTreeMap.{is_at, insert_entry}
use Rattle.std.specs.Cmp.{IsTotalOrder, eq_by_cmp_equiv}
use Rattle.std.specs.FinMap as map
use Rattle.std.specs.List.Sorted.{IsStrictlySortedBy}
use Rattle.std.specs.Map.{lookup}
use Rattle.std.specs.Option.{unwrap_or}
use Rattle.std.specs.Ordering.{eq_by_cmp, is_eq, match_ordering}
use Rattle.std.specs.declared.cmp.Ordering.{Ordering}
use Rattle.std.specs.declared.cmp.Ordering.TheVariants.{Less, Equal, Greater}
use Rattle.std.proofs.lemmas.Cmp.{tied_itself}
use Rattle.std.proofs.lemmas.Map.{lookup-remove_entry}
use Rattle.std.proofs.lemmas.Map.Keys.{IsDistinct-from_sorted}
use Rattle.std.proofs.lemmas.Map.Lookups.{CmpEqualImpliesEq}
use Rattle.bgp_types.specs.Prefixes.{PrefixValue, same_prefix}
use Rattle.bgp_types.specs.Tables.{prefix_cmp}
use Rattle.bgp_types.specs.declared.rank.From.{From}
use Rattle.bgp_types.specs.declared.rank.Rank.{Rank}
use Rattle.bgp_types.proofs.TableLaws.{prefix_total}
use Rattle.decision_core.specs.Choice.{choice, left_of, keep}
use Rattle.decision_groups.specs.Order.{RankedSource, IsInOrder, from_order, rank_at, with_rank, without_source}
use Rattle.decision_groups.proofs.OrderLaws.{from_order_total, from_order_exact}
use Rattle.rib_stages.specs.Ranks.{RankSets, ranks_at, ranks_with, SetsRank}
use Rattle.rib_stages.proofs.Kept.{is_equal, tests_same}
use Rattle.rib_stages.proofs.Marks.{itself, apart}

-- ---- look-ups in lists of entries

module _ {K X : Type 0} (R : K → K → Ordering) (o : IsTotalOrder R) (exact : CmpEqualImpliesEq R) (q k : K) (v : X) where
  shadowed : (b : Bool) (x y : Option X) → cond b x y ≡ cond b x (cond b x y)
  shadowed true x y = refl
  shadowed false x y = refl

  over : (b : Bool) (x y z : Option X) → cond b x y ≡ cond b x (cond b z y)
  over true x y z = refl
  over false x y z = refl

  swapped : (b c : Bool) (x y z : Option X) → (b ≡ true → c ≡ true → ⊥) → cond b x (cond c y z) ≡ cond c y (cond b x z)
  swapped true true x y z never = absurd (never refl refl)
  swapped true false x y z never = refl
  swapped false true x y z never = refl
  swapped false false x y z never = refl

  step : (e : K × X) (es : List (K × X)) (a : Ordering) → R k e.0 ≡ a
      → lookup (is_at (R q)) (insert_entry R es k v) ≡ cond (is_eq (R q k)) (Some v) (lookup (is_at (R q)) es)
      → lookup (is_at (R q)) (match_ordering a ((k, v) ∷ (e ∷ es)) ((e.0, v) ∷ es) (e ∷ insert_entry R es k v))
      ≡ cond (is_eq (R q k)) (Some v) (cond (is_eq (R q e.0)) (Some e.1) (lookup (is_at (R q)) es))
  step e es Less is rest = refl
  step e es Equal is rest =
      let same : k ≡ e.0 = exact k e.0 is in
      over (is_eq (R q e.0)) (Some v) (lookup (is_at (R q)) es) (Some e.1)
      ∙ ap (λ (x : K). cond (is_eq (R q x)) (Some v) (cond (is_eq (R q e.0)) (Some e.1) (lookup (is_at (R q)) es))) (sym same)
  step e es Greater is rest =
      ap (cond (is_eq (R q e.0)) (Some e.1)) rest
      ∙ swapped (is_eq (R q e.0)) (is_eq (R q k)) (Some e.1) (Some v) (lookup (is_at (R q)) es) never where
        never : is_eq (R q e.0) ≡ true → is_eq (R q k) ≡ true → ⊥
        never f g =
            let at_e : q ≡ e.0 = exact q e.0 (is_equal (R q e.0) f) in
            let at_k : q ≡ k = exact q k (is_equal (R q k) g) in
            let tied : R k e.0 ≡ Equal = ap (λ (x : K). R x e.0) (sym at_k) ∙ (ap (λ (x : K). R x e.0) at_e ∙ tied_itself o e.0) in
            cc

  pub lookup-inserted : (es : List (K × X)) → lookup (is_at (R q)) (insert_entry R es k v) ≡ cond (is_eq (R q k)) (Some v) (lookup (is_at (R q)) es)
  lookup-inserted [] = refl
  lookup-inserted (e ∷ es) = step e es (R k e.0) refl (lookup-inserted es)

-- ---- one rank

other_test : (other from : From) → other ≢ from → is_eq (from_order other from) ≡ false
other_test other from differs = by_test (is_eq (from_order other from)) refl where
  by_test : (b : Bool) → is_eq (from_order other from) ≡ b → b ≡ false
  by_test true e = absurd (differs (from_order_exact other from (is_equal (from_order other from) e)))
  by_test false e = refl

pub rank_there : (ranks : List RankedSource) (from : From) (rank : Rank) → rank_at (with_rank ranks from rank) from ≡ Some rank
rank_there ranks from rank = lookup-inserted from_order from_order_total from_order_exact from from rank ranks
    ∙ ap (λ (o : Ordering). cond (is_eq o) (Some rank) (rank_at ranks from)) (tied_itself from_order_total from)

pub rank_other : (ranks : List RankedSource) (from : From) (rank : Rank) (other : From) → other ≢ from
    → rank_at (with_rank ranks from rank) other ≡ rank_at ranks other
rank_other ranks from rank other differs = lookup-inserted from_order from_order_total from_order_exact other from rank ranks
    ∙ ap (λ (b : Bool). cond b (Some rank) (rank_at ranks other)) (other_test other from differs)

taken_out : (ranks : List RankedSource) (from other : From) → IsInOrder ranks
    → rank_at (without_source ranks from) other ≡ cond (is_eq (from_order from other)) None (rank_at ranks other)
taken_out ranks from other ordered =
    lookup-remove_entry (eq_by_cmp_equiv from_order_total) (is_at (from_order from))
    (λ x y t. (eq_by_cmp_equiv from_order_total).congr from x y t) other ranks (IsDistinct-from_sorted from_order _ ordered)

pub rank_gone : (ranks : List RankedSource) (from : From) → IsInOrder ranks → rank_at (without_source ranks from) from ≡ None
rank_gone ranks from ordered = taken_out ranks from from ordered
    ∙ ap (λ (o : Ordering). cond (is_eq o) None (rank_at ranks from)) (tied_itself from_order_total from)

pub rank_left : (ranks : List RankedSource) (from : From) → IsInOrder ranks → (other : From) → other ≢ from
    → rank_at (without_source ranks from) other ≡ rank_at ranks other
rank_left ranks from ordered other differs =
    taken_out ranks from other ordered
    ∙ ap (λ (b : Bool). cond b None (rank_at ranks other)) ((eq_by_cmp_equiv from_order_total).symm from other ∙ other_test other from differs)

-- ---- the ranks of one prefix

unwrapped : (b : Bool) (xs : List RankedSource) (o : Option (List RankedSource)) → unwrap_or (cond b (Some xs) o) [] ≡ cond b xs (unwrap_or o [])
unwrapped true xs o = refl
unwrapped false xs o = refl

unwrapped_none : (b : Bool) (o : Option (List RankedSource)) → unwrap_or (cond b None o) [] ≡ cond b [] (unwrap_or o [])
unwrapped_none true o = refl
unwrapped_none false o = refl

put_at : (sets : RankSets) (p : PrefixValue) (xs : List RankedSource) (q : PrefixValue) → ranks_at (map.insert sets p xs) q ≡ ranks_with (ranks_at sets) p xs q
put_at sets p xs q = ap (λ o. unwrap_or o []) (map.get-insert prefix_total sets p xs q)
    ∙ (unwrapped (eq_by_cmp prefix_cmp q p) xs (map.get sets q) ∙ ap (λ (b : Bool). cond b xs (ranks_at sets q)) (tests_same q p))

pub ranks_put : (sets : RankSets) (p : PrefixValue) (xs : List RankedSource) → ranks_at (map.insert sets p xs) ≡ ranks_with (ranks_at sets) p xs
ranks_put sets p xs = λ i q. put_at sets p xs q i

gone_at : (sets : RankSets) (p : PrefixValue) (q : PrefixValue) → ranks_at (map.remove sets p) q ≡ ranks_with (ranks_at sets) p [] q
gone_at sets p q = ap (λ o. unwrap_or o []) (map.get-remove prefix_total sets p q)
    ∙ (unwrapped_none (eq_by_cmp prefix_cmp q p) (map.get sets q) ∙ ap (λ (b : Bool). cond b [] (ranks_at sets q)) (tests_same q p))

pub ranks_gone : (sets : RankSets) (p : PrefixValue) (xs : List RankedSource) → xs ≡ [] → ranks_at (map.remove sets p) ≡ ranks_with (ranks_at sets) p xs
ranks_gone sets p xs is = (λ i q. gone_at sets p q i) ∙ ap (ranks_with (ranks_at sets) p) (sym is)

twice : (ranks : PrefixValue → List RankedSource) (p : PrefixValue) (xs ys : List RankedSource) (q : PrefixValue)
    → ranks_with (ranks_with ranks p xs) p ys q ≡ ranks_with ranks p ys q
twice ranks p xs ys q = by_test (same_prefix q p) where
  by_test : (b : Bool) → cond b ys (cond b xs (ranks q)) ≡ cond b ys (ranks q)
  by_test true = refl
  by_test false = refl

again : (ranks : PrefixValue → List RankedSource) (p q : PrefixValue) → ranks_with ranks p (ranks p) q ≡ ranks q
again ranks p q = by_test (eq_by_cmp prefix_cmp q p) refl where
  by_test : (b : Bool) → eq_by_cmp prefix_cmp q p ≡ b → ranks_with ranks p (ranks p) q ≡ ranks q
  by_test true e = ap (λ (t : Bool). cond t (ranks p) (ranks q)) (sym (tests_same q p) ∙ e) ∙ ap ranks (sym (Rattle.bgp_types.proofs.TableLaws.tied q p e))
  by_test false e = ap (λ (t : Bool). cond t (ranks p) (ranks q)) (sym (tests_same q p) ∙ e)

module _ (before after : RankSets) (p : PrefixValue) (xs : List RankedSource) (put : ranks_at after ≡ ranks_with (ranks_at before) p xs) where
  -- nothing changes where the same is put back
  pub ranks_back : xs ≡ ranks_at before p → ranks_at after ≡ ranks_at before
  ranks_back is = put ∙ (ap (ranks_with (ranks_at before) p) is ∙ λ i q. again (ranks_at before) p q i)

  pub sets_rank : (from : From) (rank : Option Rank) → rank_at xs from ≡ rank
      → ((other : From) → other ≢ from → rank_at xs other ≡ rank_at (ranks_at before p) other) → SetsRank before p from rank after
  sets_rank from rank there others =
      let here : ranks_at after p ≡ xs = ap (λ (f : PrefixValue → List RankedSource). f p) put
      ∙ ap (λ (b : Bool). cond b xs (ranks_at before p)) (sym (tests_same p p) ∙ itself p) in record {
        there = ap (λ (ys : List RankedSource). rank_at ys from) here ∙ there;
        others = λ other differs. ap (λ (ys : List RankedSource). rank_at ys other) here ∙ others other differs;
        elsewhere = λ q differs. ap (λ (f : PrefixValue → List RankedSource). f q) put
            ∙ ap (λ (b : Bool). cond b xs (ranks_at before q)) (sym (tests_same q p) ∙ apart p q differs);
      }

-- what goes again once nothing is left
pub ranks_emptied : (before left : RankSets) (p : PrefixValue) (xs : List RankedSource) → left ≡ map.insert before p xs → xs ≡ []
    → ranks_at (map.remove left p) ≡ ranks_with (ranks_at before) p xs
ranks_emptied before left p xs is empty =
    ranks_gone left p xs empty
    ∙ (ap (λ (s : RankSets). ranks_with (ranks_at s) p xs) is
    ∙ (ap (λ (f : PrefixValue → List RankedSource). ranks_with f p xs) (ranks_put before p xs) ∙ λ i q. twice (ranks_at before) p xs xs q i))

-- the ranks of a prefix that is there, or not
pub ranks_there : (sets : RankSets) (p : PrefixValue) (o : Option (List RankedSource)) → map.get sets p ≡ o → unwrap_or o [] ≡ ranks_at sets p
ranks_there sets p o is = ap (λ x. unwrap_or x []) (sym is)

-- a prefix without ranks has none of a source
pub none_there : (before : RankSets) (p : PrefixValue) (from : From) → map.get before p ≡ None → SetsRank before p from None before
none_there before p from none = record {
  there = ap (λ o. rank_at (unwrap_or o []) from) none;
  others = λ other differs. refl;
  elsewhere = λ q differs. refl;
}

-- ---- what a prefix without ranks has

nothing_chosen : choice {K = From} [] ≡ None
unfolding choice left_of keep
nothing_chosen = refl

pub none_chosen_there : (sets : RankSets) (p : PrefixValue) → map.get sets p ≡ None → None ≡ choice (ranks_at sets p)
none_chosen_there sets p none = sym (ap (λ o. choice (unwrap_or o [])) none ∙ nothing_chosen)

nothing_in_order : IsInOrder []
unfolding IsStrictlySortedBy
nothing_in_order = tt

pub none_in_order : (sets : RankSets) (p : PrefixValue) → map.get sets p ≡ None → IsInOrder (ranks_at sets p)
none_in_order sets p none = subst (λ o. IsInOrder (unwrap_or o [])) (sym none) nothing_in_order

-- ---- whole calls

module _ (before after : RankSets) (p : PrefixValue) (from : From) (ranks xs : List RankedSource)
    (there : ranks ≡ ranks_at before p) (put : ranks_at after ≡ ranks_with (ranks_at before) p xs) where
  pub call_sets : {A E : Type 0} (r : Result A E) (rank : Rank) → OnOk r (xs ≡ with_rank ranks from rank) → OnOk r (SetsRank before p from (Some rank) after)
  call_sets (Ok v) rank is = sets_rank before after p xs put from (Some rank)
      (ap (λ (ys : List RankedSource). rank_at ys from) is ∙ rank_there ranks from rank)
      (λ other differs. ap (λ (ys : List RankedSource). rank_at ys other) is
      ∙ (rank_other ranks from rank other differs ∙ ap (λ (ys : List RankedSource). rank_at ys other) there))
  call_sets (Err e) rank is = tt

  pub call_keeps : {A E : Type 0} (r : Result A E) → OnErr r (xs ≡ ranks) → OnErr r (ranks_at after ≡ ranks_at before)
  call_keeps (Ok v) is = tt
  call_keeps (Err e) is = ranks_back before after p xs put (is ∙ there)

  pub call_drops : IsInOrder ranks → xs ≡ without_source ranks from → SetsRank before p from None after
  call_drops ordered is = sets_rank before after p xs put from None
      (ap (λ (ys : List RankedSource). rank_at ys from) is ∙ rank_gone ranks from ordered)
      (λ other differs. ap (λ (ys : List RankedSource). rank_at ys other) is
      ∙ (rank_left ranks from ordered other differs ∙ ap (λ (ys : List RankedSource). rank_at ys other) there))
