-- The ranks of own networks, one after another.
use Rattle.std.proofs.Common.{◌≡◌, Bool, true, false, cond, ◌||◌, List, [], ◌∷◌, ◌++◌, Some, None, refl, sym, ap, ◌∙◌}
use Rattle.std.specs.Prelude.{◌≢◌, fold}
use Rattle.std.specs.FinMap as map
use Rattle.std.specs.List.{list_any}
use Rattle.std.specs.Ordering.{eq_by_cmp}
use Rattle.bgp_types.specs.Prefixes.{PrefixValue, same_prefix}
use Rattle.bgp_types.specs.Tables.{prefix_cmp}
use Rattle.bgp_types.specs.declared.rank.From.{From}
use Rattle.bgp_types.specs.declared.rank.From.TheVariants.{Own}
use Rattle.bgp_types.specs.declared.rank.Rank.{Rank}
use Rattle.bgp_types.proofs.TableLaws.{tied}
use Rattle.decision_groups.specs.Order.{RankedSource, rank_at}
use Rattle.session_value.specs.Sets.{Prefixes}
use Rattle.rib_stages.specs.Values.{set_of}
use Rattle.rib_stages.specs.Ranks.{RankSets, ranks_at, SetsRank, HasOwnRanks}
use Rattle.rib_stages.proofs.Kept.{tests_same}
use Rattle.rib_stages.proofs.Marks.{itself}

set_more_from : (networks : List PrefixValue) (n : PrefixValue) (set : Prefixes)
    → fold (λ s network. map.insert s network tt) set (networks ++ n ∷ []) ≡ map.insert (fold (λ s network. map.insert s network tt) set networks) n tt
set_more_from [] n set = refl
set_more_from (m ∷ ms) n set = set_more_from ms n (map.insert set m tt)

-- one network more
pub set_more : (networks : List PrefixValue) (n : PrefixValue) → set_of (networks ++ n ∷ []) ≡ map.insert (set_of networks) n tt
set_more networks n = set_more_from networks n map.empty

any_more : (test : PrefixValue → Bool) (networks : List PrefixValue) (n : PrefixValue) → list_any test (networks ++ n ∷ []) ≡ (list_any test networks || test n)
any_more test [] n = or_false (test n) where
  or_false : (b : Bool) → (b || false) ≡ b
  or_false true = refl
  or_false false = refl
any_more test (m ∷ ms) n = ap (λ (b : Bool). test m || b) (any_more test ms n) ∙ by_test (test m) where
  by_test : (b : Bool) → (b || (list_any test ms || test n)) ≡ ((b || list_any test ms) || test n)
  by_test true = refl
  by_test false = refl

or_true : (b : Bool) → (b || true) ≡ true
or_true true = refl
or_true false = refl

or_same : (b : Bool) → (b || false) ≡ b
or_same true = refl
or_same false = refl

pub own_ranks_more : (rank : Rank) (networks : List PrefixValue) (n : PrefixValue) (before after : RankSets) → HasOwnRanks rank networks before
    → SetsRank before n Own (Some rank) after → HasOwnRanks rank (networks ++ n ∷ []) after
own_ranks_more rank networks n before after has_own sets =
    record { own = λ q. own q (eq_by_cmp prefix_cmp q n) refl; others = λ q from differs. others q from differs (eq_by_cmp prefix_cmp q n) refl }
  where
    apart_from : (q : PrefixValue) → eq_by_cmp prefix_cmp q n ≡ false → q ≢ n
    apart_from q e same = let t : eq_by_cmp prefix_cmp q n ≡ true = ap (λ (x : PrefixValue). eq_by_cmp prefix_cmp x n) same ∙ itself n in absurd cc

    own : (q : PrefixValue) (b : Bool) → eq_by_cmp prefix_cmp q n ≡ b
        → rank_at (ranks_at after q) Own ≡ cond (list_any (same_prefix q) (networks ++ n ∷ [])) (Some rank) None
    own q true e =
        let test : same_prefix q n ≡ true = sym (tests_same q n) ∙ e in
        ap (λ (x : PrefixValue). rank_at (ranks_at after x) Own) (tied q n e)
        ∙ (sets.there ∙ ap (λ (b : Bool). cond b (Some rank) None) (sym (any_more (same_prefix q) networks n
        ∙ (ap (λ (b : Bool). list_any (same_prefix q) networks || b) test ∙ or_true (list_any (same_prefix q) networks)))))
    own q false e =
        let test : same_prefix q n ≡ false = sym (tests_same q n) ∙ e in
        ap (λ (rs : List RankedSource). rank_at rs Own) (sets.elsewhere q (apart_from q e))
        ∙ (has_own.own q ∙ ap (λ (b : Bool). cond b (Some rank) None) (sym (any_more (same_prefix q) networks n
        ∙ (ap (λ (b : Bool). list_any (same_prefix q) networks || b) test ∙ or_same (list_any (same_prefix q) networks)))))

    others : (q : PrefixValue) (from : From) → from ≢ Own → (b : Bool) → eq_by_cmp prefix_cmp q n ≡ b → rank_at (ranks_at after q) from ≡ None
    others q from differs true e = ap (λ (x : PrefixValue). rank_at (ranks_at after x) from) (tied q n e)
        ∙ (sets.others from differs ∙ has_own.others n from differs)
    others q from differs false e = ap (λ (rs : List RankedSource). rank_at rs from) (sets.elsewhere q (apart_from q e)) ∙ has_own.others q from differs

-- no network has no rank
pub own_ranks_none : (rank : Rank) (sets : RankSets) → sets ≡ map.empty → HasOwnRanks rank [] sets
own_ranks_none rank sets is = record {
  own = λ q. ap (λ (s : RankSets). rank_at (ranks_at s q) Own) is ∙ ap (λ o. rank_at (Rattle.std.specs.Option.unwrap_or o []) Own) (map.get-empty prefix_cmp q);
  others = λ q from differs. ap (λ (s : RankSets). rank_at (ranks_at s q) from) is
      ∙ ap (λ o. rank_at (Rattle.std.specs.Option.unwrap_or o []) from) (map.get-empty prefix_cmp q);
}
