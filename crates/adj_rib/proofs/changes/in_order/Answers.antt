use Rattle.std.proofs.Common.{List, sym, ap, ◌∙◌, subst}
use Rattle.std.specs.List.{list_any}
use Rattle.std.specs.List.Sorted.{IsStrictlySortedBy}
use Rattle.std.proofs.lemmas.List.Filters.{dedup_is}
use Rattle.std.proofs.lemmas.List.Kept.{IsStrictlySortedBy-dedup}
use Rattle.std.proofs.lemmas.List.Sorted.{list_any-IsPermutation}
use Rattle.bgp_types.specs.Prefixes.{PrefixValue, same_prefix}
use Rattle.bgp_types.specs.Tables.{prefix_cmp}
use Rattle.bgp_types.proofs.OnceLaws.{is_same}
use Rattle.bgp_types.proofs.TableLaws.{prefix_total}
use Rattle.adj_rib.proofs.Indices.{one_test, any_once}
use Rattle.adj_rib.proofs.changes.in_order.Goals as goal

pub returns-clause-rising : goal.returns-clause-rising
returns-clause-rising c =
    let is = c.from_vec.ensures ∙ dedup_is _ _ _ c.dedup.ensures.filtered in
    subst (λ (ps : List PrefixValue). IsStrictlySortedBy prefix_cmp ps) (sym is)
    (IsStrictlySortedBy-dedup prefix_total (λ p q. sym (one_test p q)) _ c.sort_unstable.ensures.sorted)

pub returns-clause-same : goal.returns-clause-same
returns-clause-same c = λ p.
    let is = c.from_vec.ensures ∙ dedup_is _ _ _ c.dedup.ensures.filtered in
    ap (list_any (same_prefix p)) is
    ∙ (any_once same_prefix is_same (same_prefix p) c.sort_unstable.new.self.items
    ∙ (sym (list_any-IsPermutation (same_prefix p) _ _ c.sort_unstable.ensures.permutation)
    ∙ ap (list_any (same_prefix p)) c.into_vec-prefixes.ensures))
