-- A trie out of which a prefix was taken.
use Rattle.std.proofs.Common.{◌≡◌, Bool, true, false, List, [], ◌∷◌, length, Option, Some, None, refl, sym, ap, ◌∙◌, arith, inl, inr}
use Rattle.std.specs.FinMap.{find}
use Rattle.std.specs.Ordering.{eq_by_cmp}
use Rattle.bgp_types.specs.Prefixes.{PrefixValue}
use Rattle.bgp_types.specs.Tables.{prefix_cmp}
use Rattle.bgp_types.proofs.TableLaws.{without}
use Rattle.prefix_trie.specs.declared.tree.Tree.{Tree}
use Rattle.prefix_trie.specs.Arena.{value_at, entries_at}
use Rattle.prefix_trie.specs.Trees.{entries, IsTrie}
use Rattle.prefix_trie.specs.Trimming.{IsTrimmed}
use Rattle.prefix_trie.proofs.Indices.{indices_in}

-- Without a prefix that has no value all stays.
pub without_absent : {V : Type 0} (p : PrefixValue) (es : List (PrefixValue × V)) → find prefix_cmp p es ≡ None → without prefix_cmp p es ≡ es
without_absent p [] none = refl
without_absent {V} p (e ∷ es) none = by_test (eq_by_cmp prefix_cmp p e.0) refl (λ k. without_absent p es k) where
  by_test : (t : Bool) → eq_by_cmp prefix_cmp p e.0 ≡ t → (find prefix_cmp p es ≡ None → without prefix_cmp p es ≡ es) → without prefix_cmp p (e ∷ es) ≡ e ∷ es
  by_test true k below = absurd (let some : Some e.1 ≡ None = rw k at none in cc)
  by_test false k below = rw k (ap (λ (xs : List (PrefixValue × V)). e ∷ xs) (below (rw k at none)))

module _ {V : Type 0} (t u : Tree V) (trie : IsTrie t) (trimmed : IsTrimmed t.nodes.items u.nodes.items
    t.values.items t.free.items u.free.items t.root u.root) (values : u.values.items ≡ t.values.items) where
  many : length u.nodes.items ≡ length t.nodes.items
  many = trimmed.as_many

  pub trimmed_trie : IsTrie u
  trimmed_trie = record {
    trie = trimmed.trie;
    apart = trimmed.apart;
    free_in = λ q inside. elim (trimmed.freed q inside) [
      | inl before ↦ let lt = trie.free_in q before in omega (arith, lt, many)
      | inr gone ↦ let lt = indices_in t.nodes.items q t.root trie.trie gone.0 in omega (arith, lt, many)
    ];
    free_bare = λ q inside. ap (λ (vs : List (Option V)). value_at vs q) values ∙ elim (trimmed.freed q inside) [
      | inl before ↦ trie.free_bare q before
      | inr gone ↦ gone.1
    ];
    few = let few = trie.few in omega (arith, few, many);
    valued = ap (λ (vs : List (Option V)). length vs) values ∙ (trie.valued ∙ sym many);
  }

  pub trimmed_entries : entries u ≡ entries t
  trimmed_entries = ap (λ (vs : List (Option V)). entries_at u.nodes.items vs u.root) values ∙ trimmed.entries
