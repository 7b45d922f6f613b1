-- A node that has neither a value nor two branches can go: its one branch takes its index.
use Rattle.std.proofs.Common.{◌≡◌, ℕ, ◌≤◌, List, ◌∷◌, ◌++◌, length, Option, Some, None, sym, ap, ◌∙◌, arith, slice_get}
use Rattle.std.specs.Prelude.{IfSome}
use Rattle.std.proofs.lemmas.List.{append-nil}
use Rattle.std.proofs.lemmas.Option.{slice_get_past}
use Rattle.bgp_types.specs.Prefixes.{PrefixValue}
use Rattle.prefix_trie.specs.Halves.{middle, past, Within}
use Rattle.prefix_trie.specs.Nodes.{own}
use Rattle.prefix_trie.specs.declared.node.Node.{Node}
use Rattle.prefix_trie.specs.Arena.{nowhere, value_at, entries_at, indices_at, IsTrieAt}
use Rattle.prefix_trie.proofs.Levels.{AtNode, at_node, no_indices, node_entries, none_at}
use Rattle.prefix_trie.proofs.Indices.{early_lies, late_lies}

-- The branch at one index has all that the node at another has.
pub record Lifted {V : Type 0} (nodes : List Node) (values : List (Option V)) (index to : ℕ) : Type 0 where
  pub entries : entries_at nodes values to ≡ entries_at nodes values index
  pub indices : indices_at nodes index ≡ index ∷ indices_at nodes to
  pub trie : IsTrieAt nodes to

module _ {V : Type 0} (nodes : List Node) (values : List (Option V)) (few : length nodes ≤ nowhere) (index : ℕ) (n : Node)
    (there : slice_get nodes index ≡ Some n) (trie : IsTrieAt nodes index) (bare : value_at values index ≡ None) where
  had : AtNode nodes index n
  had = at_node nodes index n there trie

  none_there : (at : ℕ) → at ≡ nowhere → slice_get nodes at ≡ None
  none_there at is = slice_get_past nodes at (omega (arith, few, is))

  pub lifted_zero : n.one ≡ nowhere → Lifted nodes values index n.zero
  lifted_zero gone = record {
    entries = sym (node_entries nodes values index n had
        ∙ (ap (λ (o : Option V). own n.prefix o ++ (entries_at nodes values n.zero ++ entries_at nodes values n.one)) bare
        ∙ (ap (λ (xs : List (PrefixValue × V)). entries_at nodes values n.zero ++ xs) (none_at nodes values n.one (none_there n.one gone))
        ∙ append-nil (entries_at nodes values n.zero))));
    indices = had.indices
        ∙ (ap (λ (xs : List ℕ). index ∷ (indices_at nodes n.zero ++ xs)) (no_indices nodes n.one (none_there n.one gone))
        ∙ ap (λ (xs : List ℕ). index ∷ xs) (append-nil (indices_at nodes n.zero)));
    trie = had.zero_below;
  }

  pub lifted_one : n.zero ≡ nowhere → Lifted nodes values index n.one
  lifted_one gone = record {
    entries = sym (node_entries nodes values index n had
        ∙ (ap (λ (o : Option V). own n.prefix o ++ (entries_at nodes values n.zero ++ entries_at nodes values n.one)) bare
        ∙ ap (λ (xs : List (PrefixValue × V)). xs ++ entries_at nodes values n.one) (none_at nodes values n.zero (none_there n.zero gone))));
    indices = had.indices ∙ ap (λ (xs : List ℕ). index ∷ (xs ++ indices_at nodes n.one)) (no_indices nodes n.zero (none_there n.zero gone));
    trie = had.one_below;
  }

  -- The branch lies where the node lay.
  within_by : (P Q : PrefixValue → Type 0) (o : Option Node) → ((q : PrefixValue) → P q → Q q) → IfSome o (λ m. P m.prefix) → IfSome o (λ m. Q m.prefix)
  within_by P Q None each below = tt
  within_by P Q (Some m) each below = each m.prefix below

  pub zero_within : (low high len : ℕ) → Within low high len n.prefix → IfSome (slice_get nodes n.zero) (λ m. Within low high len m.prefix)
  zero_within low high len w = within_by (Within n.prefix.address (middle n.prefix) n.prefix.len) (Within low high len)
      (slice_get nodes n.zero) (early_lies nodes n had.branching low high len w) had.branching.zero

  pub one_within : (low high len : ℕ) → Within low high len n.prefix → IfSome (slice_get nodes n.one) (λ m. Within low high len m.prefix)
  one_within low high len w = within_by (Within (middle n.prefix) (past n.prefix) n.prefix.len) (Within low high len)
      (slice_get nodes n.one) (late_lies nodes n had.branching low high len w) had.branching.one
