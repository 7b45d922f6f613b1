-- A node over two branches, and what it has once one of them stands at another index.
use Rattle.std.proofs.Common.{◌≡◌, ℕ, List, ◌∷◌, ◌++◌, Option, Some, sym, ap, subst, ◌∙◌, slice_get}
use Rattle.std.specs.Prelude.{IfSome}
use Rattle.bgp_types.specs.Prefixes.{PrefixValue}
use Rattle.prefix_trie.specs.Halves.{middle, past, Within}
use Rattle.prefix_trie.specs.Nodes.{own}
use Rattle.prefix_trie.specs.declared.node.Node.{Node}
use Rattle.prefix_trie.specs.Arena.{value_at, entries_at, indices_at, IsBranching, IsTrieAt}
use Rattle.prefix_trie.proofs.Frames.{Stays}
use Rattle.prefix_trie.proofs.Levels.{AtNode, at_node, node_entries, node_trie}

-- What stands from an index down.
pub record Stands {V : Type 0} (nodes : List Node) (values : List (Option V)) (index : ℕ) (es : List (PrefixValue × V)) (ps : List ℕ) : Type 0 where
  pub entries : entries_at nodes values index ≡ es
  pub indices : indices_at nodes index ≡ ps
  pub trie : IsTrieAt nodes index

pub built : {V : Type 0} (nodes : List Node) (values : List (Option V)) (index : ℕ) (n : Node) → slice_get nodes index ≡ Some n → IsBranching nodes n
    → IsTrieAt nodes n.zero → IsTrieAt nodes n.one
    → Stands nodes values index (own n.prefix (value_at values index) ++ (entries_at nodes values n.zero ++ entries_at nodes values n.one))
    (index ∷ (indices_at nodes n.zero ++ indices_at nodes n.one))
built nodes values index n there branching zeros ones =
    let trie = node_trie nodes index n there branching zeros ones in
    let at = at_node nodes index n there trie in
    record { entries = node_entries nodes values index n at; indices = at.indices; trie = trie }

-- The entries are the same, though the nodes are others.
pub record Moved {V : Type 0} (nodes fs : List Node) (values ws : List (Option V)) (from to : ℕ) : Type 0 where
  pub entries : entries_at fs ws to ≡ entries_at nodes values from
  pub trie : IsTrieAt fs to

module _ {V : Type 0} (nodes fs : List Node) (values ws : List (Option V)) (index to : ℕ)
    (n : Node) (had : AtNode nodes index n) (kept : value_at ws index ≡ value_at values index) where
  pub zero_moved : slice_get fs index ≡ Some (record { prefix = n.prefix; zero = to; one = n.one }) → Moved nodes fs values ws n.zero to
      → Stays nodes fs values ws n.one
      → IfSome (slice_get fs to) (λ m. Within n.prefix.address (middle n.prefix) n.prefix.len m.prefix)
      → Stands fs ws index (entries_at nodes values index) (index ∷ (indices_at fs to ++ indices_at nodes n.one))
  zero_moved now moved stays below =
      let b = built fs ws index (record { prefix = n.prefix; zero = to; one = n.one }) now
      (record {
        is = had.branching.is;
        zero = below;
        one = subst (λ (o : Option Node). IfSome o (λ m. Within (middle n.prefix) (past n.prefix) n.prefix.len m.prefix)) (sym stays.root) had.branching.one;
      }) moved.trie stays.trie in
      record {
        entries = b.entries
            ∙ (ap (λ (o : Option V). own n.prefix o ++ (entries_at fs ws to ++ entries_at fs ws n.one)) kept
            ∙ (ap (λ (xs : List (PrefixValue × V)). own n.prefix (value_at values index) ++ (xs ++ entries_at fs ws n.one)) moved.entries
            ∙ (ap (λ (xs : List (PrefixValue × V)). own n.prefix (value_at values index) ++ (entries_at nodes values n.zero ++ xs)) stays.entries
            ∙ sym (node_entries nodes values index n had))));
        indices = b.indices ∙ ap (λ (xs : List ℕ). index ∷ (indices_at fs to ++ xs)) stays.indices;
        trie = b.trie;
      }

  pub one_moved : slice_get fs index ≡ Some (record { prefix = n.prefix; zero = n.zero; one = to }) → Moved nodes fs values ws n.one to
      → Stays nodes fs values ws n.zero
      → IfSome (slice_get fs to) (λ m. Within (middle n.prefix) (past n.prefix) n.prefix.len m.prefix)
      → Stands fs ws index (entries_at nodes values index) (index ∷ (indices_at nodes n.zero ++ indices_at fs to))
  one_moved now moved stays below =
      let b = built fs ws index (record { prefix = n.prefix; zero = n.zero; one = to }) now
      (record {
        is = had.branching.is;
        zero = subst (λ (o : Option Node). IfSome o (λ m. Within n.prefix.address (middle n.prefix) n.prefix.len m.prefix))
            (sym stays.root) had.branching.zero;
        one = below;
      }) stays.trie moved.trie in
      record {
        entries = b.entries
            ∙ (ap (λ (o : Option V). own n.prefix o ++ (entries_at fs ws n.zero ++ entries_at fs ws to)) kept
            ∙ (ap (λ (xs : List (PrefixValue × V)). own n.prefix (value_at values index) ++ (xs ++ entries_at fs ws to)) stays.entries
            ∙ (ap (λ (xs : List (PrefixValue × V)). own n.prefix (value_at values index) ++ (entries_at nodes values n.zero ++ xs)) moved.entries
            ∙ sym (node_entries nodes values index n had))));
        indices = b.indices ∙ ap (λ (xs : List ℕ). index ∷ (xs ++ indices_at fs to)) stays.indices;
        trie = b.trie;
      }
