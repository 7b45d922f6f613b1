-- Nodes that have neither a value nor two branches are removed, and their indices are kept.
use Rattle.std.specs.Prelude.{◌≡◌, ◌⊎◌, ℕ, ◌≤◌, List, ◌++◌, length, Option, None, IfSome, slice_get}
use Rattle.std.specs.List.{Contains}
use Rattle.prefix_trie.specs.Halves.{Within}
use Rattle.prefix_trie.specs.declared.node.Node.{Node}
use Rattle.prefix_trie.specs.Arena.{nowhere, value_at, entries_at, indices_at, AreApart, IsTrieAt}

-- No index that is free is one of the trie's.
pub record CanTrim (nodes : List Node) (free : List ℕ) (index : ℕ) : Type 0 where
  pub trie : IsTrieAt nodes index
  pub apart : AreApart (indices_at nodes index ++ free)
  pub few : length nodes ≤ nowhere

-- The entries are the same, and the indices of removed nodes are free, unless there was no room to keep them. What is elsewhere is unchanged.
pub record IsTrimmed {V : Type 0} (nodes fs : List Node) (values : List (Option V)) (free kept : List ℕ) (from to : ℕ) : Type 0 where
  pub entries : entries_at fs values to ≡ entries_at nodes values from
  pub trie : IsTrieAt fs to
  pub apart : AreApart (indices_at fs to ++ kept)
  pub among : (r : ℕ) → Contains (indices_at fs to) r → Contains (indices_at nodes from) r
  pub freed : (r : ℕ) → Contains kept r → Contains free r ⊎ (Contains (indices_at nodes from) r × (value_at values r ≡ None))
  pub more : length free ≤ length kept
  pub others : (r : ℕ) → (Contains (indices_at nodes from) r → ⊥) → slice_get fs r ≡ slice_get nodes r
  pub as_many : length fs ≡ length nodes
  pub within : (low high len : ℕ) → IfSome (slice_get nodes from) (λ m. Within low high len m.prefix)
      → IfSome (slice_get fs to) (λ m. Within low high len m.prefix)
