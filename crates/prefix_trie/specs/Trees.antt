-- A trie with its values, and the indices that are kept for later nodes.
use Rattle.std.specs.Prelude.{◌≡◌, ℕ, ◌≤◌, ◌<◌, List, ◌++◌, length, None, slice_get}
use Rattle.std.specs.List.{Contains}
use Rattle.bgp_types.specs.Prefixes.{PrefixValue}
use Rattle.prefix_trie.specs.declared.tree.Tree.{Tree}
use Rattle.prefix_trie.specs.Arena.{nowhere, value_at, entries_at, indices_at, AreApart, IsTrieAt}

-- its prefixes with their values, each before those that it covers
abbrev pub entries : {V : Type 0} → Tree V → List (PrefixValue × V)
entries t = entries_at t.nodes.items t.values.items t.root

-- No index is used twice, and at those that are free there is no value.
pub record IsTrie {V : Type 0} (t : Tree V) : Type 0 where
  pub trie : IsTrieAt t.nodes.items t.root
  pub apart : AreApart (indices_at t.nodes.items t.root ++ t.free.items)
  pub free_in : (q : ℕ) → Contains t.free.items q → q < length t.nodes.items
  pub free_bare : (q : ℕ) → Contains t.free.items q → value_at t.values.items q ≡ None
  pub few : length t.nodes.items ≤ nowhere
  pub valued : length t.values.items ≡ length t.nodes.items

-- There may be more nodes. The nodes and values that were there are unchanged.
pub record IsGrown {V : Type 0} (t u : Tree V) : Type 0 where
  pub root : u.root ≡ t.root
  pub nodes : (q : ℕ) → q < length t.nodes.items → slice_get u.nodes.items q ≡ slice_get t.nodes.items q
  pub values : (q : ℕ) → value_at u.values.items q ≡ value_at t.values.items q
  pub longer : length t.nodes.items ≤ length u.nodes.items
