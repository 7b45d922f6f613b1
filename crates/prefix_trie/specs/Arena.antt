-- Nodes that stand in a list and name each other by their indices, and how their prefixes are arranged.
use Rattle.std.specs.Prelude.{◌≡◌, ◌≢◌, ◌⊎◌, ◌<◌, ℕ, zero, suc, ◌^◌, ◌-◌, List, [], ◌∷◌, ◌++◌, length, Option, None}
use Rattle.std.specs.Prelude.{Some, IfSome, IfNone, option_and_then, option_map, slice_get, unwrap_or}
use Rattle.std.specs.List.{Contains}
use Rattle.bgp_types.specs.Prefixes.{PrefixValue, IsPrefix, Covers}
use Rattle.prefix_trie.specs.Halves.{middle, past, Within}
use Rattle.prefix_trie.specs.Nodes.{own}
use Rattle.prefix_trie.specs.declared.node.Node.{Node}

-- the index that means no node, which an empty branch names
abbrev pub nowhere : ℕ
nowhere = 2 ^ 32 - 1

-- the value at an index, if there is one
abbrev pub value_at : {V : Type 0} → List (Option V) → ℕ → Option V
value_at values index = option_and_then (λ value. value) (slice_get values index)

-- the prefixes with their values on this many levels of nodes from an index down, each before those that it covers
unfoldable pub entries_over : {V : Type 0} → List Node → List (Option V) → ℕ → ℕ → List (PrefixValue × V)
entries_over nodes values zero index = []
entries_over nodes values (suc levels) index = unwrap_or (option_map (λ n. own n.prefix (value_at values index)
    ++ (entries_over nodes values levels n.zero ++ entries_over nodes values levels n.one)) (slice_get nodes index)) []

-- the indices of these nodes
unfoldable pub indices_over : List Node → ℕ → ℕ → List ℕ
indices_over nodes zero index = []
indices_over nodes (suc levels) index =
    unwrap_or (option_map (λ n. index ∷ (indices_over nodes levels n.zero ++ indices_over nodes levels n.one)) (slice_get nodes index)) []

-- A node has a prefix, and names nodes whose prefixes are longer ones of its two halves.
pub record IsBranching (nodes : List Node) (n : Node) : Type 0 where
  pub is : IsPrefix n.prefix
  pub zero : IfSome (slice_get nodes n.zero) (λ m. Within n.prefix.address (middle n.prefix) n.prefix.len m.prefix)
  pub one : IfSome (slice_get nodes n.one) (λ m. Within (middle n.prefix) (past n.prefix) n.prefix.len m.prefix)

-- This many levels of nodes from an index down are all that there are; each node names nodes or nothing, and its prefix covers those below it, half by
-- half.
unfoldable pub IsTrieOver : List Node → ℕ → ℕ → Type 0
IsTrieOver nodes zero index = (slice_get nodes index ≡ None) × (index ≡ nowhere)
IsTrieOver nodes (suc levels) index = IfNone (slice_get nodes index) (index ≡ nowhere)
    × IfSome (slice_get nodes index) (λ n. IsBranching nodes n × IsTrieOver nodes levels n.zero × IsTrieOver nodes levels n.one)

-- The same on all levels: a prefix has one of 33 lengths, and is longer than the one above it, so that there are never more than 34.
abbrev pub entries_at : {V : Type 0} → List Node → List (Option V) → ℕ → List (PrefixValue × V)
entries_at nodes values index = entries_over nodes values 34 index

abbrev pub indices_at : List Node → ℕ → List ℕ
indices_at nodes index = indices_over nodes 34 index

abbrev pub IsTrieAt : List Node → ℕ → Type 0
IsTrieAt nodes index = IsTrieOver nodes 34 index

-- This many branches lead from an index down to q.
unfoldable pub Leads : List Node → ℕ → ℕ → ℕ → Type 0
Leads nodes zero index q = q ≡ index
Leads nodes (suc steps) index q = (n : Node) × (slice_get nodes index ≡ Some n) × (Leads nodes steps n.zero q ⊎ Leads nodes steps n.one q)

-- at is shorter than p, and covers it
abbrev pub IsUnder : PrefixValue → PrefixValue → Type 0
IsUnder at p = Covers at p × at.len < p.len

-- no number occurs twice in a list
abbrev pub AreApart : List ℕ → Type 0
AreApart [] = Unit {0}
AreApart (x ∷ xs) = (Contains xs x → ⊥) × AreApart xs

-- The node and the value at an index are the same in both.
pub record IsSameAt {V : Type 0} (nodes fs : List Node) (values ws : List (Option V)) (q : ℕ) : Type 0 where
  pub node : slice_get fs q ≡ slice_get nodes q
  pub value : value_at ws q ≡ value_at values q

-- No node from an index down has the prefix.
abbrev pub HasNone : List Node → ℕ → PrefixValue → Type 0
HasNone nodes index p = (r : ℕ) → Contains (indices_at nodes index) r → IfSome (slice_get nodes r) (λ n. n.prefix ≢ p)

-- A node is at an index, and the other nodes are unchanged.
pub record IsNodeSet (nodes fs : List Node) (q : ℕ) (n : Node) : Type 0 where
  pub node : slice_get fs q ≡ Some n
  pub others : (r : ℕ) → r ≢ q → slice_get fs r ≡ slice_get nodes r
  pub as_many : length fs ≡ length nodes
