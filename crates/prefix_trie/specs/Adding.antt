-- A prefix gets a node without a value, at a fresh index; if it needs a fork above it, the fork gets a spare index.
use Rattle.std.specs.Prelude.{◌≡◌, ◌≢◌, ◌⊎◌, ℕ, ◌≤◌, ◌<◌, Bool, true, List, ◌∷◌, length, Option, None, Some, IfSome, option_map, slice_get}
use Rattle.std.specs.List.{Contains}
use Rattle.bgp_types.specs.Prefixes.{PrefixValue, IsPrefix}
use Rattle.prefix_trie.specs.Halves.{middle, past, IsFork, Within}
use Rattle.prefix_trie.specs.declared.node.Node.{Node}
use Rattle.prefix_trie.specs.Arena.{nowhere, value_at, entries_at, indices_at, AreApart, HasNone, IsTrieAt, IsUnder, Leads}

-- the addresses from low up to high are a half of q
abbrev pub IsHalf : (q : PrefixValue) (low high : ℕ) → Type 0
IsHalf q low high = ((low ≡ q.address) × (high ≡ middle q)) ⊎ ((low ≡ middle q) × (high ≡ past q))

-- There are two indices that nothing uses, and no node of the prefix.
pub record CanAdd (nodes : List Node) (p : PrefixValue) (fresh spare index : ℕ) : Type 0 where
  pub is : IsPrefix p
  pub trie : IsTrieAt nodes index
  pub absent : HasNone nodes index p
  pub apart : AreApart (fresh ∷ (spare ∷ indices_at nodes index))
  pub fresh_in : fresh < length nodes
  pub spare_in : spare < length nodes
  pub few : length nodes ≤ nowhere

-- The node of p is at the fresh index, and what is elsewhere is unchanged. Whatever values stand at indices, as here numbers, but none at the two: the
-- entries are the same.
pub record IsAdded (nodes fs : List Node) (p : PrefixValue) (fresh spare from to : ℕ) (forked : Bool) : Type 0 where
  pub entries : (values : List (Option ℕ)) → value_at values fresh ≡ None → value_at values spare ≡ None
      → entries_at fs values to ≡ entries_at nodes values from
  pub trie : IsTrieAt fs to
  pub node : option_map (λ n. n.prefix) (slice_get fs fresh) ≡ Some p
  pub there : Contains (indices_at fs to) fresh
  pub apart : AreApart (indices_at fs to)
  pub among : (r : ℕ) → Contains (indices_at fs to) r → Contains (indices_at nodes from) r ⊎ ((r ≡ fresh) ⊎ ((r ≡ spare) × (forked ≡ true)))
  pub others : (r : ℕ) → (Contains (indices_at nodes from) r → ⊥) → r ≢ fresh → r ≢ spare → slice_get fs r ≡ slice_get nodes r
  pub as_many : length fs ≡ length nodes
  pub within : (q : PrefixValue) (low high : ℕ) → IsPrefix q → IsHalf q low high → Within low high q.len p
      → IfSome (slice_get nodes from) (λ m. Within low high q.len m.prefix) → IfSome (slice_get fs to) (λ m. Within low high q.len m.prefix)

-- The index above has a node that p is under, and this node names the index at for the half in which p lies.
pub record IsBelow (nodes : List Node) (root : ℕ) (p : PrefixValue) (above at : ℕ) : Type 0 where
  pub node : Node
  pub there : slice_get nodes above ≡ Some node
  pub steps : ℕ
  pub on : Leads nodes steps root above
  pub under : IsUnder node.prefix p
  pub side : ((p.address < middle node.prefix) × (at ≡ node.zero)) ⊎ ((middle node.prefix ≤ p.address) × (at ≡ node.one))

-- The index at is on the way to where a node of p belongs: it is the first index, or the node at above, which p is under, names it.
abbrev pub IsWay : (nodes : List Node) (root : ℕ) (p : PrefixValue) (above at : ℕ) → Type 0
IsWay nodes root p above at = ((above ≡ nowhere) × (at ≡ root)) ⊎ IsBelow nodes root p above at

-- A node of p belongs at an index on its way if p isn't under the node there, or the index is vacant.
pub record IsSpot (nodes : List Node) (root : ℕ) (p : PrefixValue) (above at : ℕ) : Type 0 where
  pub way : IsWay nodes root p above at
  pub stop : IfSome (slice_get nodes at) (λ n. IsUnder n.prefix p → ⊥)

-- the index above is on the way of p too, below the index grand, or it is no index
abbrev pub IsUpper : (nodes : List Node) (root : ℕ) (p : PrefixValue) (grand above : ℕ) → Type 0
IsUpper nodes root p grand above = (above ≡ nowhere) ⊎ IsWay nodes root p grand above

-- the node of a prefix without branches
abbrev pub leaf : PrefixValue → Node
leaf p = record { prefix = p; zero = nowhere; one = nowhere }

-- m is the node of p whose only branch is at an index, for the half in which the prefix at lies.
abbrev pub IsOver : (p at : PrefixValue) (index : ℕ) (m : Node) → Type 0
IsOver p at index m = ((at.address < middle p) × (m ≡ record { prefix = p; zero = index; one = nowhere }))
    ⊎ ((middle p ≤ at.address) × (m ≡ record { prefix = p; zero = nowhere; one = index }))

-- m is the fork of p, whose node is at a fresh index, and of the prefix at, whose node is at an index.
abbrev pub IsForkOf : (p : PrefixValue) (fresh : ℕ) (at : PrefixValue) (index : ℕ) (m : Node) → Type 0
IsForkOf p fresh at index m = ((p.address < at.address) × IsFork p.address at.address m.prefix × (m ≡ record { prefix = m.prefix; zero = fresh; one = index }))
    ⊎ ((at.address ≤ p.address) × IsFork at.address p.address m.prefix × (m ≡ record { prefix = m.prefix; zero = index; one = fresh }))

-- m is n except for the index that it names for the half in which p lies.
abbrev pub IsLinked : (n : Node) (p : PrefixValue) (to : ℕ) (m : Node) → Type 0
IsLinked n p to m = ((p.address < middle n.prefix) × (m ≡ record { prefix = n.prefix; zero = to; one = n.one }))
    ⊎ ((middle n.prefix ≤ p.address) × (m ≡ record { prefix = n.prefix; zero = n.zero; one = to }))
