-- Where the node of a prefix can stand: on the way down that a search for it goes.
use Rattle.std.proofs.Common.{◌≡◌, ◌≢◌, ℕ, ◌≤◌, ◌<◌, List, ◌++◌, Option, Some, None, refl, sym, ap, subst, ◌∙◌, arith, slice_get, inl, inr, ◌⊎◌}
use Rattle.std.specs.Prelude.{IfSome}
use Rattle.std.specs.List.{Contains}
use Rattle.std.proofs.lemmas.List.Elements.{Contains-append_cases}
use Rattle.bgp_types.specs.Prefixes.{PrefixValue}
use Rattle.prefix_trie.specs.Halves.{middle, past, Within}
use Rattle.prefix_trie.proofs.Halves.{positive}
use Rattle.prefix_trie.proofs.Nodes.{shorter_differs}
use Rattle.prefix_trie.specs.declared.node.Node.{Node}
use Rattle.prefix_trie.specs.Arena.{indices_at, HasNone, IsTrieAt}
use Rattle.prefix_trie.proofs.Apart.{first_or_rest, in_none}
use Rattle.prefix_trie.proofs.Levels.{AtNode, at_node, no_indices}
use Rattle.prefix_trie.proofs.Indices.{index_within}

if_some : (o : Option Node) (P : Node → Type 0) → ((n : Node) → o ≡ Some n → P n) → IfSome o P
if_some None P each = tt
if_some (Some n) P each = each n refl

-- no node stands where there is none
pub none_there : (nodes : List Node) (index : ℕ) (p : PrefixValue) → slice_get nodes index ≡ None → HasNone nodes index p
none_there nodes index p none r inside = absurd (in_none r (subst (λ (ps : List ℕ). Contains ps r) (no_indices nodes index none) inside))

module _ (nodes : List Node) (index : ℕ) (n : Node) (there : slice_get nodes index ≡ Some n) (trie : IsTrieAt nodes index) where
  node : AtNode nodes index n
  node = at_node nodes index n there trie

  -- the index, or one of a branch
  parted : (q : ℕ) → Contains (indices_at nodes index) q → (q ≡ index) ⊎ (Contains (indices_at nodes n.zero) q ⊎ Contains (indices_at nodes n.one) q)
  parted q inside =
      elim (first_or_rest index (indices_at nodes n.zero ++ indices_at nodes n.one) q (subst (λ (ps : List ℕ). Contains ps q) node.indices inside)) [
        | inl at ↦ inl at
        | inr below ↦ inr (Contains-append_cases (indices_at nodes n.zero) (indices_at nodes n.one) q below)
      ]

  module _ (p : PrefixValue) where
    here : n.prefix ≢ p → (q : ℕ) → q ≡ index → IfSome (slice_get nodes q) (λ m. m.prefix ≢ p)
    here differ q at = subst (λ (o : Option Node). IfSome o (λ m. m.prefix ≢ p)) (sym (ap (slice_get nodes) at ∙ there)) differ

    in_zero : (q : ℕ) → Contains (indices_at nodes n.zero) q → (p.len ≤ n.prefix.len) ⊎ (middle n.prefix ≤ p.address)
        → IfSome (slice_get nodes q) (λ m. m.prefix ≢ p)
    in_zero q inside off = if_some (slice_get nodes q) (λ m. m.prefix ≢ p) (λ m named same.
        let w = subst (Within n.prefix.address (middle n.prefix) n.prefix.len) same
        (index_within nodes q m named n.zero node.zero_below n.prefix.address (middle n.prefix) n.prefix.len node.branching.zero inside) in
        let longer = w.longer in
        let to = w.to in
        let some = positive p in
        elim off [
          | inl short ↦ omega (arith, short, longer)
          | inr late ↦ omega (arith, late, to, some)
        ])

    in_one : (q : ℕ) → Contains (indices_at nodes n.one) q → (p.len ≤ n.prefix.len) ⊎ (p.address < middle n.prefix)
        → IfSome (slice_get nodes q) (λ m. m.prefix ≢ p)
    in_one q inside off = if_some (slice_get nodes q) (λ m. m.prefix ≢ p) (λ m named same.
        let w = subst (Within (middle n.prefix) (past n.prefix) n.prefix.len) same
        (index_within nodes q m named n.one node.one_below (middle n.prefix) (past n.prefix) n.prefix.len node.branching.one inside) in
        let longer = w.longer in
        let from = w.from in
        elim off [
          | inl short ↦ omega (arith, short, longer)
          | inr early ↦ omega (arith, early, from)
        ])

    -- none below another that is as long
    pub none_longer : n.prefix ≢ p → p.len ≤ n.prefix.len → HasNone nodes index p
    none_longer differ short q inside = elim (parted q inside) [
      | inl at ↦ here differ q at
      | inr below ↦ elim below [
        | inl left ↦ in_zero q left (inl short)
        | inr right ↦ in_one q right (inl short)
      ]
    ]

    -- in its half, or nowhere
    pub early_only : n.prefix.len < p.len → p.address < middle n.prefix → (q : ℕ) → Contains (indices_at nodes index) q
        → IfSome (slice_get nodes q) (λ m. m.prefix ≢ p) ⊎ Contains (indices_at nodes n.zero) q
    early_only long early q inside = elim (parted q inside) [
      | inl at ↦ inl (here (λ same. shorter_differs n.prefix p long (sym same)) q at)
      | inr below ↦ elim below [
        | inl left ↦ inr left
        | inr right ↦ inl (in_one q right (inr early))
      ]
    ]

    pub late_only : n.prefix.len < p.len → middle n.prefix ≤ p.address → (q : ℕ) → Contains (indices_at nodes index) q
        → IfSome (slice_get nodes q) (λ m. m.prefix ≢ p) ⊎ Contains (indices_at nodes n.one) q
    late_only long late q inside = elim (parted q inside) [
      | inl at ↦ inl (here (λ same. shorter_differs n.prefix p long (sym same)) q at)
      | inr below ↦ elim below [
        | inl left ↦ inl (in_zero q left (inr late))
        | inr right ↦ inr right
      ]
    ]
