-- What stands at an index of a node.
use Rattle.std.proofs.Common.{◌≡◌, ℕ, ◌<◌, length, inl, inr, Bool, true, false, List, ◌++◌, map, is_some}
use Rattle.std.proofs.Common.{Option, Some, None, refl, sym, ap, subst, ◌∙◌, arith, slice_get}
use Rattle.std.specs.Prelude.{IfSome}
use Rattle.std.specs.List.{Contains, AllByRecursion}
use Rattle.std.proofs.lemmas.List.Elements.{Contains-append_cases}
use Rattle.std.proofs.lemmas.Option.{same_Some, slice_get_within}
use Rattle.bgp_types.specs.Prefixes.{PrefixValue}
use Rattle.bgp_types.specs.Tables.{first_above}
use Rattle.prefix_trie.specs.Halves.{middle, past, Within}
use Rattle.prefix_trie.specs.Nodes.{own, IsNode}
use Rattle.prefix_trie.proofs.Halves.{middle_le_past}
use Rattle.prefix_trie.proofs.Nodes.{every, every_both}
use Rattle.prefix_trie.specs.declared.node.Node.{Node}
use Rattle.prefix_trie.specs.Arena.{nowhere, value_at, entries_at, indices_at, IsBranching, IsTrieAt}
use Rattle.prefix_trie.proofs.Apart.{first_or_rest, in_none}
use Rattle.prefix_trie.proofs.Levels.{AtNode, at_node, by_trie, no_indices, none_at, node_entries}

-- a prefix with its value, if it has one
pub alone : {V : Type 0} (P : PrefixValue → Type 0) (p : PrefixValue) (o : Option V) → P p → AllByRecursion (λ e. P e.0) (own p o)
alone P p None h = tt
alone P p (Some v) h = (h, tt)

-- ---- what stands from an index down lies where the prefix at the index lies

module _ (nodes : List Node) (n : Node) (branching : IsBranching nodes n) (low high len : ℕ) (w : Within low high len n.prefix) (q : PrefixValue) where
  pub early_lies : Within n.prefix.address (middle n.prefix) n.prefix.len q → Within low high len q
  early_lies u =
      let le = middle_le_past n.prefix branching.is.len in
      let from = w.from in
      let to = w.to in
      let long = w.longer in
      let a = u.longer in
      let b = u.from in
      let c = u.to in
      record { is = u.is; longer = omega arith; from = omega arith; to = omega arith }

  pub late_lies : Within (middle n.prefix) (past n.prefix) n.prefix.len q → Within low high len q
  late_lies u =
      let from = w.from in
      let to = w.to in
      let long = w.longer in
      let a = u.longer in
      let b = u.from in
      let c = u.to in
      record { is = u.is; longer = omega arith; from = omega arith; to = omega arith }

-- the entries
module _ {V : Type 0} (nodes : List Node) (values : List (Option V)) where
  abbrev AreWithin : ℕ → Type 0
  AreWithin index = (low high len : ℕ) → IfSome (slice_get nodes index) (λ m. Within low high len m.prefix)
      → AllByRecursion (λ e. Within low high len e.0) (entries_at nodes values index)

  none_within : (index : ℕ) → slice_get nodes index ≡ None → index ≡ nowhere → AreWithin index
  none_within index is empty low high len within =
      subst (λ (es : List (PrefixValue × V)). AllByRecursion (λ e. Within low high len e.0) es) (sym (none_at nodes values index is)) tt

  node_within : (index : ℕ) (n : Node) → AtNode nodes index n → AreWithin n.zero → AreWithin n.one → AreWithin index
  node_within index n at zeros ones low high len within =
      let w = subst (λ (o : Option Node). IfSome o (λ m. Within low high len m.prefix)) at.there within in
      let P = Within low high len in
      let branching = at.branching in
      subst (λ (es : List (PrefixValue × V)). AllByRecursion (λ e. P e.0) es) (sym (node_entries nodes values index n at))
      (every_both P (own n.prefix (value_at values index))
      (entries_at nodes values n.zero ++ entries_at nodes values n.one) (alone P n.prefix (value_at values index) w)
      (every_both P (entries_at nodes values n.zero) (entries_at nodes values n.one)
      (every (Within n.prefix.address (middle n.prefix) n.prefix.len) P (entries_at nodes values n.zero)
      (early_lies nodes n branching low high len w) (zeros n.prefix.address (middle n.prefix) n.prefix.len branching.zero))
      (every (Within (middle n.prefix) (past n.prefix) n.prefix.len) P (entries_at nodes values n.one)
      (late_lies nodes n branching low high len w) (ones (middle n.prefix) (past n.prefix) n.prefix.len branching.one))))

  pub all_within : (index : ℕ) → IsTrieAt nodes index → (low high len : ℕ) → IfSome (slice_get nodes index) (λ m. Within low high len m.prefix)
      → AllByRecursion (λ e. Within low high len e.0) (entries_at nodes values index)
  all_within = by_trie nodes AreWithin none_within node_within

-- the nodes
module _ (nodes : List Node) (q : ℕ) (held : Node) (named : slice_get nodes q ≡ Some held) where
  abbrev IsWithin : ℕ → Type 0
  IsWithin index = (low high len : ℕ) → IfSome (slice_get nodes index) (λ m. Within low high len m.prefix) → Contains (indices_at nodes index) q
      → Within low high len held.prefix

  none_holds : (index : ℕ) → slice_get nodes index ≡ None → index ≡ nowhere → IsWithin index
  none_holds index is empty low high len within inside = absurd (in_none q (subst (λ (ps : List ℕ). Contains ps q) (no_indices nodes index is) inside))

  node_holds : (index : ℕ) (n : Node) → AtNode nodes index n → IsWithin n.zero → IsWithin n.one → IsWithin index
  node_holds index n at zeros ones low high len within inside =
      let Z = indices_at nodes n.zero in
      let O = indices_at nodes n.one in
      let w = subst (λ (o : Option Node). IfSome o (λ m. Within low high len m.prefix)) at.there within in
      let branching = at.branching in
      elim (first_or_rest index (Z ++ O) q (subst (λ (ps : List ℕ). Contains ps q) at.indices inside)) [
        | inl here ↦ subst (λ (m : Node). Within low high len m.prefix) (same_Some n held (sym at.there ∙ (ap (slice_get nodes) (sym here) ∙ named))) w
        | inr below ↦ elim (Contains-append_cases Z O q below) [
          | inl left ↦ early_lies nodes n branching low high len w held.prefix (zeros n.prefix.address (middle n.prefix) n.prefix.len branching.zero left)
          | inr right ↦ late_lies nodes n branching low high len w held.prefix (ones (middle n.prefix) (past n.prefix) n.prefix.len branching.one right)
        ]
      ]

  pub index_within : (index : ℕ) → IsTrieAt nodes index → (low high len : ℕ) → IfSome (slice_get nodes index) (λ m. Within low high len m.prefix)
      → Contains (indices_at nodes index) q → Within low high len held.prefix
  index_within = by_trie nodes IsWithin none_holds node_holds

-- ---- a node

-- the entries from an index on which a node stands, and what the trie promises of it
pub record AtIndex {V : Type 0} (nodes : List Node) (values : List (Option V)) (index : ℕ) (n : Node) : Type 0 where
  pub at : AtNode nodes index n
  pub is : entries_at nodes values index ≡ own n.prefix (value_at values index) ++ (entries_at nodes values n.zero ++ entries_at nodes values n.one)
  pub node : IsNode n.prefix (entries_at nodes values n.zero) (entries_at nodes values n.one)

-- the prefixes below a node stand in its two halves
pub halves_of : {V : Type 0} (nodes : List Node) (values : List (Option V)) (index : ℕ) (n : Node) → AtNode nodes index n
    → IsNode n.prefix (entries_at nodes values n.zero) (entries_at nodes values n.one)
halves_of nodes values index n at = record {
  is = at.branching.is;
  zeros = all_within nodes values n.zero at.zero_below n.prefix.address (middle n.prefix) n.prefix.len at.branching.zero;
  ones = all_within nodes values n.one at.one_below (middle n.prefix) (past n.prefix) n.prefix.len at.branching.one;
}

pub at_index : {V : Type 0} (nodes : List Node) (values : List (Option V)) (index : ℕ) (n : Node) → slice_get nodes index ≡ Some n
    → IsTrieAt nodes index → AtIndex nodes values index n
at_index nodes values index n there trie =
    let at = at_node nodes index n there trie in
    record { at = at; is = node_entries nodes values index n at; node = halves_of nodes values index n at }

-- a value that stands at an index is the first from there on
pub first_own : {V : Type 0} (p : PrefixValue) (o : Option V) (zs os : List (PrefixValue × V)) → is_some o ≡ true
    → first_above None (map (λ e. e.0) (own p o ++ (zs ++ os))) ≡ Some p
first_own p None zs os is = absurd (let e : ◌≡◌ {A = Bool} false true = is in cc)
first_own p (Some v) zs os is = refl

-- the indices of nodes are in their list
module _ (nodes : List Node) (q : ℕ) where
  abbrev AreIn : ℕ → Type 0
  AreIn index = Contains (indices_at nodes index) q → q < length nodes

  none_in : (index : ℕ) → slice_get nodes index ≡ None → index ≡ nowhere → AreIn index
  none_in index is empty inside = absurd (in_none q (subst (λ (ps : List ℕ). Contains ps q) (no_indices nodes index is) inside))

  node_in : (index : ℕ) (n : Node) → AtNode nodes index n → AreIn n.zero → AreIn n.one → AreIn index
  node_in index n at zeros ones inside =
      elim (first_or_rest index (indices_at nodes n.zero ++ indices_at nodes n.one) q (subst (λ (ps : List ℕ). Contains ps q) at.indices inside)) [
        | inl here ↦ slice_get_within nodes q n (ap (slice_get nodes) here ∙ at.there)
        | inr below ↦ elim (Contains-append_cases (indices_at nodes n.zero) (indices_at nodes n.one) q below) [
          | inl left ↦ zeros left
          | inr right ↦ ones right
        ]
      ]

  pub indices_in : (index : ℕ) → IsTrieAt nodes index → Contains (indices_at nodes index) q → q < length nodes
  indices_in = by_trie nodes AreIn none_in node_in
