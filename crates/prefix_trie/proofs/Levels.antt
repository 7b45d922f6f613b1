-- What stands at the indices of a trie, on however many levels.
use Rattle.std.proofs.Common.{◌≡◌, ℕ, zero, suc, ◌+◌, ◌-◌, ◌≤◌, ◌<◌, List, [], ◌∷◌, ◌++◌, Option, Some, None, refl, sym, ap, subst, ◌∙◌, arith, slice_get}
use Rattle.std.specs.Prelude.{IfSome, IfNone, option_map, unwrap_or}
use Rattle.std.specs.List.{Contains}
use Rattle.std.proofs.lemmas.List.Elements.{Contains-append_left, Contains-append_right}
use Rattle.bgp_types.specs.Prefixes.{PrefixValue}
use Rattle.prefix_trie.specs.Halves.{middle, past, Within}
use Rattle.prefix_trie.specs.Nodes.{own}
use Rattle.prefix_trie.specs.declared.node.Node.{Node}
use Rattle.prefix_trie.specs.Arena.{nowhere, value_at, entries_over, indices_over, entries_at, indices_at, IsBranching, IsTrieOver, IsTrieAt}

-- What a levels have from an index down, b levels have too.
record Counted {V : Type 0} (nodes : List Node) (values : List (Option V)) (a b index : ℕ) : Type 0 where
  pub entries : entries_over nodes values b index ≡ entries_over nodes values a index
  pub indices : indices_over nodes b index ≡ indices_over nodes a index
  pub trie : IsTrieOver nodes b index

module _ (nodes : List Node) where
  -- ---- an index without a node

  no_indices_over : (levels index : ℕ) → slice_get nodes index ≡ None → indices_over nodes levels index ≡ []
  unfolding indices_over
  no_indices_over zero index none = refl
  no_indices_over (suc k) index none =
      ap (λ (o : Option Node). unwrap_or (option_map (λ n. index ∷ (indices_over nodes k n.zero ++ indices_over nodes k n.one)) o) []) none

  empty_over : (levels index : ℕ) → slice_get nodes index ≡ None → index ≡ nowhere → IsTrieOver nodes levels index
  unfolding IsTrieOver
  empty_over zero index none empty = (none, empty)
  empty_over (suc k) index none empty = (
    subst (λ (o : Option Node). IfNone o (index ≡ nowhere)) (sym none) empty,
    subst (λ (o : Option Node). IfSome o (λ n. IsBranching nodes n × IsTrieOver nodes k n.zero × IsTrieOver nodes k n.one)) (sym none) tt,
  )

  nowhere_over : (levels index : ℕ) → slice_get nodes index ≡ None → IsTrieOver nodes levels index → index ≡ nowhere
  unfolding IsTrieOver
  nowhere_over zero index none trie = trie.1
  nowhere_over (suc k) index none trie = subst (λ (o : Option Node). IfNone o (index ≡ nowhere)) none trie.0

  -- ---- a node

  indices_node : (k index : ℕ) (n : Node) → slice_get nodes index ≡ Some n
      → indices_over nodes (suc k) index ≡ index ∷ (indices_over nodes k n.zero ++ indices_over nodes k n.one)
  unfolding indices_over
  indices_node k index n there =
      ap (λ (o : Option Node). unwrap_or (option_map (λ n. index ∷ (indices_over nodes k n.zero ++ indices_over nodes k n.one)) o) []) there

  parts_of : (k index : ℕ) (n : Node) → slice_get nodes index ≡ Some n → IsTrieOver nodes (suc k) index
      → IsBranching nodes n × IsTrieOver nodes k n.zero × IsTrieOver nodes k n.one
  unfolding IsTrieOver
  parts_of k index n there trie =
      subst (λ (o : Option Node). IfSome o (λ n. IsBranching nodes n × IsTrieOver nodes k n.zero × IsTrieOver nodes k n.one)) there trie.1

  trie_node : (k index : ℕ) (n : Node) → slice_get nodes index ≡ Some n → IsBranching nodes n → IsTrieOver nodes k n.zero → IsTrieOver nodes k n.one
      → IsTrieOver nodes (suc k) index
  unfolding IsTrieOver
  trie_node k index n there branching zeros ones = (
    subst (λ (o : Option Node). IfNone o (index ≡ nowhere)) (sym there) tt,
    subst (λ (o : Option Node). IfSome o (λ n. IsBranching nodes n × IsTrieOver nodes k n.zero × IsTrieOver nodes k n.one))
        (sym there) (branching, zeros, ones),
  )

  -- no node stands on no level
  none_over_zero : (index : ℕ) → IsTrieOver nodes zero index → slice_get nodes index ≡ None
  unfolding IsTrieOver
  none_over_zero index trie = trie.0

module _ {V : Type 0} (nodes : List Node) (values : List (Option V)) where
  no_entries_over : (levels index : ℕ) → slice_get nodes index ≡ None → entries_over nodes values levels index ≡ []
  unfolding entries_over
  no_entries_over zero index none = refl
  no_entries_over (suc k) index none = ap (λ (o : Option Node). unwrap_or
      (option_map (λ n. own n.prefix (value_at values index) ++ (entries_over nodes values k n.zero ++ entries_over nodes values k n.one)) o) []) none

  entries_node : (k index : ℕ) (n : Node) → slice_get nodes index ≡ Some n
      → entries_over nodes values (suc k) index
      ≡ own n.prefix (value_at values index) ++ (entries_over nodes values k n.zero ++ entries_over nodes values k n.one)
  unfolding entries_over
  entries_node k index n there = ap (λ (o : Option Node). unwrap_or
      (option_map (λ n. own n.prefix (value_at values index) ++ (entries_over nodes values k n.zero ++ entries_over nodes values k n.one)) o) []) there

  -- ---- more or fewer levels

  none_counted : (a b index : ℕ) → slice_get nodes index ≡ None → index ≡ nowhere → Counted nodes values a b index
  none_counted a b index none empty = record {
    entries = no_entries_over b index none ∙ sym (no_entries_over a index none);
    indices = no_indices_over nodes b index none ∙ sym (no_indices_over nodes a index none);
    trie = empty_over nodes b index none empty;
  }

  node_counted : (a b index : ℕ) (n : Node) → slice_get nodes index ≡ Some n → IsTrieOver nodes (suc a) index → Counted nodes values a b n.zero
      → Counted nodes values a b n.one → Counted nodes values (suc a) (suc b) index
  node_counted a b index n there trie zeros ones =
      let has : List (PrefixValue × V) → List (PrefixValue × V) → List (PrefixValue × V) = λ zs os. own n.prefix (value_at values index) ++ (zs ++ os) in
      record {
        entries = entries_node b index n there
            ∙ (ap (λ (xs : List (PrefixValue × V)). has xs (entries_over nodes values b n.one)) zeros.entries
            ∙ (ap (λ (xs : List (PrefixValue × V)). has (entries_over nodes values a n.zero) xs) ones.entries
            ∙ sym (entries_node a index n there)));
        indices = indices_node nodes b index n there
            ∙ (ap (λ (xs : List ℕ). index ∷ (xs ++ indices_over nodes b n.one)) zeros.indices
            ∙ (ap (λ (xs : List ℕ). index ∷ (indices_over nodes a n.zero ++ xs)) ones.indices
            ∙ sym (indices_node nodes a index n there)));
        trie = trie_node nodes b index n there (parts_of nodes a index n there trie).0 zeros.trie ones.trie;
      }

  -- One level more may be counted.
  grown : (k index : ℕ) → IsTrieOver nodes k index → Counted nodes values k (suc k) index
  grown zero index trie = let none = none_over_zero nodes index trie in none_counted zero 1 index none (nowhere_over nodes zero index none trie)
  grown (suc k) index trie = by_node (λ p trie. grown k p trie) (slice_get nodes index) refl where
    by_node : ((p : ℕ) → IsTrieOver nodes k p → Counted nodes values k (suc k) p) → (o : Option Node) → slice_get nodes index ≡ o
        → Counted nodes values (suc k) (suc (suc k)) index
    by_node recur None is = none_counted (suc k) (suc (suc k)) index is (nowhere_over nodes (suc k) index is trie)
    by_node recur (Some n) is =
        let parts = parts_of nodes k index n is trie in node_counted k (suc k) index n is trie (recur n.zero parts.1) (recur n.one parts.2)

  still_deep : (low high len k : ℕ) (o : Option Node) → 33 ≤ len + suc k → IfSome o (λ m. Within low high len m.prefix) → IfSome o (λ m. 33 ≤ m.prefix.len + k)
  still_deep low high len k None long below = tt
  still_deep low high len k (Some m) long below = let longer = below.longer in omega arith

  -- One level fewer is counted where the first prefix is so long that no node stands on the last.
  trimmed : (k index : ℕ) → IfSome (slice_get nodes index) (λ n. 33 ≤ n.prefix.len + k) → IsTrieOver nodes (suc k) index → Counted nodes values (suc k) k index
  trimmed zero index deep trie = by_node (slice_get nodes index) refl where
    by_node : (o : Option Node) → slice_get nodes index ≡ o → Counted nodes values 1 zero index
    by_node None is = none_counted 1 zero index is (nowhere_over nodes 1 index is trie)
    by_node (Some n) is =
        let long : 33 ≤ n.prefix.len + zero = subst (λ (o : Option Node). IfSome o (λ n. 33 ≤ n.prefix.len + zero)) is deep in
        let short = (parts_of nodes zero index n is trie).0.is.len in
        absurd (omega (arith, long, short))
  trimmed (suc k) index deep trie = by_node (λ p deep trie. trimmed k p deep trie) (slice_get nodes index) refl where
    by_node : ((p : ℕ) → IfSome (slice_get nodes p) (λ n. 33 ≤ n.prefix.len + k) → IsTrieOver nodes (suc k) p → Counted nodes values (suc k) k p)
        → (o : Option Node) → slice_get nodes index ≡ o → Counted nodes values (suc (suc k)) (suc k) index
    by_node recur None is = none_counted (suc (suc k)) (suc k) index is (nowhere_over nodes (suc (suc k)) index is trie)
    by_node recur (Some n) is =
        let parts = parts_of nodes (suc k) index n is trie in
        let long : 33 ≤ n.prefix.len + suc k = subst (λ (o : Option Node). IfSome o (λ n. 33 ≤ n.prefix.len + suc k)) is deep in
        node_counted (suc k) k index n is trie
        (recur n.zero (still_deep n.prefix.address (middle n.prefix) n.prefix.len k (slice_get nodes n.zero) long parts.0.zero) parts.1)
        (recur n.one (still_deep (middle n.prefix) (past n.prefix) n.prefix.len k (slice_get nodes n.one) long parts.0.one) parts.2)

  enough : (o : Option Node) → IfSome o (λ n. 33 ≤ n.prefix.len + 33)
  enough None = tt
  enough (Some n) = omega arith

  -- So 33 levels have what 34 have.
  fewer : (index : ℕ) → IsTrieAt nodes index → Counted nodes values (suc 33) 33 index
  fewer index trie = trimmed 33 index (enough (slice_get nodes index)) trie

-- ---- all levels

-- A node stands at an index: the indices from there on, and what the trie promises of its branches.
pub record AtNode (nodes : List Node) (index : ℕ) (n : Node) : Type 0 where
  pub there : slice_get nodes index ≡ Some n
  pub branching : IsBranching nodes n
  pub zero_below : IsTrieAt nodes n.zero
  pub one_below : IsTrieAt nodes n.one
  pub indices : indices_at nodes index ≡ index ∷ (indices_at nodes n.zero ++ indices_at nodes n.one)
  pub here : Contains (indices_at nodes index) index
  pub below : (q : ℕ) → Contains (indices_at nodes n.zero ++ indices_at nodes n.one) q → Contains (indices_at nodes index) q

-- what is left from an index down: each length that a prefix can still have
abbrev left_of : Option Node → ℕ
left_of None = 0
left_of (Some n) = 33 - n.prefix.len

abbrev pub left : List Node → ℕ → ℕ
left nodes index = left_of (slice_get nodes index)

module _ (nodes : List Node) where
  pub no_indices : (index : ℕ) → slice_get nodes index ≡ None → indices_at nodes index ≡ []
  no_indices index none = no_indices_over nodes 34 index none

  pub empty_trie : (index : ℕ) → slice_get nodes index ≡ None → index ≡ nowhere → IsTrieAt nodes index
  empty_trie index none empty = empty_over nodes 34 index none empty

  pub nowhere_is : (index : ℕ) → slice_get nodes index ≡ None → IsTrieAt nodes index → index ≡ nowhere
  nowhere_is index none trie = nowhere_over nodes 34 index none trie

  -- a node over two tries
  pub node_trie : (index : ℕ) (n : Node) → slice_get nodes index ≡ Some n → IsBranching nodes n → IsTrieAt nodes n.zero → IsTrieAt nodes n.one
      → IsTrieAt nodes index
  node_trie index n there branching zeros ones =
      trie_node nodes 33 index n there branching (fewer {V = ℕ} nodes [] n.zero zeros).trie (fewer {V = ℕ} nodes [] n.one ones).trie

  pub at_node : (index : ℕ) (n : Node) → slice_get nodes index ≡ Some n → IsTrieAt nodes index → AtNode nodes index n
  at_node index n there trie =
      let parts = parts_of nodes 33 index n there trie in
      let zeros = grown {V = ℕ} nodes [] 33 n.zero parts.1 in
      let ones = grown {V = ℕ} nodes [] 33 n.one parts.2 in
      let listed : indices_at nodes index ≡ index ∷ (indices_at nodes n.zero ++ indices_at nodes n.one) = indices_node nodes 33 index n there
      ∙ (ap (λ (xs : List ℕ). index ∷ (xs ++ indices_over nodes 33 n.one)) (sym zeros.indices)
      ∙ ap (λ (xs : List ℕ). index ∷ (indices_at nodes n.zero ++ xs)) (sym ones.indices)) in
      record {
        there = there;
        branching = parts.0;
        zero_below = zeros.trie;
        one_below = ones.trie;
        indices = listed;
        here = subst (λ (ps : List ℕ). Contains ps index) (sym listed) (0, omega arith, refl);
        below = λ q inside. subst (λ (ps : List ℕ). Contains ps q) (sym listed)
            (Contains-append_right (index ∷ []) (indices_at nodes n.zero ++ indices_at nodes n.one) q inside);
      }

  pub in_zero : (index : ℕ) (n : Node) → AtNode nodes index n → (q : ℕ) → Contains (indices_at nodes n.zero) q → Contains (indices_at nodes index) q
  in_zero index n at q inside = at.below q (Contains-append_left (indices_at nodes n.zero) (indices_at nodes n.one) q inside)

  pub in_one : (index : ℕ) (n : Node) → AtNode nodes index n → (q : ℕ) → Contains (indices_at nodes n.one) q → Contains (indices_at nodes index) q
  in_one index n at q inside = at.below q (Contains-append_right (indices_at nodes n.zero) (indices_at nodes n.one) q inside)

  less_of : (low high len : ℕ) (o : Option Node) → len ≤ 32 → IfSome o (λ m. Within low high len m.prefix) → left_of o < 33 - len
  less_of low high len None short below = omega arith
  less_of low high len (Some m) short below = let longer = below.longer in omega arith

  -- less is left below a node
  pub zero_less : (index : ℕ) (n : Node) → slice_get nodes index ≡ Some n → IsTrieAt nodes index → left nodes n.zero < left nodes index
  zero_less index n there trie =
      let branching = (at_node index n there trie).branching in
      subst (λ (o : Option Node). left nodes n.zero < left_of o) (sym there)
      (less_of n.prefix.address (middle n.prefix) n.prefix.len (slice_get nodes n.zero) branching.is.len branching.zero)

  pub one_less : (index : ℕ) (n : Node) → slice_get nodes index ≡ Some n → IsTrieAt nodes index → left nodes n.one < left nodes index
  one_less index n there trie =
      let branching = (at_node index n there trie).branching in
      subst (λ (o : Option Node). left nodes n.one < left_of o) (sym there)
      (less_of (middle n.prefix) (past n.prefix) n.prefix.len (slice_get nodes n.one) branching.is.len branching.one)

  -- What holds where there is no node, and at a node of whose branches it holds, holds at each index of a trie.
  module _ (P : ℕ → Type 0) (none : (index : ℕ) → slice_get nodes index ≡ None → index ≡ nowhere → P index)
      (node : (index : ℕ) (n : Node) → AtNode nodes index n → P n.zero → P n.one → P index) where
    down : (k index : ℕ) → left nodes index < k → IsTrieAt nodes index → P index
    down zero index less trie = absurd (omega (arith, less))
    down (suc k) index less trie = by_node (λ p less trie. down k p less trie) (slice_get nodes index) refl where
      by_node : ((p : ℕ) → left nodes p < k → IsTrieAt nodes p → P p) → (o : Option Node) → slice_get nodes index ≡ o → P index
      by_node recur None is = none index is (nowhere_is index is trie)
      by_node recur (Some n) is =
          let at = at_node index n is trie in
          let zeros = zero_less index n is trie in
          let ones = one_less index n is trie in
          node index n at (recur n.zero (omega (arith, less, zeros)) at.zero_below) (recur n.one (omega (arith, less, ones)) at.one_below)

    pub by_trie : (index : ℕ) → IsTrieAt nodes index → P index
    by_trie index trie = down (suc (left nodes index)) index (omega arith) trie

module _ {V : Type 0} (nodes : List Node) (values : List (Option V)) where
  -- no node stands at an index without one
  pub none_at : (index : ℕ) → slice_get nodes index ≡ None → entries_at nodes values index ≡ []
  none_at index none = no_entries_over nodes values 34 index none

  -- the entries from an index on which a node stands
  pub node_entries : (index : ℕ) (n : Node) → AtNode nodes index n
      → entries_at nodes values index ≡ own n.prefix (value_at values index) ++ (entries_at nodes values n.zero ++ entries_at nodes values n.one)
  node_entries index n at =
      entries_node nodes values 33 index n at.there
      ∙ (ap (λ (xs : List (PrefixValue × V)). own n.prefix (value_at values index) ++ (xs ++ entries_over nodes values 33 n.one))
      (fewer nodes values n.zero at.zero_below).entries
      ∙ ap (λ (xs : List (PrefixValue × V)). own n.prefix (value_at values index) ++ (entries_at nodes values n.zero ++ xs))
      (fewer nodes values n.one at.one_below).entries)
