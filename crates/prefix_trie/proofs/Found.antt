-- At the spot where a node of a prefix belongs that node stands, or none of that prefix stands anywhere.
use Rattle.std.proofs.Common.{◌≡◌, ◌≢◌, ℕ, zero, suc, ◌≤◌, ◌<◌, List, ◌++◌, Option, Some, None, refl, sym, ap, subst, ◌∙◌, arith, slice_get, inl, inr}
use Rattle.std.specs.Prelude.{IfSome, option_map}
use Rattle.std.specs.List.{Contains, AllByRecursion}
use Rattle.std.specs.FinMap.{find}
use Rattle.std.proofs.lemmas.Bool.{cases_lt}
use Rattle.bgp_types.specs.Prefixes.{PrefixValue, IsPrefix}
use Rattle.bgp_types.specs.Tables.{prefix_cmp}
use Rattle.prefix_trie.specs.Halves.{middle, past, Within}
use Rattle.prefix_trie.specs.Nodes.{own}
use Rattle.prefix_trie.specs.declared.node.Node.{Node}
use Rattle.prefix_trie.specs.Arena.{nowhere, value_at, entries_at, indices_at, HasNone, IsBranching, IsTrieAt, IsUnder, Leads}
use Rattle.prefix_trie.specs.Adding.{IsBelow, IsSpot}
use Rattle.prefix_trie.proofs.Halves.{positive, middle_le_past, covers_in}
use Rattle.prefix_trie.proofs.Nodes.{every_both, find_none, own_apart}
use Rattle.prefix_trie.proofs.Outside.{none_there, none_longer, early_only, late_only}
use Rattle.prefix_trie.proofs.Levels.{AtNode, at_node, by_trie, in_one, in_zero, node_entries, none_at}
use Rattle.prefix_trie.proofs.Indices.{index_within}
use Rattle.prefix_trie.proofs.Standing.{leads_among, leads_trie, under_within, way_leads}

-- ---- a node of the prefix stands at the spot

pub spot_inside : (nodes : List Node) (root : ℕ) (p : PrefixValue) (above at : ℕ) → IsTrieAt nodes root → IsSpot nodes root p above at
    → option_map (λ n. n.prefix) (slice_get nodes at) ≡ Some p → Contains (indices_at nodes root) at
spot_inside nodes root p above at trie spot has = by_node (slice_get nodes at) refl where
  by_node : (o : Option Node) → slice_get nodes at ≡ o → Contains (indices_at nodes root) at
  by_node None is = absurd (let e : None ≡ Some p = sym (ap (option_map (λ (n : Node). n.prefix)) is) ∙ has in cc)
  by_node (Some n) is = let lead = way_leads nodes root p above at spot.way in leads_among nodes lead.0 root at n is trie lead.1

-- ---- no node of the prefix stands at the spot

-- Where p is in a branch of a node, the node covers it.
module _ (nodes : List Node) (index : ℕ) (n : Node) (there : slice_get nodes index ≡ Some n) (trie : IsTrieAt nodes index) (p : PrefixValue) where
  branching : IsBranching nodes n
  branching = (at_node nodes index n there trie).branching

  zero_within : (q : ℕ) (m : Node) → slice_get nodes q ≡ Some m → Contains (indices_at nodes n.zero) q
      → Within n.prefix.address (middle n.prefix) n.prefix.len m.prefix
  zero_within q m named inside = index_within nodes q m named n.zero
      (at_node nodes index n there trie).zero_below n.prefix.address (middle n.prefix) n.prefix.len branching.zero inside

  one_within : (q : ℕ) (m : Node) → slice_get nodes q ≡ Some m → Contains (indices_at nodes n.one) q
      → Within (middle n.prefix) (past n.prefix) n.prefix.len m.prefix
  one_within q m named inside = index_within nodes q m named n.one (at_node nodes index n there trie).one_below
      (middle n.prefix) (past n.prefix) n.prefix.len branching.one inside

  early_under : Within n.prefix.address (middle n.prefix) n.prefix.len p → IsUnder n.prefix p
  early_under w =
      let longer = w.longer in
      let to = w.to in
      let some = positive p in
      let le = middle_le_past n.prefix branching.is.len in
      (covers_in n.prefix p branching.is (omega (arith, longer)) w.from (omega (arith, to, some, le)), longer)

  late_under : Within (middle n.prefix) (past n.prefix) n.prefix.len p → IsUnder n.prefix p
  late_under w =
      let longer = w.longer in
      let from = w.from in
      let to = w.to in
      let some = positive p in
      (covers_in n.prefix p branching.is (omega (arith, longer)) (omega (arith, from)) (omega (arith, to, some)), longer)

  -- none of p where it isn't under the first node
  none_under : n.prefix.len < p.len → (IsUnder n.prefix p → ⊥) → HasNone nodes index p
  none_under long stop q inside = elim (cases_lt p.address (middle n.prefix)) [
    | inl early ↦ elim (early_only nodes index n there trie p long early q inside) [
      | inl off ↦ off
      | inr left ↦ if_some (slice_get nodes q) (λ m. m.prefix ≢ p)
          (λ m named same. stop (early_under (subst (Within n.prefix.address (middle n.prefix) n.prefix.len) same (zero_within q m named left))))
    ]
    | inr late ↦ elim (late_only nodes index n there trie p long late q inside) [
      | inl off ↦ off
      | inr right ↦ if_some (slice_get nodes q) (λ m. m.prefix ≢ p)
          (λ m named same. stop (late_under (subst (Within (middle n.prefix) (past n.prefix) n.prefix.len) same (one_within q m named right))))
    ]
  ]
    where
      if_some : (o : Option Node) (P : Node → Type 0) → ((m : Node) → o ≡ Some m → P m) → IfSome o P
      if_some None P each = tt
      if_some (Some m) P each = each m refl

  -- none of p where none is in the half in which it lies
  pub none_early : n.prefix.len < p.len → p.address < middle n.prefix → HasNone nodes n.zero p → HasNone nodes index p
  none_early long early none q inside = elim (early_only nodes index n there trie p long early q inside) [
    | inl off ↦ off
    | inr left ↦ none q left
  ]

  pub none_late : n.prefix.len < p.len → middle n.prefix ≤ p.address → HasNone nodes n.one p → HasNone nodes index p
  none_late long late none q inside = elim (late_only nodes index n there trie p long late q inside) [
    | inl off ↦ off
    | inr right ↦ none q right
  ]

  -- none of p where it isn't under the first node, nor that node's own
  none_from : n.prefix ≢ p → (IsUnder n.prefix p → ⊥) → HasNone nodes index p
  none_from differ stop = elim (cases_lt n.prefix.len p.len) [
    | inl long ↦ none_under long stop
    | inr short ↦ none_longer nodes index n there trie p differ short
  ]

-- None stands anywhere where none stands from a node down that p is under.
module _ (nodes : List Node) (p : PrefixValue) (is : IsPrefix p) (q : ℕ) (m : Node)
    (there : slice_get nodes q ≡ Some m) (under : IsUnder m.prefix p) (none : HasNone nodes q p) where
  lift_none : (steps index : ℕ) → IsTrieAt nodes index → Leads nodes steps index q → HasNone nodes index p
  unfolding Leads
  lift_none zero index trie lead = subst (λ (at : ℕ). HasNone nodes at p) lead none
  lift_none (suc k) index trie lead =
      let n = lead.0 in
      let held = lead.1 in
      let at = at_node nodes index n held trie in
      elim lead.2 [
        | inl left ↦
            let w = under_within n.prefix.address (middle n.prefix) n.prefix.len m.prefix p is under (index_within nodes q m there n.zero at.zero_below
            n.prefix.address (middle n.prefix) n.prefix.len at.branching.zero (leads_among nodes k n.zero q m there at.zero_below left)) in
            let to = w.to in
            let some = positive p in
            none_early nodes index n held trie p w.longer (omega (arith, to, some)) (lift_none k n.zero at.zero_below left)
        | inr right ↦
            let w = under_within (middle n.prefix) (past n.prefix) n.prefix.len m.prefix p is under (index_within nodes q m there n.one at.one_below
            (middle n.prefix) (past n.prefix) n.prefix.len at.branching.one (leads_among nodes k n.one q m there at.one_below right)) in
            none_late nodes index n held trie p w.longer w.from (lift_none k n.one at.one_below right)
      ]

-- where none stands at the index that a node names for the half of p
below_none : (nodes : List Node) (root : ℕ) (p : PrefixValue) (above at : ℕ) → IsPrefix p → IsTrieAt nodes root → IsBelow nodes root p above at
    → HasNone nodes at p → HasNone nodes root p
below_none nodes root p above at is trie b none =
    let here = leads_trie nodes b.steps root above trie b.on in
    lift_none nodes p is above b.node b.there b.under
    (elim b.side [
      | inl early ↦ none_early nodes above b.node b.there here p b.under.1 early.0 (subst (λ (r : ℕ). HasNone nodes r p) early.1 none)
      | inr late ↦ none_late nodes above b.node b.there here p b.under.1 late.0 (subst (λ (r : ℕ). HasNone nodes r p) late.1 none)
    ])
    b.steps root trie b.on

pub spot_absent : (nodes : List Node) (root : ℕ) (p : PrefixValue) (above at : ℕ) → IsPrefix p → IsTrieAt nodes root → IsSpot nodes root p above at
    → (option_map (λ n. n.prefix) (slice_get nodes at) ≡ Some p → ⊥) → HasNone nodes root p
spot_absent nodes root p above at is trie spot differ = elim spot.way [
  | inl top ↦ subst (λ (r : ℕ). HasNone nodes r p) top.1 here
  | inr b ↦ below_none nodes root p above at is trie b here
]
  where
    by_node : (o : Option Node) → slice_get nodes at ≡ o → HasNone nodes at p
    by_node None none = none_there nodes at p none
    by_node (Some n) there =
        let lead = way_leads nodes root p above at spot.way in
        none_from nodes at n there (leads_trie nodes lead.0 root at trie lead.1) p
        (λ same. differ (ap (option_map (λ (n : Node). n.prefix)) there ∙ ap Some same))
        (subst (λ (o : Option Node). IfSome o (λ n. IsUnder n.prefix p → ⊥)) there spot.stop)

    here : HasNone nodes at p
    here = by_node (slice_get nodes at) refl

-- ---- the value of a prefix without a node

module _ {V : Type 0} (nodes : List Node) (values : List (Option V)) (p : PrefixValue) where
  abbrev Differs : ℕ → Type 0
  Differs index = HasNone nodes index p → AllByRecursion (λ e. p ≢ e.0) (entries_at nodes values index)

  none_differs : (index : ℕ) → slice_get nodes index ≡ None → index ≡ nowhere → Differs index
  none_differs index is empty none = subst (λ (es : List (PrefixValue × V)). AllByRecursion (λ e. p ≢ e.0) es) (sym (none_at nodes values index is)) tt

  node_differs : (index : ℕ) (n : Node) → AtNode nodes index n → Differs n.zero → Differs n.one → Differs index
  node_differs index n at zeros ones none =
      let differ : n.prefix ≢ p = subst (λ (o : Option Node). IfSome o (λ m. m.prefix ≢ p)) at.there (none index at.here) in
      let zs = entries_at nodes values n.zero in
      let os = entries_at nodes values n.one in
      subst (λ (es : List (PrefixValue × V)). AllByRecursion (λ e. p ≢ e.0) es) (sym (node_entries nodes values index n at))
      (every_both (λ x. p ≢ x) (own n.prefix (value_at values index)) (zs ++ os) (own_apart p n.prefix (value_at values index) (λ e. differ (sym e)))
      (every_both (λ x. p ≢ x) zs os (zeros (λ r inside. none r (in_zero nodes index n at r inside)))
      (ones (λ r inside. none r (in_one nodes index n at r inside)))))

  pub none_found : (index : ℕ) → IsTrieAt nodes index → HasNone nodes index p → find prefix_cmp p (entries_at nodes values index) ≡ None
  none_found index trie none = find_none p (entries_at nodes values index) (by_trie nodes Differs none_differs node_differs index trie none)
