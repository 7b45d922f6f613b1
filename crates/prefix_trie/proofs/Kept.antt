-- The way to where a node belongs stays, where only the node at its end becomes another, and where there are more nodes.
use Rattle.std.proofs.Common.{◌≡◌, ◌≢◌, ℕ, zero, suc, ◌≤◌, ◌<◌, List, ◌∷◌, ◌++◌, length, Option, Some, None, sym, subst, ◌∙◌, arith, slice_get, inl, inr, refl}
use Rattle.std.specs.Prelude.{IfSome}
use Rattle.std.specs.List.{Contains}
use Rattle.std.proofs.lemmas.List.Elements.{Contains-append_left, Contains-append_right}
use Rattle.std.proofs.lemmas.Option.{slice_get_within, slice_get_past}
use Rattle.bgp_types.specs.Prefixes.{PrefixValue}
use Rattle.prefix_trie.specs.declared.node.Node.{Node}
use Rattle.prefix_trie.specs.declared.tree.Tree.{Tree}
use Rattle.prefix_trie.specs.Arena.{nowhere, indices_at, AreApart, IsTrieAt, IsUnder, Leads}
use Rattle.prefix_trie.specs.Adding.{IsBelow, IsWay, IsSpot}
use Rattle.prefix_trie.specs.Trees.{IsTrie, IsGrown}
use Rattle.prefix_trie.proofs.Apart.{left_apart, right_apart}
use Rattle.prefix_trie.proofs.Levels.{AtNode, at_node, nowhere_is}
use Rattle.prefix_trie.proofs.Relinked.{all_apart}
use Rattle.prefix_trie.proofs.Standing.{leads_indices, leads_trie, way_leads}

-- No index from there on stands twice.
leads_apart : (nodes : List Node) (steps index q : ℕ) → IsTrieAt nodes index → Leads nodes steps index q → AreApart (indices_at nodes index)
    → AreApart (indices_at nodes q)
unfolding Leads
leads_apart nodes zero index q trie lead apart = subst (λ (at : ℕ). AreApart (indices_at nodes at)) (sym lead) apart
leads_apart nodes (suc k) index q trie lead apart =
    let n = lead.0 in
    let at = at_node nodes index n lead.1 trie in
    let all = all_apart nodes index n at apart in
    elim lead.2 [
      | inl left ↦ leads_apart nodes k n.zero q at.zero_below left (left_apart (indices_at nodes n.zero) (indices_at nodes n.one) all.1)
      | inr right ↦ leads_apart nodes k n.one q at.one_below right (right_apart (indices_at nodes n.zero) (indices_at nodes n.one) all.1)
    ]

-- What branches lead to an index still does, where only a node from there down becomes another.
leads_kept : (nodes fs : List Node) (at : ℕ) → ((r : ℕ) → r ≢ at → slice_get fs r ≡ slice_get nodes r) → (steps index q : ℕ) → IsTrieAt nodes index
    → AreApart (indices_at nodes index) → Contains (indices_at nodes q) at → Leads nodes steps index q → Leads fs steps index q
unfolding Leads
leads_kept nodes fs at others zero index q trie apart inside lead = lead
leads_kept nodes fs at others (suc k) index q trie apart inside lead =
    let n = lead.0 in
    let node = at_node nodes index n lead.1 trie in
    let Z = indices_at nodes n.zero in
    let O = indices_at nodes n.one in
    let all : AreApart (index ∷ (Z ++ O)) = all_apart nodes index n node apart in
    let still : Contains (Z ++ O) at → slice_get fs index ≡ Some n = λ i. others index (λ e. all.0 (subst (Contains (Z ++ O)) (sym e) i)) ∙ lead.1 in
    elim lead.2 [
      | inl left ↦ (
        n,
        still (Contains-append_left Z O at (leads_indices nodes k n.zero q at node.zero_below left inside)),
        inl (leads_kept nodes fs at others k n.zero q node.zero_below (left_apart Z O all.1) inside left),
      )
      | inr right ↦ (
        n,
        still (Contains-append_right Z O at (leads_indices nodes k n.one q at node.one_below right inside)),
        inr (leads_kept nodes fs at others k n.one q node.one_below (right_apart Z O all.1) inside right),
      )
    ]

-- The way to a node stays, where only that node becomes another.
module _ (nodes fs : List Node) (root : ℕ) (p : PrefixValue) (above at : ℕ) (n : Node) (there : slice_get nodes at ≡ Some n)
    (trie : IsTrieAt nodes root) (apart : AreApart (indices_at nodes root)) (others : (r : ℕ) → r ≢ at → slice_get fs r ≡ slice_get nodes r) where
  below_kept : IsBelow nodes root p above at → IsBelow fs root p above at
  below_kept b =
      let m = b.node in
      let Z = indices_at nodes m.zero in
      let O = indices_at nodes m.one in
      let node : AtNode nodes above m = at_node nodes above m b.there (leads_trie nodes b.steps root above trie b.on) in
      let all : AreApart (above ∷ (Z ++ O)) = all_apart nodes above m node (leads_apart nodes b.steps root above trie b.on apart) in
      let inside : Contains (Z ++ O) at = elim b.side [
        | inl early ↦ Contains-append_left Z O at (subst (λ (x : ℕ). Contains (indices_at nodes x) at) early.1
            (at_node nodes at n there (subst (λ (x : ℕ). IsTrieAt nodes x) (sym early.1) node.zero_below)).here)
        | inr late ↦ Contains-append_right Z O at (subst (λ (x : ℕ). Contains (indices_at nodes x) at) late.1
            (at_node nodes at n there (subst (λ (x : ℕ). IsTrieAt nodes x) (sym late.1) node.one_below)).here)
      ] in
      record {
        node = m;
        there = others above (λ e. all.0 (subst (Contains (Z ++ O)) (sym e) inside)) ∙ b.there;
        steps = b.steps;
        on = leads_kept nodes fs at others b.steps root above trie apart (node.below at inside) b.on;
        under = b.under;
        side = b.side;
      }

  pub way_kept : IsWay nodes root p above at → IsWay fs root p above at
  way_kept way = elim way [
    | inl top ↦ inl top
    | inr b ↦ inr (below_kept b)
  ]

-- Where there are more nodes, what branches lead to an index still does.
leads_grown : (nodes fs : List Node) → ((r : ℕ) → r < length nodes → slice_get fs r ≡ slice_get nodes r) → (steps index q : ℕ)
    → Leads nodes steps index q → Leads fs steps index q
unfolding Leads
leads_grown nodes fs same zero index q lead = lead
leads_grown nodes fs same (suc k) index q lead = (
  lead.0,
  same index (slice_get_within nodes index lead.0 lead.1) ∙ lead.1,
  elim lead.2 [
    | inl left ↦ inl (leads_grown nodes fs same k (lead.0).zero q left)
    | inr right ↦ inr (leads_grown nodes fs same k (lead.0).one q right)
  ],
)

module _ (nodes fs : List Node) (root : ℕ) (p : PrefixValue) (above at : ℕ) (trie : IsTrieAt nodes root)
    (same : (r : ℕ) → r < length nodes → slice_get fs r ≡ slice_get nodes r) (few : length fs ≤ nowhere) (spot : IsSpot nodes root p above at) where
  below_grown : IsBelow nodes root p above at → IsBelow fs root p above at
  below_grown b = record {
    node = b.node;
    there = same above (slice_get_within nodes above b.node b.there) ∙ b.there;
    steps = b.steps;
    on = leads_grown nodes fs same b.steps root above b.on;
    under = b.under;
    side = b.side;
  }

  stop_grown : (o : Option Node) → slice_get nodes at ≡ o → IfSome (slice_get fs at) (λ n. IsUnder n.prefix p → ⊥)
  stop_grown None is =
      let lead = way_leads nodes root p above at spot.way in
      let empty : at ≡ nowhere = nowhere_is nodes at is (leads_trie nodes lead.0 root at trie lead.1) in
      subst (λ (o : Option Node). IfSome o (λ n. IsUnder n.prefix p → ⊥)) (sym (slice_get_past fs at (omega (arith, few, empty)))) tt
  stop_grown (Some n) is = subst (λ (o : Option Node). IfSome o (λ n. IsUnder n.prefix p → ⊥)) (sym (same at (slice_get_within nodes at n is))) spot.stop

  spot_grown_here : IsSpot fs root p above at
  spot_grown_here = record {
    way = elim spot.way [
      | inl top ↦ inl top
      | inr b ↦ inr (below_grown b)
    ];
    stop = stop_grown (slice_get nodes at) refl;
  }

-- Where a node belongs is where it was, where there are more nodes.
pub spot_grown : {V : Type 0} (t u : Tree V) (p : PrefixValue) (above at : ℕ) → IsTrie t → IsGrown t u → length u.nodes.items ≤ nowhere
    → IsSpot t.nodes.items t.root p above at → IsSpot u.nodes.items u.root p above at
spot_grown t u p above at trie more few spot =
    subst (λ (root : ℕ). IsSpot u.nodes.items root p above at) (sym more.root)
    (spot_grown_here t.nodes.items u.nodes.items t.root p above at trie.trie more.nodes few spot)
