-- What branches lead to from an index down.
use Rattle.std.proofs.Common.{◌≡◌, ◌≢◌, ℕ, zero, suc, ◌≤◌, ◌<◌, Bool, List, length, Some, refl, sym, ap, subst, ◌∙◌, arith, slice_get, inl, inr, ◌⊎◌}
use Rattle.std.specs.List.{Contains}
use Rattle.std.proofs.lemmas.Option.{same_Some}
use Rattle.bgp_types.specs.Prefixes.{PrefixValue, IsPrefix}
use Rattle.prefix_trie.specs.Halves.{middle, past, Within}
use Rattle.prefix_trie.specs.declared.node.Node.{Node}
use Rattle.prefix_trie.specs.Arena.{indices_at, IsTrieAt, IsUnder, Leads}
use Rattle.prefix_trie.specs.Adding.{CanAdd, IsAdded, IsBelow, IsLinked, IsWay}
use Rattle.prefix_trie.proofs.Added.{can_zero, can_one, still_zero, still_one, zero_added, one_added}
use Rattle.prefix_trie.proofs.Halves.{covered_from, covered_to, early_within, ends_within}
use Rattle.prefix_trie.proofs.Levels.{at_node, in_one, in_zero}
use Rattle.prefix_trie.proofs.Indices.{index_within}

module _ (nodes : List Node) where
  -- no branch leads to the index itself
  pub leads_here : (index q : ℕ) → q ≡ index → Leads nodes zero index q
  unfolding Leads
  leads_here index q same = same

  -- one branch more leads to what a node names
  pub leads_on : (steps index q : ℕ) (n : Node) → slice_get nodes q ≡ Some n → (to : ℕ) → (to ≡ n.zero) ⊎ (to ≡ n.one) → Leads nodes steps index q
      → Leads nodes (suc steps) index to
  unfolding Leads
  leads_on zero index q n there to side lead = (n, ap (slice_get nodes) (sym lead) ∙ there, side)
  leads_on (suc k) index q n there to side lead = (
    lead.0,
    lead.1,
    elim lead.2 [
      | inl left ↦ inl (leads_on k (lead.0).zero q n there to side left)
      | inr right ↦ inr (leads_on k (lead.0).one q n there to side right)
    ],
  )

  pub leads_trie : (steps index q : ℕ) → IsTrieAt nodes index → Leads nodes steps index q → IsTrieAt nodes q
  unfolding Leads
  leads_trie zero index q trie lead = subst (λ (at : ℕ). IsTrieAt nodes at) (sym lead) trie
  leads_trie (suc k) index q trie lead =
      let at = at_node nodes index lead.0 lead.1 trie in
      elim lead.2 [
        | inl left ↦ leads_trie k (lead.0).zero q at.zero_below left
        | inr right ↦ leads_trie k (lead.0).one q at.one_below right
      ]

  -- The indices from there on are among all.
  pub leads_indices : (steps index q x : ℕ) → IsTrieAt nodes index → Leads nodes steps index q → Contains (indices_at nodes q) x
      → Contains (indices_at nodes index) x
  unfolding Leads
  leads_indices zero index q x trie lead inside = subst (λ (at : ℕ). Contains (indices_at nodes at) x) lead inside
  leads_indices (suc k) index q x trie lead inside =
      let at = at_node nodes index lead.0 lead.1 trie in
      elim lead.2 [
        | inl left ↦ in_zero nodes index lead.0 at x (leads_indices k (lead.0).zero q x at.zero_below left inside)
        | inr right ↦ in_one nodes index lead.0 at x (leads_indices k (lead.0).one q x at.one_below right inside)
      ]

  -- A node there is among the indices.
  pub leads_among : (steps index q : ℕ) (m : Node) → slice_get nodes q ≡ Some m → IsTrieAt nodes index → Leads nodes steps index q
      → Contains (indices_at nodes index) q
  leads_among steps index q m there trie lead = leads_indices steps index q q trie lead (at_node nodes q m there (leads_trie steps index q trie lead)).here

  pub way_leads : (root : ℕ) (p : PrefixValue) (above at : ℕ) → IsWay nodes root p above at → (steps : ℕ) × Leads nodes steps root at
  way_leads root p above at way = elim way [
    | inl top ↦ (0, leads_here root at top.1)
    | inr b ↦ (suc b.steps, leads_on b.steps root above b.node b.there at (elim b.side [ inl early ↦ inl early.1 | inr late ↦ inr late.1 ]) b.on)
  ]

-- a prefix lies where one lies that it is under
pub under_within : (low high len : ℕ) (at p : PrefixValue) → IsPrefix p → IsUnder at p → Within low high len at → Within low high len p
under_within low high len at p is under w =
    let a = covered_from at p under.0 in
    let c = under.1 in
    let b = ends_within at p w.is is (omega arith) (covered_to at p under.0) in
    let d = w.from in
    let e = w.to in
    let f = w.longer in
    record { is = is; longer = omega arith; from = omega arith; to = omega arith }

module _ (nodes : List Node) (p : PrefixValue) (fresh spare : ℕ) where
  -- What can be added to a trie can be added to a part of it.
  pub can_lead : (steps index q : ℕ) → CanAdd nodes p fresh spare index → Leads nodes steps index q → CanAdd nodes p fresh spare q
  unfolding Leads
  can_lead zero index q can lead = subst (λ (at : ℕ). CanAdd nodes p fresh spare at) (sym lead) can
  can_lead (suc k) index q can lead = elim lead.2 [
    | inl left ↦ can_lead k (lead.0).zero q (can_zero nodes p fresh spare index lead.0 lead.1 can) left
    | inr right ↦ can_lead k (lead.0).one q (can_one nodes p fresh spare index lead.0 lead.1 can) right
  ]

  -- What was added below a node, so that the node names it, was added to the trie.
  module _ (fs : List Node) (forked : Bool) (q : ℕ) (m : Node) (there : slice_get nodes q ≡ Some m)
      (under : IsUnder m.prefix p) (added : IsAdded nodes fs p fresh spare q q forked) where
    lift_added : (steps index : ℕ) → CanAdd nodes p fresh spare index → Leads nodes steps index q → IsAdded nodes fs p fresh spare index index forked
    unfolding Leads
    lift_added zero index can lead = subst (λ (at : ℕ). IsAdded nodes fs p fresh spare at at forked) lead added
    lift_added (suc k) index can lead =
        let n = lead.0 in
        let is = lead.1 in
        let at = at_node nodes index n is can.trie in
        elim lead.2 [
          | inl left ↦
              let a = lift_added k n.zero (can_zero nodes p fresh spare index n is can) left in
              zero_added nodes p fresh spare index n is can fs fs n.zero forked refl
              (λ r e. refl) a (still_zero nodes p fresh spare index n is can fs n.zero forked a)
              (under_within n.prefix.address (middle n.prefix) n.prefix.len m.prefix p can.is under (index_within nodes q m there n.zero at.zero_below
              n.prefix.address (middle n.prefix) n.prefix.len at.branching.zero (leads_among nodes k n.zero q m there at.zero_below left)))
          | inr right ↦
              let a = lift_added k n.one (can_one nodes p fresh spare index n is can) right in
              one_added nodes p fresh spare index n is can fs fs n.one forked refl
              (λ r e. refl) a (still_one nodes p fresh spare index n is can fs n.one forked a)
              (under_within (middle n.prefix) (past n.prefix) n.prefix.len m.prefix p can.is under (index_within nodes q m there n.one at.one_below
              (middle n.prefix) (past n.prefix) n.prefix.len at.branching.one (leads_among nodes k n.one q m there at.one_below right)))
        ]

-- Something was added where p belongs, below a node.
module _ (nodes gs : List Node) (p : PrefixValue) (fresh spare root above at to : ℕ) (forked : Bool)
    (can : CanAdd nodes p fresh spare root) (b : IsBelow nodes root p above at) (added : IsAdded nodes gs p fresh spare at to forked) where
  can_here : CanAdd nodes p fresh spare above
  can_here = can_lead nodes p fresh spare b.steps root above can b.on

  as_zero : at ≡ b.node.zero → IsAdded nodes gs p fresh spare (b.node).zero to forked
  as_zero is = subst (λ (from : ℕ). IsAdded nodes gs p fresh spare from to forked) is added

  as_one : at ≡ b.node.one → IsAdded nodes gs p fresh spare (b.node).one to forked
  as_one is = subst (λ (from : ℕ). IsAdded nodes gs p fresh spare from to forked) is added

  -- the node above is as it was
  pub above_still : slice_get gs above ≡ Some b.node
  above_still = elim b.side [
    | inl early ↦ still_zero nodes p fresh spare above b.node b.there can_here gs to forked (as_zero early.1)
    | inr late ↦ still_one nodes p fresh spare above b.node b.there can_here gs to forked (as_one late.1)
  ]

  prefix_is : IsPrefix (b.node).prefix
  prefix_is = (at_node nodes above b.node b.there can_here.trie).branching.is

  -- What it is once the node names what was added.
  module _ (fs : List Node) (many : length fs ≡ length gs) (others : (r : ℕ) → r ≢ above → slice_get fs r ≡ slice_get gs r) where
    linked_zero : p.address < middle b.node.prefix → slice_get fs above ≡ Some (record { prefix = (b.node).prefix; zero = to; one = (b.node).one })
        → IsAdded nodes fs p fresh spare above above forked
    linked_zero early now = elim b.side [
      | inl side ↦ zero_added nodes p fresh spare above b.node b.there can_here gs fs to forked many others (as_zero side.1) now
          (record {
            is = can.is;
            longer = b.under.1;
            from = covered_from (b.node).prefix p b.under.0;
            to = early_within (b.node).prefix p prefix_is can.is b.under.1 early;
          })
      | inr side ↦ absurd (let late = side.0 in omega (arith, early, late))
    ]

    linked_one : middle b.node.prefix ≤ p.address → slice_get fs above ≡ Some (record { prefix = (b.node).prefix; zero = (b.node).zero; one = to })
        → IsAdded nodes fs p fresh spare above above forked
    linked_one late now = elim b.side [
      | inl side ↦ absurd (let early = side.0 in omega (arith, early, late))
      | inr side ↦ one_added nodes p fresh spare above b.node b.there can_here gs fs to forked many others (as_one side.1) now
          (record {
            is = can.is;
            longer = b.under.1;
            from = late;
            to = ends_within (b.node).prefix p prefix_is can.is (let long = b.under.1 in omega arith) (covered_to (b.node).prefix p b.under.0);
          })
    ]

    pub linked : (m k : Node) → slice_get gs above ≡ Some m → slice_get fs above ≡ Some k → IsLinked m p to k → IsAdded nodes fs p fresh spare root root forked
    linked m k is now link =
        let same : b.node ≡ m = same_Some b.node m (sym above_still ∙ is) in
        lift_added nodes p fresh spare fs forked above b.node b.there b.under (elim (subst (λ (x : Node). IsLinked x p to k) (sym same) link) [
          | inl early ↦ linked_zero early.0 (now ∙ ap Some early.1)
          | inr late ↦ linked_one late.0 (now ∙ ap Some late.1)
        ]) b.steps root can b.on
