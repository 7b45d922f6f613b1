-- What indices are free while nodes go, each with its value.
use Rattle.std.proofs.Common.{◌≡◌, ℕ, zero, suc, ◌≤◌, ◌<◌, Bool, true, false, cond, set, List, [], ◌∷◌, ◌++◌, length}
use Rattle.std.proofs.Common.{Option, None, refl, sym, ap, subst, ◌∙◌, arith, slice_get, inl, inr, ◌⊎◌}
use Rattle.std.specs.List.{Contains}
use Rattle.std.proofs.lemmas.List.Elements.{Contains-append_left, Contains-append_right, Contains-append_cases}
use Rattle.std.proofs.lemmas.Option.{slice_get_past}
use Rattle.prefix_trie.specs.declared.node.Node.{Node}
use Rattle.prefix_trie.specs.declared.tree.Tree.{Tree}
use Rattle.prefix_trie.specs.Arena.{nowhere, value_at, indices_at, AreApart}
use Rattle.prefix_trie.specs.Trees.{entries, IsTrie}
use Rattle.prefix_trie.proofs.Apart.{both_apart, first_or_rest, in_none, left_apart, right_apart, never_both}
use Rattle.prefix_trie.proofs.Levels.{AtNode, empty_trie, no_indices, none_at}
use Rattle.prefix_trie.proofs.Indices.{indices_in}

-- ---- values

-- once none stands at an index
pub none_here : {V : Type 0} (values : List (Option V)) (index : ℕ) → value_at (set values index None) index ≡ None
none_here [] index = refl
none_here (v ∷ values) zero = refl
none_here (v ∷ values) (suc i) = none_here values i

pub none_still : {V : Type 0} (values : List (Option V)) (index q : ℕ) → value_at values q ≡ None → value_at (set values index None) q ≡ None
none_still [] index q none = refl
none_still (v ∷ values) zero zero none = refl
none_still (v ∷ values) zero (suc j) none = none
none_still (v ∷ values) (suc i) zero none = none
none_still (v ∷ values) (suc i) (suc j) none = none_still values i j none

-- ---- indices

-- An index is added to a list, where there is room.
pub added_among : (b : Bool) (free fs : List ℕ) (index : ℕ) → fs ≡ cond b (free ++ index ∷ []) free → (q : ℕ) → Contains fs q → Contains free q ⊎ (q ≡ index)
added_among true free fs index is q inside = elim (Contains-append_cases free (index ∷ []) q (subst (λ (ps : List ℕ). Contains ps q) is inside)) [
  | inl old ↦ inl old
  | inr new ↦ elim (first_or_rest index [] q new) [
    | inl at ↦ inr at
    | inr none ↦ absurd (in_none q none)
  ]
]
added_among false free fs index is q inside = inl (subst (λ (ps : List ℕ). Contains ps q) is inside)

pub added_apart : (b : Bool) (free fs : List ℕ) (index : ℕ) → fs ≡ cond b (free ++ index ∷ []) free → AreApart free → (Contains free index → ⊥) → AreApart fs
added_apart true free fs index is apart away =
    subst AreApart (sym is) (both_apart free (index ∷ []) apart ((in_none index), tt) (λ q old new. elim (first_or_rest index [] q new) [
      | inl at ↦ away (subst (Contains free) at old)
      | inr none ↦ in_none q none
    ]))
added_apart false free fs index is apart away = subst AreApart (sym is) apart

-- Z and O are the indices of the branches of a node at an index, and others are free. With the index,
-- where there is room, fs are free, with those of the first branch gs, and with those of the second hs.
module _ (index : ℕ) (Z O free fs : List ℕ) (apart : AreApart (index ∷ ((Z ++ O) ++ free)))
    (fs_apart : AreApart fs) (fs_among : (q : ℕ) → Contains fs q → Contains free q ⊎ (q ≡ index)) where
  not_freed : (q : ℕ) → Contains (Z ++ O) q → Contains fs q → ⊥
  not_freed q inside freed = elim (fs_among q freed) [
    | inl old ↦ never_both (Z ++ O) free apart.1 q inside old
    | inr at ↦ apart.0 (subst (Contains ((Z ++ O) ++ free)) at (Contains-append_left (Z ++ O) free q inside))
  ]

  branches : AreApart (Z ++ O)
  branches = left_apart (Z ++ O) free apart.1

  pub first_apart : AreApart (Z ++ fs)
  first_apart = both_apart Z fs (left_apart Z O branches) fs_apart (λ q left freed. not_freed q (Contains-append_left Z O q left) freed)

  freed_before : (q : ℕ) → Contains fs q → Contains (index ∷ ((Z ++ O) ++ free)) q
  freed_before q freed = elim (fs_among q freed) [
    | inl old ↦ Contains-append_right (index ∷ (Z ++ O)) free q old
    | inr at ↦ (0, omega arith, sym at)
  ]

  branch_before : (q : ℕ) → Contains (Z ++ O) q → Contains (index ∷ ((Z ++ O) ++ free)) q
  branch_before q inside = Contains-append_right (index ∷ []) ((Z ++ O) ++ free) q (Contains-append_left (Z ++ O) free q inside)

  module _ (gs : List ℕ) (gs_apart : AreApart gs) (gs_among : (q : ℕ) → Contains gs q → Contains (Z ++ fs) q) where
    pub second_apart : AreApart (O ++ gs)
    second_apart = both_apart O gs (right_apart Z O branches) gs_apart (λ q right freed. elim (Contains-append_cases Z fs q (gs_among q freed)) [
      | inl left ↦ never_both Z O branches q left right
      | inr before ↦ not_freed q (Contains-append_right Z O q right) before
    ])

    pub all_among : (hs : List ℕ) → ((q : ℕ) → Contains hs q → Contains (O ++ gs) q) → (q : ℕ) → Contains hs q → Contains (index ∷ ((Z ++ O) ++ free)) q
    all_among hs hs_among q freed = elim (Contains-append_cases O gs q (hs_among q freed)) [
      | inl right ↦ branch_before q (Contains-append_right Z O q right)
      | inr before ↦ elim (Contains-append_cases Z fs q (gs_among q before)) [
        | inl left ↦ branch_before q (Contains-append_left Z O q left)
        | inr first ↦ freed_before q first
      ]
    ]

-- A node's index is free, where there is room, and then those of its branches.
module _ (nodes : List Node) (index : ℕ) (n : Node) (at : AtNode nodes index n) (free : List ℕ)
    (apart : AreApart (indices_at nodes index ++ free)) (b : Bool) (fs : List ℕ) (is : fs ≡ cond b (free ++ index ∷ []) free) where
  all_apart : AreApart (index ∷ ((indices_at nodes n.zero ++ indices_at nodes n.one) ++ free))
  all_apart = subst (λ (ps : List ℕ). AreApart (ps ++ free)) at.indices apart

  among : (q : ℕ) → Contains fs q → Contains free q ⊎ (q ≡ index)
  among = added_among b free fs index is

  now_apart : AreApart fs
  now_apart = added_apart b free fs index is (right_apart (indices_at nodes index) free apart)
      (λ inside. all_apart.0 (Contains-append_right (indices_at nodes n.zero ++ indices_at nodes n.one) free index inside))

  pub zero_apart : AreApart (indices_at nodes n.zero ++ fs)
  zero_apart = first_apart index (indices_at nodes n.zero) (indices_at nodes n.one) free fs all_apart now_apart among

  pub index_bare : {V : Type 0} (values : List (Option V)) → ((q : ℕ) → Contains free q → value_at values q ≡ None) → (q : ℕ) → Contains fs q
      → value_at (set values index None) q ≡ None
  index_bare {V} values bare q inside = elim (among q inside) [
    | inl old ↦ none_still values index q (bare q old)
    | inr at ↦ subst (λ (r : ℕ). value_at (set values index None) r ≡ None) (sym at) (none_here values index)
  ]

  module _ (gs : List ℕ) (gs_apart : AreApart gs) (gs_among : (q : ℕ) → Contains gs q → Contains (indices_at nodes n.zero ++ fs) q) where
    pub one_apart : AreApart (indices_at nodes n.one ++ gs)
    one_apart = second_apart index (indices_at nodes n.zero) (indices_at nodes n.one) free fs all_apart now_apart among gs gs_apart gs_among

    pub node_among : (hs : List ℕ) → ((q : ℕ) → Contains hs q → Contains (indices_at nodes n.one ++ gs) q) → (q : ℕ) → Contains hs q
        → Contains (indices_at nodes index ++ free) q
    node_among hs hs_among q inside = subst (λ (ps : List ℕ). Contains (ps ++ free) q) (sym at.indices)
        (all_among index (indices_at nodes n.zero) (indices_at nodes n.one) free fs all_apart now_apart among gs gs_apart gs_among hs hs_among q inside)

-- ---- a trie without nodes

pub none_at_root : {V : Type 0} (t : Tree V) → length t.nodes.items ≤ nowhere → t.root ≡ nowhere → slice_get t.nodes.items t.root ≡ None
none_at_root t few root = slice_get_past t.nodes.items t.root (omega (arith, few, root))

pub no_entries : {V : Type 0} (t : Tree V) → length t.nodes.items ≤ nowhere → t.root ≡ nowhere → entries t ≡ []
no_entries t few root = none_at t.nodes.items t.values.items t.root (none_at_root t few root)

pub emptied_trie : {V : Type 0} (t u : Tree V) → IsTrie t → u.nodes.items ≡ t.nodes.items → u.root ≡ nowhere → AreApart u.free.items
    → ((q : ℕ) → Contains u.free.items q → Contains (indices_at t.nodes.items t.root ++ t.free.items) q)
    → ((q : ℕ) → Contains u.free.items q → value_at u.values.items q ≡ None) → length u.values.items ≡ length t.nodes.items → IsTrie u
emptied_trie {V} t u h nodes root apart among bare valued =
    let few : length u.nodes.items ≤ nowhere = subst (λ (ns : List Node). length ns ≤ nowhere) (sym nodes) h.few in
    let none = none_at_root u few root in
    record {
      trie = empty_trie u.nodes.items u.root none root;
      apart = subst (λ (ps : List ℕ). AreApart (ps ++ u.free.items)) (sym (no_indices u.nodes.items u.root none)) apart;
      free_in = λ q inside. subst (λ (ns : List Node). q < length ns) (sym nodes)
          (elim (Contains-append_cases (indices_at t.nodes.items t.root) t.free.items q (among q inside)) [
            | inl node ↦ indices_in t.nodes.items q t.root h.trie node
            | inr old ↦ h.free_in q old
          ]);
      free_bare = bare;
      few = few;
      valued = valued ∙ ap (λ (ns : List Node). length ns) (sym nodes);
    }
