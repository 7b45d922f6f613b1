-- A trie whose nodes became more, or whose free indices did.
use Rattle.std.proofs.Common.{◌≡◌, ◌≢◌, ℕ, zero, suc, ◌+◌, ◌≤◌, ◌<◌, List, [], ◌∷◌, ◌++◌, length, Option, None}
use Rattle.std.proofs.Common.{refl, sym, ap, subst, ◌∙◌, arith, slice_get, inl, inr, ◌⊎◌, take, drop}
use Rattle.std.specs.Prelude.{IfSome, option_and_then}
use Rattle.std.specs.List.{Contains}
use Rattle.std.proofs.lemmas.List.{append_assoc, length_push, take-append-drop}
use Rattle.std.proofs.lemmas.List.Elements.{Contains-append_left, Contains-append_cases}
use Rattle.std.proofs.lemmas.Option.{slice_get_past}
use Rattle.bgp_types.specs.Prefixes.{PrefixValue}
use Rattle.prefix_trie.specs.declared.node.Node.{Node}
use Rattle.prefix_trie.specs.declared.tree.Tree.{Tree}
use Rattle.prefix_trie.specs.Arena.{nowhere, value_at, entries_at, indices_at, AreApart, HasNone, IsTrieAt}
use Rattle.prefix_trie.specs.Trees.{entries, IsTrie, IsGrown}
use Rattle.prefix_trie.proofs.Apart.{both_apart, first_or_rest, in_none, left_apart}
use Rattle.prefix_trie.proofs.Frames.{Stays, stays}
use Rattle.prefix_trie.proofs.Levels.{empty_trie, no_indices, none_at}
use Rattle.prefix_trie.proofs.Indices.{indices_in}

-- ---- one more at the end

pub pushed_before : {A : Type 0} (xs : List A) (x : A) (q : ℕ) → q < length xs → slice_get (xs ++ x ∷ []) q ≡ slice_get xs q
pushed_before [] x q less = absurd (omega (arith, less))
pushed_before (y ∷ xs) x zero less = refl
pushed_before (y ∷ xs) x (suc q) less = pushed_before xs x q (omega (arith, less))

-- an index without a value more
pub pushed_none : {V : Type 0} (values : List (Option V)) (q : ℕ) → value_at (values ++ None ∷ []) q ≡ value_at values q
pushed_none [] zero = refl
pushed_none [] (suc q) = refl
pushed_none (v ∷ values) zero = refl
pushed_none (v ∷ values) (suc q) = pushed_none values q

pub past_values : {V : Type 0} (values : List (Option V)) (q : ℕ) → length values ≤ q → value_at values q ≡ None
past_values values q past = ap (option_and_then (λ value. value)) (slice_get_past values q past)

pub pushed_apart : (xs ys : List ℕ) (q : ℕ) → AreApart (xs ++ ys) → (Contains xs q → ⊥) → (Contains ys q → ⊥) → AreApart (xs ++ (ys ++ q ∷ []))
pushed_apart xs ys q apart not_left not_right =
    subst AreApart (append_assoc xs ys (q ∷ []))
    (both_apart (xs ++ ys) (q ∷ []) apart ((λ inside. in_none q inside), tt)
    (λ r inside last. elim (first_or_rest q [] r last) [
      | inl is ↦ elim (Contains-append_cases xs ys q (subst (Contains (xs ++ ys)) is inside)) [
        | inl left ↦ not_left left
        | inr right ↦ not_right right
      ]
      | inr none ↦ in_none r none
    ]))

-- ---- without the last ones

pub taken_apart : (xs ys : List ℕ) (n : ℕ) → AreApart (xs ++ ys) → AreApart (xs ++ take n ys)
taken_apart xs ys n apart =
    left_apart (xs ++ take n ys) (drop n ys)
    (subst AreApart (sym (append_assoc xs (take n ys) (drop n ys))) (subst (λ (zs : List ℕ). AreApart (xs ++ zs)) (sym (take-append-drop n ys)) apart))

pub taken_in : (ys : List ℕ) (n q : ℕ) → Contains (take n ys) q → Contains ys q
taken_in ys n q inside = subst (λ (zs : List ℕ). Contains zs q) (take-append-drop n ys) (Contains-append_left (take n ys) (drop n ys) q inside)

-- ---- a trie that has grown

module _ {V : Type 0} (t : Tree V) where
  module _ (u : Tree V) (is : IsTrie t) (grown : IsGrown t u) (few : length u.nodes.items ≤ nowhere) where
    pub grown_stays : Stays t.nodes.items u.nodes.items t.values.items u.values.items t.root
    grown_stays = stays t.nodes.items u.nodes.items t.values.items u.values.items few t.root is.trie
        (λ q inside. record { node = grown.nodes q (indices_in t.nodes.items q t.root is.trie inside); value = grown.values q })

    pub grown_entries : entries u ≡ entries t
    grown_entries = ap (λ (root : ℕ). entries_at u.nodes.items u.values.items root) grown.root ∙ grown_stays.entries

    pub grown_indices : indices_at u.nodes.items u.root ≡ indices_at t.nodes.items t.root
    grown_indices = ap (λ (root : ℕ). indices_at u.nodes.items root) grown.root ∙ grown_stays.indices

    -- A prefix that had no node has none.
    pub grown_none : (p : PrefixValue) → HasNone t.nodes.items t.root p → HasNone u.nodes.items u.root p
    grown_none p none r inside =
        let before : Contains (indices_at t.nodes.items t.root) r = subst (λ (ps : List ℕ). Contains ps r) grown_indices inside in
        subst (λ (o : Option Node). IfSome o (λ n. n.prefix ≢ p)) (sym (grown.nodes r (indices_in t.nodes.items r t.root is.trie before))) (none r before)

    -- It is a trie where its free indices are apart from those that it had.
    pub grown_trie : length u.values.items ≡ length u.nodes.items → AreApart (indices_at t.nodes.items t.root ++ u.free.items)
        → ((q : ℕ) → Contains u.free.items q → q < length u.nodes.items) → ((q : ℕ) → Contains u.free.items q → value_at t.values.items q ≡ None)
        → IsTrie u
    grown_trie valued apart inside bare = record {
      trie = subst (λ (root : ℕ). IsTrieAt u.nodes.items root) (sym grown.root) grown_stays.trie;
      apart = subst (λ (ps : List ℕ). AreApart (ps ++ u.free.items)) (sym grown_indices) apart;
      free_in = inside;
      free_bare = λ q free. grown.values q ∙ bare q free;
      few = few;
      valued = valued;
    }

  module _ (u : Tree V) (is : IsTrie t) (root : u.root ≡ t.root) (nodes : u.nodes.items ≡ t.nodes.items) (values : u.values.items ≡ t.values.items) where
    -- where the lists have the same
    pub grown_same : IsGrown t u
    grown_same = record {
      root = root;
      nodes = λ q less. ap (λ (ns : List Node). slice_get ns q) nodes;
      values = λ q. ap (λ (vs : List (Option V)). value_at vs q) values;
      longer = let e = ap (λ (ns : List Node). length ns) nodes in omega arith;
    }

    few_same : length u.nodes.items ≤ nowhere
    few_same = let e = ap (λ (ns : List Node). length ns) nodes in let few = is.few in omega arith

    valued_same : length u.values.items ≡ length u.nodes.items
    valued_same = ap (λ (vs : List (Option V)). length vs) values ∙ (is.valued ∙ sym (ap (λ (ns : List Node). length ns) nodes))

    pub same_trie : u.free.items ≡ t.free.items → IsTrie u
    same_trie free = grown_trie u is grown_same few_same valued_same
        (subst (λ (fs : List ℕ). AreApart (indices_at t.nodes.items t.root ++ fs)) (sym free) is.apart)
        (λ q inside. subst (λ (ns : List Node). q < length ns) (sym nodes) (is.free_in q (subst (λ (fs : List ℕ). Contains fs q) free inside)))
        (λ q inside. is.free_bare q (subst (λ (fs : List ℕ). Contains fs q) free inside))

    -- where only the first ones are free still
    pub taken_trie : (n : ℕ) → u.free.items ≡ take n t.free.items → IsTrie u
    taken_trie n free = grown_trie u is grown_same few_same valued_same
        (subst (λ (fs : List ℕ). AreApart (indices_at t.nodes.items t.root ++ fs))
        (sym free) (taken_apart (indices_at t.nodes.items t.root) t.free.items n is.apart))
        (λ q inside. subst (λ (ns : List Node). q < length ns) (sym nodes)
        (is.free_in q (taken_in t.free.items n q (subst (λ (fs : List ℕ). Contains fs q) free inside))))
        (λ q inside. is.free_bare q (taken_in t.free.items n q (subst (λ (fs : List ℕ). Contains fs q) free inside)))

  -- a node more, whose index is free
  module _ (u : Tree V) (is : IsTrie t) (node : Node) (root : u.root ≡ t.root)
      (nodes : u.nodes.items ≡ t.nodes.items ++ node ∷ []) (values : u.values.items ≡ t.values.items ++ None ∷ [])
      (free : u.free.items ≡ t.free.items ++ length t.nodes.items ∷ []) (room : length t.nodes.items < nowhere) where
    one_longer : length u.nodes.items ≡ length t.nodes.items + 1
    one_longer = ap (λ (ns : List Node). length ns) nodes ∙ length_push t.nodes.items node

    pub grown_node : IsGrown t u
    grown_node = record {
      root = root;
      nodes = λ q less. ap (λ (ns : List Node). slice_get ns q) nodes ∙ pushed_before t.nodes.items node q less;
      values = λ q. ap (λ (vs : List (Option V)). value_at vs q) values ∙ pushed_none t.values.items q;
      longer = let e = one_longer in omega arith;
    }

    last_or_free : (q : ℕ) → Contains u.free.items q → Contains t.free.items q ⊎ (q ≡ length t.nodes.items)
    last_or_free q inside = elim (Contains-append_cases t.free.items (length t.nodes.items ∷ []) q (subst (λ (fs : List ℕ). Contains fs q) free inside)) [
      | inl old ↦ inl old
      | inr new ↦ elim (first_or_rest (length t.nodes.items) [] q new) [
        | inl at ↦ inr at
        | inr none ↦ absurd (in_none q none)
      ]
    ]

    pub node_trie : IsTrie u
    node_trie = grown_trie u is grown_node (let e = one_longer in omega (arith, e, room))
        (ap (λ (vs : List (Option V)). length vs) values ∙ (length_push t.values.items None ∙ (ap (λ (n : ℕ). n + 1) is.valued ∙ sym one_longer)))
        (subst (λ (fs : List ℕ). AreApart (indices_at t.nodes.items t.root ++ fs)) (sym free)
        (pushed_apart (indices_at t.nodes.items t.root) t.free.items (length t.nodes.items) is.apart
        (λ inside. let less = indices_in t.nodes.items (length t.nodes.items) t.root is.trie inside in omega (arith, less))
        (λ inside. let less = is.free_in (length t.nodes.items) inside in omega (arith, less))))
        (λ q inside. elim (last_or_free q inside) [
          | inl old ↦ let less = is.free_in q old in let e = one_longer in omega (arith, less, e)
          | inr at ↦ let e = one_longer in omega (arith, at, e)
        ])
        (λ q inside. elim (last_or_free q inside) [
          | inl old ↦ is.free_bare q old
          | inr at ↦ past_values t.values.items q (let e = is.valued in omega (arith, at, e))
        ])

-- ---- a trie without a node

module _ {V : Type 0} (t : Tree V) (root : t.root ≡ nowhere) (nodes : t.nodes.items ≡ []) where
  nothing_there : slice_get t.nodes.items t.root ≡ None
  nothing_there = ap (λ (ns : List Node). slice_get ns t.root) nodes

  pub no_entries : entries t ≡ []
  no_entries = none_at t.nodes.items t.values.items t.root nothing_there

  pub bare_trie : t.values.items ≡ [] → t.free.items ≡ [] → IsTrie t
  bare_trie values free = record {
    trie = empty_trie t.nodes.items t.root nothing_there root;
    apart = subst (λ (ps : List ℕ). AreApart (ps ++ t.free.items)) (sym (no_indices t.nodes.items t.root nothing_there)) (subst AreApart (sym free) tt);
    free_in = λ q inside. absurd (in_none q (subst (λ (fs : List ℕ). Contains fs q) free inside));
    free_bare = λ q inside. absurd (in_none q (subst (λ (fs : List ℕ). Contains fs q) free inside));
    few = let e = ap (λ (ns : List Node). length ns) nodes in omega (arith, e);
    valued = ap (λ (vs : List (Option V)). length vs) values ∙ sym (ap (λ (ns : List Node). length ns) nodes);
  }

-- ---- lists that are a trie's

pub as_entries : {V : Type 0} (t : Tree V) (nodes : List Node) (values : List (Option V)) → nodes ≡ t.nodes.items → values ≡ t.values.items
    → entries_at nodes values t.root ≡ entries t
as_entries t nodes values same_nodes same_values = ap (λ (ns : List Node). entries_at ns values t.root) same_nodes
    ∙ ap (λ (vs : List (Option _)). entries_at t.nodes.items vs t.root) same_values
