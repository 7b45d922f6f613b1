-- A trie in which another value stands at one index, and one that got a node with its value.
use Rattle.std.proofs.Common.{◌≡◌, ◌≢◌, ℕ, ◌<◌, ◌≤◌, Bool, true, false, List, [], ◌∷◌, ◌++◌, length, Option, Some, None}
use Rattle.std.proofs.Common.{refl, sym, ap, subst, ◌∙◌, arith, slice_get, get_or, set, inl, inr, ◌⊎◌}
use Rattle.std.specs.Prelude.{not, if◌then◌else◌, option_map, option_and_then}
use Rattle.std.specs.FinMap.{find, put}
use Rattle.std.specs.List.{Contains}
use Rattle.std.proofs.lemmas.Bool.{cases_lt}
use Rattle.std.proofs.lemmas.List.{length-set, get_or-set_same, get_or-set_other}
use Rattle.std.proofs.lemmas.List.Elements.{Contains-append_left, Contains-append_right, Contains-append_cases}
use Rattle.std.proofs.lemmas.Option.{same_Some, slice_get_within, slice_get_past, slice_get-get_or}
use Rattle.bgp_types.specs.Prefixes.{PrefixValue, IsPrefix}
use Rattle.bgp_types.specs.Tables.{prefix_cmp}
use Rattle.prefix_trie.specs.declared.node.Node.{Node}
use Rattle.prefix_trie.specs.declared.tree.Tree.{Tree}
use Rattle.prefix_trie.specs.Arena.{nowhere, value_at, entries_at, indices_at, AreApart, HasNone, IsTrieAt}
use Rattle.prefix_trie.specs.Adding.{CanAdd, IsAdded}
use Rattle.prefix_trie.specs.Trees.{entries, IsTrie}
use Rattle.prefix_trie.proofs.Apart.{both_apart, first_or_rest, in_none, left_apart, right_apart, never_both}
use Rattle.prefix_trie.proofs.Numbered.{same_entries}
use Rattle.prefix_trie.proofs.Replaced.{changed, replaced}

-- ---- what stands in a list in which one element is another

slice_set_same : {X : Type 0} (xs : List X) (i : ℕ) (x : X) → i < length xs → slice_get (set xs i x) i ≡ Some x
slice_set_same xs i x lt = slice_get-get_or (set xs i x) i x (let e = length-set xs i x in omega (arith, e, lt)) ∙ ap Some (get_or-set_same xs i x x lt)

slice_set_other : {X : Type 0} (xs : List X) (i : ℕ) (x : X) (j : ℕ) → j ≢ i → slice_get (set xs i x) j ≡ slice_get xs j
slice_set_other xs i x j ne = elim (cases_lt j (length xs)) [
  | inl lt ↦ slice_get-get_or (set xs i x) j x (let e = length-set xs i x in omega (arith, e, lt))
      ∙ (ap Some (get_or-set_other xs i j x x ne) ∙ sym (slice_get-get_or xs j x lt))
  | inr ge ↦ slice_get_past (set xs i x) j (let e = length-set xs i x in omega (arith, e, ge)) ∙ sym (slice_get_past xs j ge)
]

pub value_set_same : {V : Type 0} (values : List (Option V)) (q : ℕ) (o : Option V) → q < length values → value_at (set values q o) q ≡ o
value_set_same {V} values q o lt = ap (λ (x : Option (Option V)). option_and_then (λ value. value) x) (slice_set_same values q o lt)

pub value_set_other : {V : Type 0} (values : List (Option V)) (q : ℕ) (o : Option V) (r : ℕ) → r ≢ q → value_at (set values q o) r ≡ value_at values r
value_set_other {V} values q o r ne = ap (λ (x : Option (Option V)). option_and_then (λ value. value) x) (slice_set_other values q o r ne)

-- the value at an index as it is read
pub value_read : {V : Type 0} (values : List (Option V)) (q : ℕ) (d : Option V) → q < length values → value_at values q ≡ get_or values q d
value_read {V} values q d lt = ap (λ (x : Option (Option V)). option_and_then (λ value. value) x) (slice_get-get_or values q d lt)

-- the node that is known by its prefix
pub record Named (o : Option Node) (p : PrefixValue) : Type 0 where
  pub held : Node
  pub is : o ≡ Some held
  pub name : held.prefix ≡ p

pub named : (o : Option Node) (p : PrefixValue) → option_map (λ n. n.prefix) o ≡ Some p → Named o p
named None p e = absurd cc
named (Some n) p e = record { held = n; is = refl; name = same_Some n.prefix p e }

pub node_in : (nodes : List Node) (q : ℕ) (p : PrefixValue) → option_map (λ n. n.prefix) (slice_get nodes q) ≡ Some p → q < length nodes
node_in nodes q p e = let n = named (slice_get nodes q) p e in slice_get_within nodes q n.held n.is

-- ---- another value at the index of a prefix

pub record Settled {V : Type 0} (t u : Tree V) (p : PrefixValue) (old new : Option V) : Type 0 where
  pub trie : IsTrie u
  pub there : find prefix_cmp p (entries t) ≡ old
  pub entries : entries u ≡ changed p new (entries t)

module _ {V : Type 0} (t u : Tree V) (p : PrefixValue) (q : ℕ) (new : Option V) (trie : IsTrie t)
    (inside : Contains (indices_at t.nodes.items t.root) q) (node : option_map (λ n. n.prefix) (slice_get t.nodes.items q) ≡ Some p)
    (nodes : u.nodes.items ≡ t.nodes.items) (free : u.free.items ≡ t.free.items)
    (root : u.root ≡ t.root) (values : u.values.items ≡ set t.values.items q new) where
  index_valued : q < length t.values.items
  index_valued = let lt = node_in t.nodes.items q p node in let same = trie.valued in omega (arith, lt, same)

  other_value : (r : ℕ) → r ≢ q → value_at u.values.items r ≡ value_at t.values.items r
  other_value r ne = ap (λ (vs : List (Option V)). value_at vs r) values ∙ value_set_other t.values.items q new r ne

  this_value : value_at u.values.items q ≡ new
  this_value = ap (λ (vs : List (Option V)). value_at vs q) values ∙ value_set_same t.values.items q new index_valued

  settled_trie : IsTrie u
  settled_trie = record {
    trie = subst (λ (ns : List Node). IsTrieAt ns u.root) (sym nodes) (subst (λ (r : ℕ). IsTrieAt t.nodes.items r) (sym root) trie.trie);
    apart = subst (λ (ns : List Node). AreApart (indices_at ns u.root ++ u.free.items)) (sym nodes)
        (subst (λ (r : ℕ). AreApart (indices_at t.nodes.items r ++ u.free.items)) (sym root)
        (subst (λ (fs : List ℕ). AreApart (indices_at t.nodes.items t.root ++ fs)) (sym free) trie.apart));
    free_in = λ r at. subst (λ (ns : List Node). r < length ns) (sym nodes) (trie.free_in r (subst (λ (fs : List ℕ). Contains fs r) free at));
    free_bare = λ r at. (
        let was : Contains t.free.items r = subst (λ (fs : List ℕ). Contains fs r) free at in
        other_value r (λ e. never_both (indices_at t.nodes.items t.root) t.free.items trie.apart q inside (subst (Contains t.free.items) e was))
        ∙ trie.free_bare r was);
    few = subst (λ (ns : List Node). length ns ≤ nowhere) (sym nodes) trie.few;
    valued = ap (λ (vs : List (Option V)). length vs) values
        ∙ (length-set t.values.items q new ∙ (trie.valued ∙ ap (λ (ns : List Node). length ns) (sym nodes)));
  }

  pub settled : Settled t u p (value_at t.values.items q) new
  settled =
      let n = named (slice_get t.nodes.items q) p node in
      let r = replaced t.nodes.items t.values.items u.values.items trie.few q n.held n.is (value_at t.values.items q) new refl
      this_value other_value t.root trie.trie (left_apart (indices_at t.nodes.items t.root) t.free.items trie.apart) inside in
      record {
        trie = settled_trie;
        there = subst (λ (x : PrefixValue). find prefix_cmp x (entries t) ≡ value_at t.values.items q) n.name r.there;
        entries = ap (λ (ns : List Node). entries_at ns u.values.items u.root) nodes
            ∙ (ap (λ (at : ℕ). entries_at t.nodes.items u.values.items at) root
            ∙ subst (λ (x : PrefixValue). entries_at t.nodes.items u.values.items t.root ≡ changed x new (entries t)) n.name r.entries);
      }

-- The same as the program has it: what find found is where the value was read and changed.
module _ {V : Type 0} (t : Tree V) (p : PrefixValue) (nodes : List Node) (q : ℕ) (trie : IsTrie t) (are : nodes ≡ t.nodes.items)
    (inside : Contains (indices_at nodes t.root) q) (node : option_map (λ n. n.prefix) (slice_get nodes q) ≡ Some p) where
  found_inside : Contains (indices_at t.nodes.items t.root) q
  found_inside = subst (λ (ns : List Node). Contains (indices_at ns t.root) q) are inside

  found_node : option_map (λ n. n.prefix) (slice_get t.nodes.items q) ≡ Some p
  found_node = subst (λ (ns : List Node). option_map (λ (n : Node). n.prefix) (slice_get ns q) ≡ Some p) are node

  pub found_valued : q < length t.values.items
  found_valued = let lt = node_in t.nodes.items q p found_node in let same = trie.valued in omega (arith, lt, same)

  -- the value of a prefix is at the index of its node
  pub found_value : (old : Option V) → old ≡ get_or t.values.items q old → find prefix_cmp p (entries t) ≡ old
  found_value old read =
      let n = named (slice_get t.nodes.items q) p found_node in
      let value = value_at t.values.items q in
      let r = replaced t.nodes.items t.values.items t.values.items trie.few q n.held n.is value value refl refl
      (λ r ne. refl) t.root trie.trie (left_apart (indices_at t.nodes.items t.root) t.free.items trie.apart) found_inside in
      subst (λ (x : PrefixValue). find prefix_cmp x (entries t) ≡ value) n.name r.there ∙ (value_read t.values.items q old found_valued ∙ sym read)

  pub exchanged : (u : Tree V) (old new : Option V) → old ≡ get_or t.values.items q old → u.nodes.items ≡ t.nodes.items → u.free.items ≡ t.free.items
      → u.root ≡ t.root → u.values.items ≡ set t.values.items q new → Settled t u p old new
  exchanged u old new read ns fs r vs = subst (λ (o : Option V). Settled t u p o new)
      (value_read t.values.items q old found_valued ∙ sym read) (settled t u p q new trie found_inside found_node ns fs r vs)

-- ---- a node for a prefix, at indices that were free

-- The last two of the free indices are apart from the others and from those of the trie.
pub record AreTaken (indices rest : List ℕ) (spare fresh : ℕ) : Type 0 where
  pub fresh_new : Contains indices fresh → ⊥
  pub spare_new : Contains indices spare → ⊥
  pub rest_new : (q : ℕ) → Contains indices q → Contains rest q → ⊥
  pub two : fresh ≢ spare
  pub rest_fresh : Contains rest fresh → ⊥
  pub rest_spare : Contains rest spare → ⊥
  pub indices_apart : AreApart indices
  pub rest_apart : AreApart rest

module _ (rest : List ℕ) (spare fresh : ℕ) where
  in_rest : (q : ℕ) → Contains rest q → Contains ((rest ++ spare ∷ []) ++ fresh ∷ []) q
  in_rest q inside = Contains-append_left (rest ++ spare ∷ []) (fresh ∷ []) q (Contains-append_left rest (spare ∷ []) q inside)

  pub spare_in_free : Contains ((rest ++ spare ∷ []) ++ fresh ∷ []) spare
  spare_in_free = Contains-append_left (rest ++ spare ∷ []) (fresh ∷ []) spare (Contains-append_right rest (spare ∷ []) spare (0, omega arith, refl))

  pub fresh_in_free : Contains ((rest ++ spare ∷ []) ++ fresh ∷ []) fresh
  fresh_in_free = Contains-append_right (rest ++ spare ∷ []) (fresh ∷ []) fresh (0, omega arith, refl)

  pub taken : (indices : List ℕ) → AreApart (indices ++ ((rest ++ spare ∷ []) ++ fresh ∷ [])) → AreTaken indices rest spare fresh
  taken indices apart =
      let free = (rest ++ spare ∷ []) ++ fresh ∷ [] in
      let free_apart = right_apart indices free apart in
      let others_apart = left_apart (rest ++ spare ∷ []) (fresh ∷ []) free_apart in
      let never : (q : ℕ) → Contains indices q → Contains free q → ⊥ = never_both indices free apart in
      let not_fresh : Contains (rest ++ spare ∷ []) fresh → ⊥ =
      λ inside. never_both (rest ++ spare ∷ []) (fresh ∷ []) free_apart fresh inside (0, omega arith, refl) in
      record {
        fresh_new = λ inside. never fresh inside fresh_in_free;
        spare_new = λ inside. never spare inside spare_in_free;
        rest_new = λ q inside at. never q inside (in_rest q at);
        two = λ e. not_fresh (subst (Contains (rest ++ spare ∷ [])) (sym e) (Contains-append_right rest (spare ∷ []) spare (0, omega arith, refl)));
        rest_fresh = λ at. not_fresh (Contains-append_left rest (spare ∷ []) fresh at);
        rest_spare = λ at. never_both rest (spare ∷ []) others_apart spare at (0, omega arith, refl);
        indices_apart = left_apart indices free apart;
        rest_apart = left_apart rest (spare ∷ []) others_apart;
      }

module _ {V : Type 0} (t : Tree V) (p : PrefixValue) (rest : List ℕ) (spare fresh : ℕ)
    (trie : IsTrie t) (free : t.free.items ≡ (rest ++ spare ∷ []) ++ fresh ∷ []) where
  all_taken : AreTaken (indices_at t.nodes.items t.root) rest spare fresh
  all_taken = taken rest spare fresh (indices_at t.nodes.items t.root)
      (subst (λ (fs : List ℕ). AreApart (indices_at t.nodes.items t.root ++ fs)) free trie.apart)

  was_free : (q : ℕ) → Contains ((rest ++ spare ∷ []) ++ fresh ∷ []) q → Contains t.free.items q
  was_free q inside = subst (λ (fs : List ℕ). Contains fs q) (sym free) inside

  -- There is room for a prefix that has no node.
  pub can_add : IsPrefix p → HasNone t.nodes.items t.root p → CanAdd t.nodes.items p fresh spare t.root
  can_add is absent = record {
    is = is;
    trie = trie.trie;
    absent = absent;
    apart = (
      (λ inside. elim (first_or_rest spare (indices_at t.nodes.items t.root) fresh inside) [
        | inl e ↦ all_taken.two e
        | inr below ↦ all_taken.fresh_new below
      ]),
      (all_taken.spare_new, all_taken.indices_apart),
    );
    fresh_in = trie.free_in fresh (was_free fresh (fresh_in_free rest spare fresh));
    spare_in = trie.free_in spare (was_free spare (spare_in_free rest spare fresh));
    few = trie.few;
  }

  pub fresh_valued : fresh < length t.values.items
  fresh_valued = let lt = trie.free_in fresh (was_free fresh (fresh_in_free rest spare fresh)) in let same = trie.valued in omega (arith, lt, same)

  -- Both were free, and one of them still is.
  pub kept_rest : AreApart rest
  kept_rest = all_taken.rest_apart

  back_again : AreApart (rest ++ spare ∷ [])
  back_again = both_apart rest (spare ∷ []) all_taken.rest_apart ((λ inside. in_none spare inside), tt) (λ q a b. elim (first_or_rest spare [] q b) [
    | inl e ↦ all_taken.rest_spare (subst (Contains rest) e a)
    | inr none ↦ in_none q none
  ])

  kept_in : (ok : Bool) (q : ℕ) → Contains (if ok then rest ++ spare ∷ [] else rest) q → Contains rest q ⊎ (q ≡ spare)
  kept_in false q at = inl at
  kept_in true q at = elim (Contains-append_cases rest (spare ∷ []) q at) [
    | inl a ↦ inl a
    | inr b ↦ elim (first_or_rest spare [] q b) [
      | inl e ↦ inr e
      | inr none ↦ absurd (in_none q none)
    ]
  ]

  kept_apart_of : (ok : Bool) → AreApart (if ok then rest ++ spare ∷ [] else rest)
  kept_apart_of false = kept_rest
  kept_apart_of true = back_again

  not_forked : (forked : Bool) → not forked ≡ true → forked ≡ false
  not_forked true e = absurd cc
  not_forked false e = refl

  pub kept_pushed : (forked : Bool) → not forked ≡ true → (kept : List ℕ) (ok : Bool) → kept ≡ (if ok then rest ++ spare ∷ [] else rest)
      → AreApart kept × ((q : ℕ) → Contains kept q → Contains rest q ⊎ ((q ≡ spare) × (forked ≡ false)))
  kept_pushed forked away kept ok is = (
    subst AreApart (sym is) (kept_apart_of ok),
    λ q at. elim (kept_in ok q (subst (λ (xs : List ℕ). Contains xs q) is at)) [
      | inl a ↦ inl a
      | inr e ↦ inr (e, not_forked forked away)
    ],
  )

  -- what is still free, once a node for p stands at the fresh index
  module _ (u : Tree V) (fs : List Node) (value : V) (to : ℕ) (forked : Bool) (added : IsAdded t.nodes.items fs p fresh spare t.root to forked)
      (nodes : u.nodes.items ≡ fs) (root : u.root ≡ to) (values : u.values.items ≡ set t.values.items fresh (Some value))
      (kept_apart : AreApart u.free.items) (kept : (q : ℕ) → Contains u.free.items q → Contains rest q ⊎ ((q ≡ spare) × (forked ≡ false))) where
    apart_from_kept : (q : ℕ) → Contains (indices_at fs to) q → Contains u.free.items q → ⊥
    apart_from_kept q inside at = elim (added.among q inside) [
      | inl before ↦ elim (kept q at) [
        | inl r ↦ all_taken.rest_new q before r
        | inr s ↦ all_taken.spare_new (subst (Contains (indices_at t.nodes.items t.root)) s.0 before)
      ]
      | inr new ↦ elim new [
        | inl is_fresh ↦ elim (kept q at) [
          | inl r ↦ all_taken.rest_fresh (subst (Contains rest) is_fresh r)
          | inr s ↦ all_taken.two (sym is_fresh ∙ s.0)
        ]
        | inr is_spare ↦ elim (kept q at) [
          | inl r ↦ all_taken.rest_spare (subst (Contains rest) is_spare.0 r)
          | inr s ↦ differ (sym is_spare.1 ∙ s.1)
        ]
      ]
    ]
      where
        differ : true ≡ false → ⊥
        differ e = cc

    kept_was_free : (q : ℕ) → Contains u.free.items q → Contains t.free.items q
    kept_was_free q at = elim (kept q at) [
      | inl r ↦ was_free q (in_rest rest spare fresh q r)
      | inr s ↦ was_free q (subst (Contains ((rest ++ spare ∷ []) ++ fresh ∷ [])) (sym s.0) (spare_in_free rest spare fresh))
    ]

    kept_not_fresh : (q : ℕ) → Contains u.free.items q → q ≢ fresh
    kept_not_fresh q at e = elim (kept q at) [
      | inl r ↦ all_taken.rest_fresh (subst (Contains rest) e r)
      | inr s ↦ all_taken.two (sym e ∙ s.0)
    ]

    other_now : (r : ℕ) → r ≢ fresh → value_at u.values.items r ≡ value_at t.values.items r
    other_now r ne = ap (λ (vs : List (Option V)). value_at vs r) values ∙ value_set_other t.values.items fresh (Some value) r ne

    fresh_now : value_at u.values.items fresh ≡ Some value
    fresh_now = ap (λ (vs : List (Option V)). value_at vs fresh) values ∙ value_set_same t.values.items fresh (Some value) fresh_valued

    few_now : length fs ≤ nowhere
    few_now = let few = trie.few in let many = added.as_many in omega (arith, few, many)

    pub put_trie : IsTrie u
    put_trie = record {
      trie = subst (λ (ns : List Node). IsTrieAt ns u.root) (sym nodes) (subst (λ (r : ℕ). IsTrieAt fs r) (sym root) added.trie);
      apart = subst (λ (ns : List Node). AreApart (indices_at ns u.root ++ u.free.items)) (sym nodes)
          (subst (λ (r : ℕ). AreApart (indices_at fs r ++ u.free.items)) (sym root)
          (both_apart (indices_at fs to) u.free.items added.apart kept_apart apart_from_kept));
      free_in = λ q at. subst (λ (ns : List Node). q < length ns) (sym nodes)
          (let lt = trie.free_in q (kept_was_free q at) in let many = added.as_many in omega (arith, lt, many));
      free_bare = λ q at. other_now q (kept_not_fresh q at) ∙ trie.free_bare q (kept_was_free q at);
      few = subst (λ (ns : List Node). length ns ≤ nowhere) (sym nodes) few_now;
      valued = ap (λ (vs : List (Option V)). length vs) values
          ∙ (length-set t.values.items fresh (Some value) ∙ (trie.valued ∙ (sym added.as_many ∙ ap (λ (ns : List Node). length ns) (sym nodes))));
    }

    pub put_entries : entries u ≡ put prefix_cmp p value (entries t)
    put_entries =
        let n = named (slice_get fs fresh) p added.node in
        let bare = trie.free_bare fresh (was_free fresh (fresh_in_free rest spare fresh)) in
        let spare_bare = trie.free_bare spare (was_free spare (spare_in_free rest spare fresh)) in
        let r = replaced fs t.values.items u.values.items few_now fresh n.held n.is None
        (Some value) bare fresh_now other_now to added.trie added.apart added.there in
        ap (λ (ns : List Node). entries_at ns u.values.items u.root) nodes
        ∙ (ap (λ (at : ℕ). entries_at fs u.values.items at) root
        ∙ (subst (λ (x : PrefixValue). entries_at fs u.values.items to ≡ put prefix_cmp x value (entries_at fs t.values.items to)) n.name r.entries
        ∙ ap (put prefix_cmp p value) (same_entries t.values.items t.nodes.items fs p fresh spare t.root to forked trie.trie added bare spare_bare)))
