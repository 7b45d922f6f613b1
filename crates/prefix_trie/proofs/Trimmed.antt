-- Nodes that go, one after the other.
use Rattle.std.proofs.Common.{◌≡◌, ◌≢◌, ℕ, ◌≤◌, Bool, true, false, cond, List, [], ◌∷◌, ◌++◌, length, Option}
use Rattle.std.proofs.Common.{Some, None, refl, sym, ap, subst, ◌∙◌, arith, slice_get, inl, inr, ◌⊎◌}
use Rattle.std.specs.Prelude.{IfSome}
use Rattle.std.specs.List.{Contains}
use Rattle.std.proofs.lemmas.List.{length_push}
use Rattle.std.proofs.lemmas.List.Elements.{Contains-append_left, Contains-append_right, Contains-append_cases}
use Rattle.prefix_trie.specs.Halves.{middle, past, Within}
use Rattle.prefix_trie.specs.declared.node.Node.{Node}
use Rattle.prefix_trie.specs.Arena.{nowhere, value_at, indices_at, AreApart}
use Rattle.prefix_trie.specs.Trimming.{CanTrim, IsTrimmed}
use Rattle.prefix_trie.proofs.Apart.{both_apart, first_or_rest, in_none, left_apart, right_apart, never_both}
use Rattle.prefix_trie.proofs.Lifting.{Lifted, lifted_zero, lifted_one, zero_within, one_within}
use Rattle.prefix_trie.proofs.Levels.{AtNode, at_node}
use Rattle.prefix_trie.proofs.Relinked.{all_apart, index_not, zero_relinked, one_relinked}

pub both_trimmed : {V : Type 0} (nodes gs fs : List Node) (values : List (Option V)) (free mid kept : List ℕ) (from between to : ℕ)
    → IsTrimmed nodes gs values free mid from between → IsTrimmed gs fs values mid kept between to → IsTrimmed nodes fs values free kept from to
both_trimmed nodes gs fs values free mid kept from between to a b = record {
  entries = b.entries ∙ a.entries;
  trie = b.trie;
  apart = b.apart;
  among = λ r inside. a.among r (b.among r inside);
  freed = λ r inside. elim (b.freed r inside) [
    | inl before ↦ a.freed r before
    | inr gone ↦ inr (a.among r gone.0, gone.1)
  ];
  more = let x = a.more in let y = b.more in omega (arith, x, y);
  others = λ r away. b.others r (λ inside. away (a.among r inside)) ∙ a.others r away;
  as_many = b.as_many ∙ a.as_many;
  within = λ low high len w. b.within low high len (a.within low high len w);
}

-- of three lists that are apart by pairs
three_apart : (xs ys zs : List ℕ) → AreApart xs → AreApart ys → AreApart zs → ((q : ℕ) → Contains xs q → Contains ys q → ⊥)
    → ((q : ℕ) → Contains xs q → Contains zs q → ⊥) → ((q : ℕ) → Contains ys q → Contains zs q → ⊥) → AreApart ((xs ++ ys) ++ zs)
three_apart xs ys zs x y z xy xz yz = both_apart (xs ++ ys) zs (both_apart xs ys x y xy) z (λ q inside kept. elim (Contains-append_cases xs ys q inside) [
  | inl left ↦ xz q left kept
  | inr right ↦ yz q right kept
])

module _ {V : Type 0} (nodes : List Node) (values : List (Option V)) (free : List ℕ) (index : ℕ)
    (n : Node) (was : slice_get nodes index ≡ Some n) (can : CanTrim nodes free index) where
  abbrev Z : List ℕ
  Z = indices_at nodes n.zero

  abbrev O : List ℕ
  O = indices_at nodes n.one

  at : AtNode nodes index n
  at = at_node nodes index n was can.trie

  here_apart : AreApart (indices_at nodes index)
  here_apart = left_apart (indices_at nodes index) free can.apart

  all : AreApart (index ∷ (Z ++ O))
  all = all_apart nodes index n at here_apart

  not_index : (r : ℕ) → Contains (Z ++ O) r → r ≢ index
  not_index = index_not nodes index n at here_apart

  in_zero : (r : ℕ) → Contains Z r → Contains (Z ++ O) r
  in_zero = Contains-append_left Z O

  in_one : (r : ℕ) → Contains O r → Contains (Z ++ O) r
  in_one = Contains-append_right Z O

  -- what is free is none of the indices
  outside : (r : ℕ) → Contains (indices_at nodes index) r → Contains free r → ⊥
  outside r inside there = never_both (indices_at nodes index) free can.apart r inside there

  free_apart : AreApart free
  free_apart = right_apart (indices_at nodes index) free can.apart

  pub can_zero : CanTrim nodes free n.zero
  can_zero = record {
    trie = at.zero_below;
    apart = both_apart Z free (left_apart Z O all.1) free_apart (λ r left there. outside r (at.below r (in_zero r left)) there);
    few = can.few;
  }

  pub can_one : CanTrim nodes free n.one
  can_one = record {
    trie = at.one_below;
    apart = both_apart O free (right_apart Z O all.1) free_apart (λ r right there. outside r (at.below r (in_one r right)) there);
    few = can.few;
  }

  -- the node is as it was once a branch was trimmed
  pub still_zero : (fs : List Node) (kept : List ℕ) (to : ℕ) → IsTrimmed nodes fs values free kept n.zero to → slice_get fs index ≡ Some n
  still_zero fs kept to t = t.others index (λ inside. not_index index (in_zero index inside) refl) ∙ was

  pub still_one : (fs : List Node) (kept : List ℕ) (to : ℕ) → IsTrimmed nodes fs values free kept n.one to → slice_get fs index ≡ Some n
  still_one fs kept to t = t.others index (λ inside. not_index index (in_one index inside) refl) ∙ was

  -- Indices of one branch may have become free. The other branch stays.
  module _ (side other : List ℕ) (side_in : (r : ℕ) → Contains side r → Contains (Z ++ O) r)
      (other_in : (r : ℕ) → Contains other r → Contains (Z ++ O) r) (never : (r : ℕ) → Contains side r → Contains other r → ⊥)
      (kept : List ℕ) (freed : (r : ℕ) → Contains kept r → Contains free r ⊎ (Contains side r × (value_at values r ≡ None))) where
    kept_not_index : Contains kept index → ⊥
    kept_not_index there = elim (freed index there) [
      | inl before ↦ outside index at.here before
      | inr gone ↦ not_index index (side_in index gone.0) refl
    ]

    kept_not_other : (r : ℕ) → Contains other r → Contains kept r → ⊥
    kept_not_other r inside there = elim (freed r there) [
      | inl before ↦ outside r (at.below r (other_in r inside)) before
      | inr gone ↦ never r gone.0 inside
    ]

    still_freed : (r : ℕ) → Contains kept r → Contains free r ⊎ (Contains (indices_at nodes index) r × (value_at values r ≡ None))
    still_freed r there = elim (freed r there) [
      | inl before ↦ inl before
      | inr gone ↦ inr (at.below r (side_in r gone.0), gone.1)
    ]

  module _ (gs fs : List Node) (kept : List ℕ) (to : ℕ) (many : length fs ≡ length gs) (others : (r : ℕ) → r ≢ index → slice_get fs r ≡ slice_get gs r) where
    few_now : length gs ≡ length nodes → length fs ≤ nowhere
    few_now e = let few = can.few in omega (arith, many, e, few)

    pub zero_trimmed : IsTrimmed nodes gs values free kept n.zero to
        → slice_get fs index ≡ Some (record { prefix = n.prefix; zero = to; one = n.one }) → IsTrimmed nodes fs values free kept index index
    zero_trimmed t now =
        let T = indices_at gs to in
        let never : (r : ℕ) → Contains Z r → Contains O r → ⊥ = never_both Z O all.1 in
        let s = zero_relinked nodes index n at here_apart values gs fs to (few_now t.as_many) others t.trie
        (λ r inside. not_index r (in_zero r (t.among r inside))) t.entries (λ r inside. t.others r (λ left. never r left inside))
        (t.within n.prefix.address (middle n.prefix) n.prefix.len at.branching.zero) now in
        record {
          entries = s.entries;
          trie = s.trie;
          apart = subst (λ (ps : List ℕ). AreApart (ps ++ kept)) (sym s.indices) (
            (λ inside. elim (Contains-append_cases (T ++ O) kept index inside) [
              | inl below ↦ elim (Contains-append_cases T O index below) [
                | inl left ↦ not_index index (in_zero index (t.among index left)) refl
                | inr right ↦ not_index index (in_one index right) refl
              ]
              | inr there ↦ kept_not_index Z O in_zero in_one never kept t.freed there
            ]),
            three_apart T O kept (left_apart T kept t.apart) (right_apart Z O all.1) (right_apart T kept t.apart)
                (λ r left right. never r (t.among r left) right) (never_both T kept t.apart) (kept_not_other Z O in_zero in_one never kept t.freed),
          );
          among = λ r inside. elim (first_or_rest index (T ++ O) r (subst (λ (ps : List ℕ). Contains ps r) s.indices inside)) [
            | inl e ↦ subst (Contains (indices_at nodes index)) (sym e) at.here
            | inr below ↦ elim (Contains-append_cases T O r below) [
              | inl left ↦ at.below r (in_zero r (t.among r left))
              | inr right ↦ at.below r (in_one r right)
            ]
          ];
          freed = still_freed Z O in_zero in_one never kept t.freed;
          more = t.more;
          others = λ r away. others r (λ e. away (subst (Contains (indices_at nodes index)) (sym e) at.here))
              ∙ t.others r (λ left. away (at.below r (in_zero r left)));
          as_many = many ∙ t.as_many;
          within = λ low high len w. subst (λ (o : Option Node). IfSome o (λ m. Within low high len m.prefix))
              (sym now) (subst (λ (o : Option Node). IfSome o (λ m. Within low high len m.prefix)) was w);
        }

    pub one_trimmed : IsTrimmed nodes gs values free kept n.one to
        → slice_get fs index ≡ Some (record { prefix = n.prefix; zero = n.zero; one = to }) → IsTrimmed nodes fs values free kept index index
    one_trimmed t now =
        let T = indices_at gs to in
        let never : (r : ℕ) → Contains O r → Contains Z r → ⊥ = λ r right left. never_both Z O all.1 r left right in
        let s = one_relinked nodes index n at here_apart values gs fs to (few_now t.as_many) others t.trie
        (λ r inside. not_index r (in_one r (t.among r inside))) t.entries (λ r inside. t.others r (λ right. never r right inside))
        (t.within (middle n.prefix) (past n.prefix) n.prefix.len at.branching.one) now in
        record {
          entries = s.entries;
          trie = s.trie;
          apart = subst (λ (ps : List ℕ). AreApart (ps ++ kept)) (sym s.indices) (
            (λ inside. elim (Contains-append_cases (Z ++ T) kept index inside) [
              | inl below ↦ elim (Contains-append_cases Z T index below) [
                | inl left ↦ not_index index (in_zero index left) refl
                | inr right ↦ not_index index (in_one index (t.among index right)) refl
              ]
              | inr there ↦ kept_not_index O Z in_one in_zero never kept t.freed there
            ]),
            three_apart Z T kept (left_apart Z O all.1) (left_apart T kept t.apart) (right_apart T kept t.apart)
                (λ r left right. never r (t.among r right) left) (kept_not_other O Z in_one in_zero never kept t.freed) (never_both T kept t.apart),
          );
          among = λ r inside. elim (first_or_rest index (Z ++ T) r (subst (λ (ps : List ℕ). Contains ps r) s.indices inside)) [
            | inl e ↦ subst (Contains (indices_at nodes index)) (sym e) at.here
            | inr below ↦ elim (Contains-append_cases Z T r below) [
              | inl left ↦ at.below r (in_zero r left)
              | inr right ↦ at.below r (in_one r (t.among r right))
            ]
          ];
          freed = still_freed O Z in_one in_zero never kept t.freed;
          more = t.more;
          others = λ r away. others r (λ e. away (subst (Contains (indices_at nodes index)) (sym e) at.here))
              ∙ t.others r (λ right. away (at.below r (in_one r right)));
          as_many = many ∙ t.as_many;
          within = λ low high len w. subst (λ (o : Option Node). IfSome o (λ m. Within low high len m.prefix))
              (sym now) (subst (λ (o : Option Node). IfSome o (λ m. Within low high len m.prefix)) was w);
        }

-- A node is taken out above its one branch, and its index is kept or not.
module _ {V : Type 0} (nodes : List Node) (values : List (Option V)) (free kept : List ℕ) (index to : ℕ)
    (can : CanTrim nodes free index) (bare : value_at values index ≡ None) (lifted : Lifted nodes values index to)
    (within : (low high len : ℕ) → IfSome (slice_get nodes index) (λ m. Within low high len m.prefix)
    → IfSome (slice_get nodes to) (λ m. Within low high len m.prefix)) where
  abbrev T : List ℕ
  T = indices_at nodes to

  apart_is : AreApart ((index ∷ T) ++ free)
  apart_is = subst (λ (ps : List ℕ). AreApart (ps ++ free)) lifted.indices can.apart

  index_in : Contains (indices_at nodes index) index
  index_in = subst (λ (ps : List ℕ). Contains ps index) (sym lifted.indices) (0, omega arith, refl)

  in_index : (r : ℕ) → Contains T r → Contains (indices_at nodes index) r
  in_index r inside = subst (λ (ps : List ℕ). Contains ps r) (sym lifted.indices) (Contains-append_right (index ∷ []) T r inside)

  pub lifted_trimmed : (kept ≡ free) ⊎ (kept ≡ free ++ index ∷ []) → IsTrimmed nodes nodes values free kept index to
  lifted_trimmed which = record {
    entries = lifted.entries;
    trie = lifted.trie;
    apart = elim which [
      | inl same ↦ subst (λ (xs : List ℕ). AreApart (T ++ xs)) (sym same) apart_is.1
      | inr more ↦ subst (λ (xs : List ℕ). AreApart (T ++ xs)) (sym more)
          (both_apart T (free ++ index ∷ []) (left_apart T free apart_is.1)
          (both_apart free (index ∷ []) (right_apart T free apart_is.1)
          ((λ inside. in_none index inside), tt) (λ q there last. elim (first_or_rest index [] q last) [
            | inl at ↦ apart_is.0 (Contains-append_right T free index (subst (Contains free) at there))
            | inr none ↦ in_none q none
          ]))
          (λ q inside there. elim (Contains-append_cases free (index ∷ []) q there) [
            | inl before ↦ never_both T free apart_is.1 q inside before
            | inr last ↦ elim (first_or_rest index [] q last) [
              | inl at ↦ apart_is.0 (Contains-append_left T free index (subst (Contains T) at inside))
              | inr none ↦ in_none q none
            ]
          ]))
    ];
    among = in_index;
    freed = λ r there. elim which [
      | inl same ↦ inl (subst (λ (xs : List ℕ). Contains xs r) same there)
      | inr more ↦ elim (Contains-append_cases free (index ∷ []) r (subst (λ (xs : List ℕ). Contains xs r) more there)) [
        | inl before ↦ inl before
        | inr last ↦ elim (first_or_rest index [] r last) [
          | inl at ↦ inr (subst (Contains (indices_at nodes index)) (sym at) index_in, ap (value_at values) at ∙ bare)
          | inr none ↦ absurd (in_none r none)
        ]
      ]
    ];
    more = elim which [
      | inl same ↦ let e = ap length same in omega (arith, e)
      | inr more ↦ let e = ap length more ∙ length_push free index in omega (arith, e)
    ];
    others = λ r away. refl;
    as_many = refl;
    within = within;
  }

module _ {V : Type 0} (nodes : List Node) (values : List (Option V)) (free : List ℕ) (index : ℕ) (n : Node) (was : slice_get nodes index ≡ Some n)
    (kept : List ℕ) (bare : value_at values index ≡ None) (which : (kept ≡ free) ⊎ (kept ≡ free ++ index ∷ [])) (can : CanTrim nodes free index) where
  pub lift_early : n.one ≡ nowhere → IsTrimmed nodes nodes values free kept index n.zero
  lift_early gone = lifted_trimmed nodes values free kept index n.zero can bare (lifted_zero nodes values can.few index n was can.trie bare gone)
      (λ low high len w. zero_within nodes values can.few index n was can.trie bare low high len
      (subst (λ (o : Option Node). IfSome o (λ m. Within low high len m.prefix)) was w)) which

  pub lift_late : n.zero ≡ nowhere → IsTrimmed nodes nodes values free kept index n.one
  lift_late gone = lifted_trimmed nodes values free kept index n.one can bare (lifted_one nodes values can.few index n was can.trie bare gone)
      (λ low high len w. one_within nodes values can.few index n was can.trie bare low high len
      (subst (λ (o : Option Node). IfSome o (λ m. Within low high len m.prefix)) was w)) which

-- a list after a push that may find no room
pub pushed : {A : Type 0} (b : Bool) (xs ys : List A) (x : A) → ys ≡ cond b (xs ++ x ∷ []) xs → (ys ≡ xs) ⊎ (ys ≡ xs ++ x ∷ [])
pushed true xs ys x e = inr e
pushed false xs ys x e = inl e

-- the index that an empty branch names
pub is_nowhere : (a : ℕ) → a ≡ 4294967295 → a ≡ nowhere
is_nowhere a e = omega (arith, e)
