-- A node whose branch got a node for a prefix.
use Rattle.std.proofs.Common.{◌≡◌, ◌≢◌, ℕ, ◌≤◌, Bool, true, List, [], ◌∷◌, ◌++◌, length, Option, Some}
use Rattle.std.proofs.Common.{refl, sym, ap, subst, ◌∙◌, arith, slice_get, inl, inr, ◌⊎◌}
use Rattle.std.specs.Prelude.{IfSome, option_map}
use Rattle.std.specs.List.{Contains}
use Rattle.std.proofs.lemmas.List.Elements.{Contains-append_left, Contains-append_right, Contains-append_cases}
use Rattle.bgp_types.specs.Prefixes.{PrefixValue}
use Rattle.prefix_trie.specs.Halves.{middle, past, Within}
use Rattle.prefix_trie.specs.declared.node.Node.{Node}
use Rattle.prefix_trie.specs.Arena.{nowhere, entries_at, indices_at, AreApart}
use Rattle.prefix_trie.specs.Adding.{CanAdd, IsAdded}
use Rattle.prefix_trie.proofs.Apart.{first_or_rest, left_apart, right_apart, never_both, both_apart}
use Rattle.prefix_trie.proofs.Branches.{Stands}
use Rattle.prefix_trie.proofs.Levels.{AtNode, at_node}
use Rattle.prefix_trie.proofs.Relinked.{all_apart, index_not, zero_relinked, one_relinked}

module _ (nodes : List Node) (p : PrefixValue) (fresh spare index : ℕ) (n : Node)
    (was : slice_get nodes index ≡ Some n) (can : CanAdd nodes p fresh spare index) where
  abbrev Z : List ℕ
  Z = indices_at nodes n.zero

  abbrev O : List ℕ
  O = indices_at nodes n.one

  at : AtNode nodes index n
  at = at_node nodes index n was can.trie

  all : AreApart (index ∷ (Z ++ O))
  all = all_apart nodes index n at can.apart.1.1

  not_index : (r : ℕ) → Contains (Z ++ O) r → r ≢ index
  not_index = index_not nodes index n at can.apart.1.1

  in_zero : (r : ℕ) → Contains Z r → Contains (Z ++ O) r
  in_zero = Contains-append_left Z O

  in_one : (r : ℕ) → Contains O r → Contains (Z ++ O) r
  in_one = Contains-append_right Z O

  fresh_not : (r : ℕ) → Contains (indices_at nodes index) r → r ≢ fresh
  fresh_not r inside e =
      can.apart.0 (subst (Contains (spare ∷ indices_at nodes index)) e (Contains-append_right (spare ∷ []) (indices_at nodes index) r inside))

  spare_not : (r : ℕ) → Contains (indices_at nodes index) r → r ≢ spare
  spare_not r inside e = can.apart.1.0 (subst (Contains (indices_at nodes index)) e inside)

  branch_apart : (xs : List ℕ) → ((r : ℕ) → Contains xs r → Contains (Z ++ O) r) → AreApart xs → AreApart (fresh ∷ (spare ∷ xs))
  branch_apart xs sub apart = (
    (λ inside. elim (first_or_rest spare xs fresh inside) [
      | inl e ↦ can.apart.0 (0, omega arith, sym e)
      | inr below ↦ fresh_not fresh (at.below fresh (sub fresh below)) refl
    ]),
    ((λ inside. spare_not spare (at.below spare (sub spare inside)) refl), apart),
  )

  pub can_zero : CanAdd nodes p fresh spare n.zero
  can_zero = record {
    is = can.is;
    trie = at.zero_below;
    absent = λ r inside. can.absent r (at.below r (in_zero r inside));
    apart = branch_apart Z in_zero (left_apart Z O all.1);
    fresh_in = can.fresh_in;
    spare_in = can.spare_in;
    few = can.few;
  }

  pub can_one : CanAdd nodes p fresh spare n.one
  can_one = record {
    is = can.is;
    trie = at.one_below;
    absent = λ r inside. can.absent r (at.below r (in_one r inside));
    apart = branch_apart O in_one (right_apart Z O all.1);
    fresh_in = can.fresh_in;
    spare_in = can.spare_in;
    few = can.few;
  }

  -- the node is as it was once something was added to a branch
  pub still_zero : (fs : List Node) (to : ℕ) (forked : Bool) → IsAdded nodes fs p fresh spare n.zero to forked → slice_get fs index ≡ Some n
  still_zero fs to forked a = a.others index (λ inside. not_index index (in_zero index inside) refl) (fresh_not index at.here) (spare_not index at.here) ∙ was

  pub still_one : (fs : List Node) (to : ℕ) (forked : Bool) → IsAdded nodes fs p fresh spare n.one to forked → slice_get fs index ≡ Some n
  still_one fs to forked a = a.others index (λ inside. not_index index (in_one index inside) refl) (fresh_not index at.here) (spare_not index at.here) ∙ was

  -- One branch has the indices that it had, and one or two that were of no use. The other branch stays.
  module _ (side other : List ℕ) (side_in : (r : ℕ) → Contains side r → Contains (Z ++ O) r)
      (other_in : (r : ℕ) → Contains other r → Contains (Z ++ O) r) (never : (r : ℕ) → Contains side r → Contains other r → ⊥)
      (forked : Bool) (r : ℕ) (among : Contains side r ⊎ ((r ≡ fresh) ⊎ ((r ≡ spare) × (forked ≡ true)))) where
    side_not_index : r ≢ index
    side_not_index e = elim among [
      | inl old ↦ not_index r (side_in r old) e
      | inr new ↦ elim new [
        | inl f ↦ fresh_not index at.here (sym e ∙ f)
        | inr s ↦ spare_not index at.here (sym e ∙ s.0)
      ]
    ]

    side_not_other : Contains other r → ⊥
    side_not_other inside = elim among [
      | inl old ↦ never r old inside
      | inr new ↦ elim new [
        | inl f ↦ fresh_not r (at.below r (other_in r inside)) f
        | inr s ↦ spare_not r (at.below r (other_in r inside)) s.0
      ]
    ]

    side_among : Contains (indices_at nodes index) r ⊎ ((r ≡ fresh) ⊎ ((r ≡ spare) × (forked ≡ true)))
    side_among = elim among [
      | inl old ↦ inl (at.below r (side_in r old))
      | inr new ↦ inr new
    ]

  module _ (gs fs : List Node) (to : ℕ) (forked : Bool) (many : length fs ≡ length gs) (others : (r : ℕ) → r ≢ index → slice_get fs r ≡ slice_get gs r) where
    few_now : length gs ≡ length nodes → length fs ≤ nowhere
    few_now e = let few = can.few in omega (arith, many, e, few)

    still_there : option_map (λ (m : Node). m.prefix) (slice_get gs fresh) ≡ Some p → option_map (λ (m : Node). m.prefix) (slice_get fs fresh) ≡ Some p
    still_there there = ap (option_map (λ (m : Node). m.prefix)) (others fresh (λ e. fresh_not index at.here (sym e))) ∙ there

    elsewhere : (r : ℕ) → (Contains (indices_at nodes index) r → ⊥) → r ≢ index
    elsewhere r away e = away (subst (Contains (indices_at nodes index)) (sym e) at.here)

    here_still : (low high len : ℕ) (m : Node) → m.prefix ≡ n.prefix → slice_get fs index ≡ Some m
        → IfSome (slice_get nodes index) (λ m. Within low high len m.prefix) → IfSome (slice_get fs index) (λ m. Within low high len m.prefix)
    here_still low high len m same now w = subst (λ (o : Option Node). IfSome o (λ m. Within low high len m.prefix)) (sym now)
        (subst (Within low high len) (sym same) (subst (λ (o : Option Node). IfSome o (λ m. Within low high len m.prefix)) was w))

    never : (r : ℕ) → Contains Z r → Contains O r → ⊥
    never = never_both Z O all.1

    never_back : (r : ℕ) → Contains O r → Contains Z r → ⊥
    never_back r right left = never r left right

    pub zero_added : IsAdded nodes gs p fresh spare n.zero to forked
        → slice_get fs index ≡ Some (record { prefix = n.prefix; zero = to; one = n.one }) → Within n.prefix.address (middle n.prefix) n.prefix.len p
        → IsAdded nodes fs p fresh spare index index forked
    zero_added a now w =
        let T = indices_at gs to in
        let now_is : (values : List (Option ℕ)) → entries_at gs values to ≡ entries_at nodes values n.zero
        → Stands fs values index (entries_at nodes values index) (index ∷ (T ++ O)) =
        λ values same. zero_relinked nodes index n at can.apart.1.1 values gs fs to (few_now a.as_many) others a.trie
        (λ r inside. side_not_index Z O in_zero in_one never forked r (a.among r inside)) same
        (λ r inside. a.others r (λ left. never r left inside) (fresh_not r (at.below r (in_one r inside))) (spare_not r (at.below r (in_one r inside))))
        (a.within n.prefix n.prefix.address (middle n.prefix) at.branching.is (inl (refl, refl)) w at.branching.zero) now in
        let s = now_is [] (a.entries [] refl refl) in
        record {
          entries = λ values f g. (now_is values (a.entries values f g)).entries;
          trie = s.trie;
          node = still_there a.node;
          there = subst (λ (ps : List ℕ). Contains ps fresh) (sym s.indices)
              (Contains-append_right (index ∷ []) (T ++ O) fresh (Contains-append_left T O fresh a.there));
          apart = subst AreApart (sym s.indices) (
            (λ inside. elim (Contains-append_cases T O index inside) [
              | inl left ↦ side_not_index Z O in_zero in_one never forked index (a.among index left) refl
              | inr right ↦ not_index index (in_one index right) refl
            ]),
            both_apart T O a.apart (right_apart Z O all.1) (λ r left right. side_not_other Z O in_zero in_one never forked r (a.among r left) right),
          );
          among = λ r inside. elim (first_or_rest index (T ++ O) r (subst (λ (ps : List ℕ). Contains ps r) s.indices inside)) [
            | inl e ↦ inl (subst (Contains (indices_at nodes index)) (sym e) at.here)
            | inr below ↦ elim (Contains-append_cases T O r below) [
              | inl left ↦ side_among Z O in_zero in_one never forked r (a.among r left)
              | inr right ↦ inl (at.below r (in_one r right))
            ]
          ];
          others = λ r away f g. others r (elsewhere r away) ∙ a.others r (λ left. away (at.below r (in_zero r left))) f g;
          as_many = many ∙ a.as_many;
          within = λ q low high is half new old. here_still low high q.len _ refl now old;
        }

    pub one_added : IsAdded nodes gs p fresh spare n.one to forked
        → slice_get fs index ≡ Some (record { prefix = n.prefix; zero = n.zero; one = to }) → Within (middle n.prefix) (past n.prefix) n.prefix.len p
        → IsAdded nodes fs p fresh spare index index forked
    one_added a now w =
        let T = indices_at gs to in
        let now_is : (values : List (Option ℕ)) → entries_at gs values to ≡ entries_at nodes values n.one
        → Stands fs values index (entries_at nodes values index) (index ∷ (Z ++ T)) =
        λ values same. one_relinked nodes index n at can.apart.1.1 values gs fs to (few_now a.as_many) others a.trie
        (λ r inside. side_not_index O Z in_one in_zero never_back forked r (a.among r inside)) same
        (λ r inside. a.others r (λ right. never r inside right) (fresh_not r (at.below r (in_zero r inside))) (spare_not r (at.below r (in_zero r inside))))
        (a.within n.prefix (middle n.prefix) (past n.prefix) at.branching.is (inr (refl, refl)) w at.branching.one) now in
        let s = now_is [] (a.entries [] refl refl) in
        record {
          entries = λ values f g. (now_is values (a.entries values f g)).entries;
          trie = s.trie;
          node = still_there a.node;
          there = subst (λ (ps : List ℕ). Contains ps fresh) (sym s.indices)
              (Contains-append_right (index ∷ []) (Z ++ T) fresh (Contains-append_right Z T fresh a.there));
          apart = subst AreApart (sym s.indices) (
            (λ inside. elim (Contains-append_cases Z T index inside) [
              | inl left ↦ not_index index (in_zero index left) refl
              | inr right ↦ side_not_index O Z in_one in_zero never_back forked index (a.among index right) refl
            ]),
            both_apart Z T (left_apart Z O all.1) a.apart (λ r left right. side_not_other O Z in_one in_zero never_back forked r (a.among r right) left),
          );
          among = λ r inside. elim (first_or_rest index (Z ++ T) r (subst (λ (ps : List ℕ). Contains ps r) s.indices inside)) [
            | inl e ↦ inl (subst (Contains (indices_at nodes index)) (sym e) at.here)
            | inr below ↦ elim (Contains-append_cases Z T r below) [
              | inl left ↦ inl (at.below r (in_zero r left))
              | inr right ↦ side_among O Z in_one in_zero never_back forked r (a.among r right)
            ]
          ];
          others = λ r away f g. others r (elsewhere r away) ∙ a.others r (λ right. away (at.below r (in_one r right))) f g;
          as_many = many ∙ a.as_many;
          within = λ q low high is half new old. here_still low high q.len _ refl now old;
        }
