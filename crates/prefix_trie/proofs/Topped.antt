-- A prefix that gets a node where nothing stands, or above all that stands from an index down.
use Rattle.std.proofs.Common.{◌≡◌, ◌≢◌, ℕ, ◌≤◌, ◌<◌, Bool, List, [], ◌∷◌, length, Option, Some, None, refl, sym, ap, subst, ◌∙◌, arith, slice_get, inl, inr}
use Rattle.std.specs.Prelude.{IfSome, option_map}
use Rattle.std.specs.List.{Contains}
use Rattle.std.proofs.lemmas.List.Elements.{Contains-append_right}
use Rattle.bgp_types.specs.Prefixes.{PrefixValue, Covers}
use Rattle.prefix_trie.proofs.Halves.{covered_from, covered_to, early_within, ends_within}
use Rattle.prefix_trie.specs.Halves.{Within}
use Rattle.prefix_trie.specs.declared.node.Node.{Node}
use Rattle.prefix_trie.specs.Arena.{nowhere, value_at, entries_at, indices_at, AreApart}
use Rattle.prefix_trie.specs.Adding.{leaf, CanAdd, IsAdded, IsOver}
use Rattle.prefix_trie.proofs.Apart.{first_or_rest, in_none}
use Rattle.prefix_trie.proofs.Branches.{Stands}
use Rattle.prefix_trie.proofs.Frames.{Stays, stays}
use Rattle.prefix_trie.proofs.Levels.{at_node, none_at}
use Rattle.prefix_trie.proofs.Adding.{alone, above_early, above_late}

module _ (nodes fs : List Node) (p : PrefixValue) (fresh spare index : ℕ) (forked : Bool) (can : CanAdd nodes p fresh spare index)
    (many : length fs ≡ length nodes) (others : (r : ℕ) → r ≢ fresh → slice_get fs r ≡ slice_get nodes r) where
  few_now : length fs ≤ nowhere
  few_now = let few = can.few in omega (arith, many, few)

  not_fresh : (r : ℕ) → Contains (indices_at nodes index) r → r ≢ fresh
  not_fresh r inside e =
      can.apart.0 (subst (Contains (spare ∷ indices_at nodes index)) e (Contains-append_right (spare ∷ []) (indices_at nodes index) r inside))

  pub leaf_added : slice_get nodes index ≡ None → slice_get fs fresh ≡ Some (leaf p) → IsAdded nodes fs p fresh spare index fresh forked
  leaf_added none there =
      let stands : (values : List (Option ℕ)) → value_at values fresh ≡ None → Stands fs values fresh [] (fresh ∷ []) =
      λ values bare. alone fs values few_now fresh p can.is there bare in
      let s = stands [] refl in
      record {
        entries = λ values bare b. (stands values bare).entries ∙ sym (none_at nodes values index none);
        trie = s.trie;
        node = ap (option_map (λ (m : Node). m.prefix)) there;
        there = subst (λ (ps : List ℕ). Contains ps fresh) (sym s.indices) (0, omega arith, refl);
        apart = subst AreApart (sym s.indices) ((λ inside. in_none fresh inside), tt);
        among = λ r inside. elim (first_or_rest fresh [] r (subst (λ (ps : List ℕ). Contains ps r) s.indices inside)) [
          | inl e ↦ inr (inl e)
          | inr no_more ↦ absurd (in_none r no_more)
        ];
        others = λ r away f s. others r f;
        as_many = many;
        within = λ q low high is half new old. subst (λ (o : Option Node). IfSome o (λ m. Within low high q.len m.prefix)) (sym there) new;
      }

  -- A node above one that stands: its prefix covers the other's, which lies in the half that it is put under.
  module _ (n : Node) (was : slice_get nodes index ≡ Some n) where
    kept : (values : List (Option ℕ)) → Stays nodes fs values values index
    kept values = stays nodes fs values values few_now index can.trie (λ r inside. record { node = others r (not_fresh r inside); value = refl })

    stood : (values : List (Option ℕ)) → Stands fs values index (entries_at nodes values index) (indices_at nodes index)
    stood values = let k = kept values in record { entries = k.entries; indices = k.indices; trie = k.trie }

    at_now : slice_get fs index ≡ Some n
    at_now = (kept []).root ∙ was

    topped_added : (m : Node) → m.prefix ≡ p → slice_get fs fresh ≡ Some m
        → ((values : List (Option ℕ)) → value_at values fresh ≡ None → Stands fs values fresh (entries_at nodes values index) (fresh ∷ indices_at nodes index))
        → IsAdded nodes fs p fresh spare index fresh forked
    topped_added m named there stands =
        let s = stands [] refl in
        record {
          entries = λ values bare b. (stands values bare).entries;
          trie = s.trie;
          node = ap (option_map (λ (m : Node). m.prefix)) there ∙ ap Some named;
          there = subst (λ (ps : List ℕ). Contains ps fresh) (sym s.indices) (0, omega arith, refl);
          apart = subst AreApart (sym s.indices) ((λ inside. not_fresh fresh inside refl), can.apart.1.1);
          among = λ r inside. elim (first_or_rest fresh (indices_at nodes index) r (subst (λ (ps : List ℕ). Contains ps r) s.indices inside)) [
            | inl e ↦ inr (inl e)
            | inr old ↦ inl old
          ];
          others = λ r away f s. others r f;
          as_many = many;
          within = λ q low high is half new old. subst (λ (o : Option Node). IfSome o (λ m. Within low high q.len m.prefix))
              (sym there) (subst (λ (x : PrefixValue). Within low high q.len x) (sym named) new);
        }

    pub above_added : (m : Node) → slice_get fs fresh ≡ Some m → p.len < n.prefix.len → Covers p n.prefix → IsOver p n.prefix index m
        → IsAdded nodes fs p fresh spare index fresh forked
    above_added m there shorter covers over =
        let is = (at_node nodes index n was can.trie).branching.is in
        elim over [
          | inl early ↦ topped_added (record { prefix = p; zero = index; one = nowhere }) refl (there ∙ ap Some early.1)
              (λ values bare. above_early fs values few_now index fresh n p can.is (entries_at nodes values index)
              (indices_at nodes index) at_now bare (stood values) (there ∙ ap Some early.1)
              (record { is = is; longer = shorter; from = covered_from p n.prefix covers; to = early_within p n.prefix can.is is shorter early.0 }))
          | inr late ↦ topped_added (record { prefix = p; zero = nowhere; one = index }) refl (there ∙ ap Some late.1)
              (λ values bare. above_late fs values few_now index fresh n p can.is (entries_at nodes values index)
              (indices_at nodes index) at_now bare (stood values) (there ∙ ap Some late.1)
              (record {
                is = is;
                longer = shorter;
                from = late.0;
                to = ends_within p n.prefix can.is is (omega (arith, shorter)) (covered_to p n.prefix covers);
              }))
        ]
