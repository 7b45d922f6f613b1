-- A node one of whose branches stands at another index.
use Rattle.std.proofs.Common.{◌≡◌, ◌≢◌, ℕ, ◌≤◌, List, ◌∷◌, ◌++◌, length, Option, Some, refl, sym, ap, subst, ◌∙◌, slice_get}
use Rattle.std.specs.Prelude.{IfSome}
use Rattle.std.specs.List.{Contains}
use Rattle.std.proofs.lemmas.List.Elements.{Contains-append_left, Contains-append_right}
use Rattle.prefix_trie.specs.Halves.{middle, past, Within}
use Rattle.prefix_trie.specs.declared.node.Node.{Node}
use Rattle.prefix_trie.specs.Arena.{nowhere, entries_at, indices_at, AreApart, IsTrieAt}
use Rattle.prefix_trie.proofs.Branches.{Stands, zero_moved, one_moved}
use Rattle.prefix_trie.proofs.Frames.{Stays, stays}
use Rattle.prefix_trie.proofs.Levels.{AtNode}

module _ (nodes : List Node) (index : ℕ) (n : Node) (at : AtNode nodes index n) (apart : AreApart (indices_at nodes index)) where
  pub all_apart : AreApart (index ∷ (indices_at nodes n.zero ++ indices_at nodes n.one))
  all_apart = subst AreApart at.indices apart

  pub index_not : (r : ℕ) → Contains (indices_at nodes n.zero ++ indices_at nodes n.one) r → r ≢ index
  index_not r inside e = all_apart.0 (subst (Contains (indices_at nodes n.zero ++ indices_at nodes n.one)) e inside)

  -- In gs a branch stands at another index, and in fs the node names that.
  module _ {V : Type 0} (values : List (Option V)) (gs fs : List Node) (to : ℕ) (few : length fs ≤ nowhere) (others : (r : ℕ) → r ≢ index
      → slice_get fs r ≡ slice_get gs r) (trie_now : IsTrieAt gs to) (away : (r : ℕ) → Contains (indices_at gs to) r → r ≢ index) where
    moved_stays : Stays gs fs values values to
    moved_stays = stays gs fs values values few to trie_now (λ r inside. record { node = others r (away r inside); value = refl })

    pub zero_relinked : entries_at gs values to ≡ entries_at nodes values n.zero
        → ((r : ℕ) → Contains (indices_at nodes n.one) r → slice_get gs r ≡ slice_get nodes r)
        → IfSome (slice_get gs to) (λ m. Within n.prefix.address (middle n.prefix) n.prefix.len m.prefix)
        → slice_get fs index ≡ Some (record { prefix = n.prefix; zero = to; one = n.one })
        → Stands fs values index (entries_at nodes values index) (index ∷ (indices_at gs to ++ indices_at nodes n.one))
    zero_relinked same untouched below now =
        let other : Stays nodes fs values values n.one = stays nodes fs values values few n.one at.one_below
        (λ r inside. record {
          node = others r (index_not r (Contains-append_right (indices_at nodes n.zero) (indices_at nodes n.one) r inside)) ∙ untouched r inside;
          value = refl;
        }) in
        let moved = zero_moved nodes fs values values index to n at refl now (record { entries = moved_stays.entries ∙ same; trie = moved_stays.trie }) other
        (subst (λ (o : Option Node). IfSome o (λ m. Within n.prefix.address (middle n.prefix) n.prefix.len m.prefix)) (sym moved_stays.root) below) in
        record {
          entries = moved.entries;
          indices = moved.indices ∙ ap (λ (xs : List ℕ). index ∷ (xs ++ indices_at nodes n.one)) moved_stays.indices;
          trie = moved.trie;
        }

    pub one_relinked : entries_at gs values to ≡ entries_at nodes values n.one
        → ((r : ℕ) → Contains (indices_at nodes n.zero) r → slice_get gs r ≡ slice_get nodes r)
        → IfSome (slice_get gs to) (λ m. Within (middle n.prefix) (past n.prefix) n.prefix.len m.prefix)
        → slice_get fs index ≡ Some (record { prefix = n.prefix; zero = n.zero; one = to })
        → Stands fs values index (entries_at nodes values index) (index ∷ (indices_at nodes n.zero ++ indices_at gs to))
    one_relinked same untouched below now =
        let other : Stays nodes fs values values n.zero = stays nodes fs values values few n.zero at.zero_below
        (λ r inside. record {
          node = others r (index_not r (Contains-append_left (indices_at nodes n.zero) (indices_at nodes n.one) r inside)) ∙ untouched r inside;
          value = refl;
        }) in
        let moved = one_moved nodes fs values values index to n at refl now (record { entries = moved_stays.entries ∙ same; trie = moved_stays.trie }) other
        (subst (λ (o : Option Node). IfSome o (λ m. Within (middle n.prefix) (past n.prefix) n.prefix.len m.prefix)) (sym moved_stays.root) below) in
        record {
          entries = moved.entries;
          indices = moved.indices ∙ ap (λ (xs : List ℕ). index ∷ (indices_at nodes n.zero ++ xs)) moved_stays.indices;
          trie = moved.trie;
        }
