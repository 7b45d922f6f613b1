-- Entries whose values are the numbers of the indices at which the values stand.
use Rattle.std.proofs.Common.{◌≡◌, ℕ, zero, suc, ◌+◌, List, [], ◌∷◌, ◌++◌, Bool, Option, Some, None, refl, sym, ap, ◌∙◌, arith, slice_get}
use Rattle.std.specs.Prelude.{option_map}
use Rattle.std.specs.List.{flat_map}
use Rattle.std.proofs.lemmas.Grind.{flat_map-append}
use Rattle.std.proofs.lemmas.List.{append-nil}
use Rattle.bgp_types.specs.Prefixes.{PrefixValue}
use Rattle.prefix_trie.specs.Nodes.{own}
use Rattle.prefix_trie.specs.declared.node.Node.{Node}
use Rattle.prefix_trie.specs.Arena.{nowhere, value_at, entries_at, IsTrieAt}
use Rattle.prefix_trie.specs.Adding.{IsAdded}
use Rattle.prefix_trie.proofs.Levels.{AtNode, by_trie, node_entries, none_at}

abbrev numbered : {V : Type 0} → ℕ → List (Option V) → List (Option ℕ)
numbered k [] = []
numbered k (o ∷ os) = option_map (λ _. k) o ∷ numbered (suc k) os

number_at : {V : Type 0} (k : ℕ) (os : List (Option V)) (q : ℕ) → value_at (numbered k os) q ≡ option_map (λ _. k + q) (value_at os q)
number_at k [] q = refl
number_at k (o ∷ os) zero = let same : k ≡ k + 0 = omega arith in ap (λ (n : ℕ). option_map (λ _. n) o) same
number_at k (o ∷ os) (suc q) =
    let same : suc k + q ≡ k + suc q = omega arith in number_at (suc k) os q ∙ ap (λ (n : ℕ). option_map (λ _. n) (value_at os q)) same

module _ {V : Type 0} (values : List (Option V)) where
  abbrev numbers : List (Option ℕ)
  numbers = numbered 0 values

  number_is : (q : ℕ) → value_at numbers q ≡ option_map (λ _. q) (value_at values q)
  number_is q = let same : 0 + q ≡ q = omega arith in number_at 0 values q ∙ ap (λ (n : ℕ). option_map (λ _. n) (value_at values q)) same

  abbrev shown : List (PrefixValue × ℕ) → List (PrefixValue × V)
  shown es = flat_map (λ e. own e.0 (value_at values e.1)) es

  own_shown : (p : PrefixValue) (q : ℕ) (o : Option V) → value_at values q ≡ o → own p (value_at values q) ≡ shown (own p (option_map (λ _. q) o))
  own_shown p q None is = ap (own p) is
  own_shown p q (Some v) is = sym (append-nil (own p (value_at values q)))

  module _ (nodes : List Node) where
    abbrev IsShown : ℕ → Type 0
    IsShown index = entries_at nodes values index ≡ shown (entries_at nodes numbers index)

    none_shown : (index : ℕ) → slice_get nodes index ≡ None → index ≡ nowhere → IsShown index
    none_shown index is empty = none_at nodes values index is ∙ ap shown (sym (none_at nodes numbers index is))

    node_shown : (index : ℕ) (n : Node) → AtNode nodes index n → IsShown n.zero → IsShown n.one → IsShown index
    node_shown index n at zeros ones =
        let h : PrefixValue × ℕ → List (PrefixValue × V) = λ e. own e.0 (value_at values e.1) in
        let here = own n.prefix (value_at numbers index) in
        let zs = entries_at nodes numbers n.zero in
        let os = entries_at nodes numbers n.one in
        node_entries nodes values index n at
        ∙ (ap (λ (xs : List (PrefixValue × V)). xs ++ (entries_at nodes values n.zero ++ entries_at nodes values n.one))
        (own_shown n.prefix index (value_at values index) refl ∙ ap (λ (o : Option ℕ). shown (own n.prefix o)) (sym (number_is index)))
        ∙ (ap (λ (xs : List (PrefixValue × V)). shown here ++ (xs ++ entries_at nodes values n.one)) zeros
        ∙ (ap (λ (xs : List (PrefixValue × V)). shown here ++ (shown zs ++ xs)) ones
        ∙ (ap (λ (xs : List (PrefixValue × V)). shown here ++ xs) (sym (flat_map-append h zs os))
        ∙ (sym (flat_map-append h here (zs ++ os))
        ∙ ap shown (sym (node_entries nodes numbers index n at)))))))

    entries_shown : (index : ℕ) → IsTrieAt nodes index → IsShown index
    entries_shown = by_trie nodes IsShown none_shown node_shown

  -- Whatever the values are, the entries are the same where a prefix got a node.
  pub same_entries : (nodes fs : List Node) (p : PrefixValue) (fresh spare from to : ℕ) (forked : Bool) → IsTrieAt nodes from
      → IsAdded nodes fs p fresh spare from to forked → value_at values fresh ≡ None → value_at values spare ≡ None
      → entries_at fs values to ≡ entries_at nodes values from
  same_entries nodes fs p fresh spare from to forked trie added f s =
      let bare : (q : ℕ) → value_at values q ≡ None → value_at numbers q ≡ None = λ q none. number_is q ∙ ap (option_map (λ _. q)) none in
      entries_shown fs to added.trie ∙ (ap shown (added.entries numbers (bare fresh f) (bare spare s)) ∙ sym (entries_shown nodes from trie))
