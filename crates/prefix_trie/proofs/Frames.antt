-- What stays where no node from an index down is touched.
use Rattle.std.proofs.Common.{◌≡◌, ℕ, ◌≤◌, List, ◌∷◌, ◌++◌, length, Option, Some, None, sym, ap, subst, ◌∙◌, arith, slice_get}
use Rattle.std.specs.Prelude.{IfSome}
use Rattle.std.specs.List.{Contains}
use Rattle.std.proofs.lemmas.Option.{slice_get_past}
use Rattle.bgp_types.specs.Prefixes.{PrefixValue}
use Rattle.prefix_trie.specs.Halves.{middle, past, Within}
use Rattle.prefix_trie.specs.Nodes.{own}
use Rattle.prefix_trie.specs.declared.node.Node.{Node}
use Rattle.prefix_trie.specs.Arena.{IsSameAt, nowhere, value_at, entries_at, indices_at, IsTrieAt}
use Rattle.prefix_trie.proofs.Levels.{AtNode, at_node, by_trie, empty_trie, in_one, in_zero, no_indices, node_entries, node_trie, none_at}

pub record Stays {V : Type 0} (nodes fs : List Node) (values ws : List (Option V)) (index : ℕ) : Type 0 where
  pub entries : entries_at fs ws index ≡ entries_at nodes values index
  pub indices : indices_at fs index ≡ indices_at nodes index
  pub trie : IsTrieAt fs index
  pub root : slice_get fs index ≡ slice_get nodes index

module _ {V : Type 0} (nodes fs : List Node) (values ws : List (Option V)) (few : length fs ≤ nowhere) where
  abbrev Framed : ℕ → Type 0
  Framed index = ((q : ℕ) → Contains (indices_at nodes index) q → IsSameAt nodes fs values ws q) → Stays nodes fs values ws index

  none_stays : (index : ℕ) → slice_get nodes index ≡ None → index ≡ nowhere → Framed index
  none_stays index is empty same =
      let gone = slice_get_past fs index (omega (arith, few, empty)) in
      record {
        entries = none_at fs ws index gone ∙ sym (none_at nodes values index is);
        indices = no_indices fs index gone ∙ sym (no_indices nodes index is);
        trie = empty_trie fs index gone empty;
        root = gone ∙ sym is;
      }

  node_stays : (index : ℕ) (n : Node) → AtNode nodes index n → Framed n.zero → Framed n.one → Framed index
  node_stays index n at zeros_stay ones_stay same =
      let here = same index at.here in
      let there : slice_get fs index ≡ Some n = here.node ∙ at.there in
      let zeros = zeros_stay (λ q inside. same q (in_zero nodes index n at q inside)) in
      let ones = ones_stay (λ q inside. same q (in_one nodes index n at q inside)) in
      let trie = node_trie fs index n there (record {
        is = at.branching.is;
        zero = subst (λ (o : Option Node). IfSome o (λ m. Within n.prefix.address (middle n.prefix) n.prefix.len m.prefix)) (sym zeros.root) at.branching.zero;
        one = subst (λ (o : Option Node). IfSome o (λ m. Within (middle n.prefix) (past n.prefix) n.prefix.len m.prefix)) (sym ones.root) at.branching.one;
      }) zeros.trie ones.trie in
      let now = at_node fs index n there trie in
      record {
        entries = node_entries fs ws index n now
            ∙ (ap (λ (v : Option V). own n.prefix v ++ (entries_at fs ws n.zero ++ entries_at fs ws n.one)) here.value
            ∙ (ap (λ (es : List (PrefixValue × V)). own n.prefix (value_at values index) ++ (es ++ entries_at fs ws n.one)) zeros.entries
            ∙ (ap (λ (es : List (PrefixValue × V)). own n.prefix (value_at values index) ++ (entries_at nodes values n.zero ++ es)) ones.entries
            ∙ sym (node_entries nodes values index n at))));
        indices = now.indices
            ∙ (ap (λ (ps : List ℕ). index ∷ (ps ++ indices_at fs n.one)) zeros.indices
            ∙ (ap (λ (ps : List ℕ). index ∷ (indices_at nodes n.zero ++ ps)) ones.indices
            ∙ sym at.indices));
        trie = trie;
        root = here.node;
      }

  pub stays : (index : ℕ) → IsTrieAt nodes index → ((q : ℕ) → Contains (indices_at nodes index) q → IsSameAt nodes fs values ws q)
      → Stays nodes fs values ws index
  stays = by_trie nodes Framed none_stays node_stays
