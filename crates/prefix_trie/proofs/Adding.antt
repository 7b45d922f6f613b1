-- A node that is put above what stands from an index down, or beside it.
use Rattle.std.proofs.Common.{◌≡◌, ℕ, ◌≤◌, List, [], ◌∷◌, ◌++◌, length, Option, Some, None, refl, sym, ap, subst, ◌∙◌, slice_get}
use Rattle.std.specs.Prelude.{IfSome}
use Rattle.std.proofs.lemmas.List.{append-nil}
use Rattle.std.proofs.lemmas.Option.{slice_get_past}
use Rattle.bgp_types.specs.Prefixes.{PrefixValue, IsPrefix}
use Rattle.prefix_trie.specs.Adding.{leaf}
use Rattle.prefix_trie.specs.Halves.{middle, past, Within}
use Rattle.prefix_trie.specs.Nodes.{own}
use Rattle.prefix_trie.specs.declared.node.Node.{Node}
use Rattle.prefix_trie.specs.Arena.{nowhere, value_at, entries_at, indices_at, IsBranching}
use Rattle.prefix_trie.proofs.Branches.{Stands, built}
use Rattle.prefix_trie.proofs.Levels.{no_indices, empty_trie, none_at}

module _ {V : Type 0} (nodes : List Node) (values : List (Option V)) (few : length nodes ≤ nowhere) where
  nothing_there : slice_get nodes nowhere ≡ None
  nothing_there = slice_get_past nodes nowhere few

  nothing : Stands nodes values nowhere [] []
  nothing = record {
    entries = none_at nodes values nowhere nothing_there;
    indices = no_indices nodes nowhere nothing_there;
    trie = empty_trie nodes nowhere nothing_there refl;
  }

  -- a node without a value, over two branches
  topped : (t : ℕ) (m : Node) (zs os : List (PrefixValue × V)) (Z O : List ℕ) → slice_get nodes t ≡ Some m → value_at values t ≡ None
      → IsBranching nodes m → Stands nodes values m.zero zs Z → Stands nodes values m.one os O
      → Stands nodes values t (zs ++ os) (t ∷ (Z ++ O))
  topped t m zs os Z O there bare branching zeros ones =
      let b = built nodes values t m there branching zeros.trie ones.trie in
      record {
        entries = b.entries
            ∙ (ap (λ (o : Option V). own m.prefix o ++ (entries_at nodes values m.zero ++ entries_at nodes values m.one)) bare
            ∙ (ap (λ (xs : List (PrefixValue × V)). xs ++ entries_at nodes values m.one) zeros.entries
            ∙ ap (λ (xs : List (PrefixValue × V)). zs ++ xs) ones.entries));
        indices = b.indices
            ∙ (ap (λ (xs : List ℕ). t ∷ (xs ++ indices_at nodes m.one)) zeros.indices
            ∙ ap (λ (xs : List ℕ). t ∷ (Z ++ xs)) ones.indices);
        trie = b.trie;
      }

  no_branch : (P : Node → Type 0) → IfSome (slice_get nodes nowhere) P
  no_branch P = subst (λ (o : Option Node). IfSome o P) (sym nothing_there) tt

  -- a prefix that stands alone
  pub alone : (t : ℕ) (p : PrefixValue) → IsPrefix p → slice_get nodes t ≡ Some (leaf p) → value_at values t ≡ None → Stands nodes values t [] (t ∷ [])
  alone t p is there bare =
      topped t (leaf p) [] [] [] [] there bare (record {
        is = is;
        zero = no_branch (λ m. Within p.address (middle p) p.len m.prefix);
        one = no_branch (λ m. Within (middle p) (past p) p.len m.prefix);
      }) nothing nothing

  module _ (index t : ℕ) (n : Node) (p : PrefixValue) (is : IsPrefix p) (es : List (PrefixValue × V)) (ps : List ℕ)
      (at : slice_get nodes index ≡ Some n) (bare : value_at values t ≡ None) (stands : Stands nodes values index es ps) where
    lies : (low high : ℕ) → Within low high p.len n.prefix → IfSome (slice_get nodes index) (λ m. Within low high p.len m.prefix)
    lies low high w = subst (λ (o : Option Node). IfSome o (λ m. Within low high p.len m.prefix)) (sym at) w

    -- a prefix above what stands in its first half
    pub above_early : slice_get nodes t ≡ Some (record { prefix = p; zero = index; one = nowhere }) → Within p.address (middle p) p.len n.prefix
        → Stands nodes values t es (t ∷ ps)
    above_early there w =
        let s = topped t (record { prefix = p; zero = index; one = nowhere }) es [] ps [] there bare
        (record { is = is; zero = lies p.address (middle p) w; one = no_branch (λ m. Within (middle p) (past p) p.len m.prefix) }) stands nothing in
        record { entries = s.entries ∙ append-nil es; indices = s.indices ∙ ap (λ (xs : List ℕ). t ∷ xs) (append-nil ps); trie = s.trie }

    -- a prefix above what stands in its second half
    pub above_late : slice_get nodes t ≡ Some (record { prefix = p; zero = nowhere; one = index }) → Within (middle p) (past p) p.len n.prefix
        → Stands nodes values t es (t ∷ ps)
    above_late there w = topped t (record { prefix = p; zero = nowhere; one = index }) [] es [] ps there bare
        (record { is = is; zero = no_branch (λ m. Within p.address (middle p) p.len m.prefix); one = lies (middle p) (past p) w }) nothing stands

    module _ (a : ℕ) (q : PrefixValue) (is_q : IsPrefix q) (new : slice_get nodes a ≡ Some (leaf q)) (bare_new : value_at values a ≡ None) where
      new_lies : (low high : ℕ) → Within low high p.len q → IfSome (slice_get nodes a) (λ m. Within low high p.len m.prefix)
      new_lies low high w = subst (λ (o : Option Node). IfSome o (λ m. Within low high p.len m.prefix)) (sym new) w

      -- a prefix before what stands, below the shortest prefix in whose halves both lie
      pub beside_early : slice_get nodes t ≡ Some (record { prefix = p; zero = a; one = index }) → Within p.address (middle p) p.len q
          → Within (middle p) (past p) p.len n.prefix → Stands nodes values t es (t ∷ (a ∷ ps))
      beside_early there w u = topped t (record { prefix = p; zero = a; one = index }) [] es (a ∷ []) ps there bare
          (record { is = is; zero = new_lies p.address (middle p) w; one = lies (middle p) (past p) u }) (alone a q is_q new bare_new) stands

      -- a prefix behind what stands
      pub beside_late : slice_get nodes t ≡ Some (record { prefix = p; zero = index; one = a }) → Within p.address (middle p) p.len n.prefix
          → Within (middle p) (past p) p.len q → Stands nodes values t es (t ∷ (ps ++ (a ∷ [])))
      beside_late there w u =
          let s = topped t (record { prefix = p; zero = index; one = a }) es [] ps (a ∷ []) there bare
          (record { is = is; zero = lies p.address (middle p) w; one = new_lies (middle p) (past p) u }) stands (alone a q is_q new bare_new) in
          record { entries = s.entries ∙ append-nil es; indices = s.indices; trie = s.trie }
