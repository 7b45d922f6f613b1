-- What a trie has once another value, or none, stands at one of its indices.
use Rattle.std.proofs.Common.{◌≡◌, ◌≢◌, ℕ, ◌<◌, ◌≤◌, List, ◌++◌, length, Option, Some, None, refl, sym, ap, subst, ◌∙◌, arith, slice_get, inl, inr}
use Rattle.std.specs.FinMap.{find, put}
use Rattle.std.specs.List.{Contains}
use Rattle.std.proofs.lemmas.List.Elements.{Contains-append_left, Contains-append_right, Contains-append_cases}
use Rattle.std.proofs.lemmas.Option.{same_Some}
use Rattle.bgp_types.specs.Prefixes.{PrefixValue}
use Rattle.bgp_types.specs.Tables.{prefix_cmp}
use Rattle.bgp_types.proofs.TableLaws.{without}
use Rattle.prefix_trie.specs.Halves.{middle, past, Within}
use Rattle.prefix_trie.specs.Nodes.{own, IsNode}
use Rattle.prefix_trie.proofs.Levels.{AtNode, by_trie, no_indices, node_entries}
use Rattle.prefix_trie.proofs.Indices.{halves_of, index_within}
use Rattle.prefix_trie.proofs.Halves.{positive}
use Rattle.prefix_trie.proofs.Nodes.{find_here, find_early, find_late, put_here, put_early, put_late, without_here}
use Rattle.prefix_trie.proofs.Nodes.{without_early, without_late, longer_later, shorter_differs}
use Rattle.prefix_trie.specs.declared.node.Node.{Node}
use Rattle.prefix_trie.specs.Arena.{nowhere, value_at, entries_at, indices_at, IsTrieAt, AreApart}
use Rattle.prefix_trie.proofs.Apart.{first_or_rest, in_none, left_apart, right_apart, never_both}
use Rattle.prefix_trie.proofs.Frames.{Stays, stays}

-- the entries once p has the value, or none
abbrev pub changed : {V : Type 0} → PrefixValue → Option V → List (PrefixValue × V) → List (PrefixValue × V)
changed p None es = without prefix_cmp p es
changed p (Some v) es = put prefix_cmp p v es

changed_here : {V : Type 0} (p : PrefixValue) (o : Option V) (zs os : List (PrefixValue × V)) → IsNode p zs os → (new : Option V)
    → changed p new (own p o ++ (zs ++ os)) ≡ own p new ++ (zs ++ os)
changed_here p o zs os node None = without_here p o zs os node
changed_here p o zs os node (Some v) = put_here p o zs os node v

changed_early : {V : Type 0} (p : PrefixValue) (o : Option V) (zs os : List (PrefixValue × V)) → IsNode p zs os → (q : PrefixValue)
    → Within p.address (middle p) p.len q → (new : Option V) → changed q new (own p o ++ (zs ++ os)) ≡ own p o ++ (changed q new zs ++ os)
changed_early p o zs os node q w None = let some = positive q in let to = w.to in without_early p o zs os node q (shorter_differs p q w.longer) (omega arith)
changed_early p o zs os node q w (Some v) =
    let some = positive q in let to = w.to in put_early p o zs os node q v (longer_later q p w.from w.longer) (omega arith)

changed_late : {V : Type 0} (p : PrefixValue) (o : Option V) (zs os : List (PrefixValue × V)) → IsNode p zs os → (q : PrefixValue)
    → Within (middle p) (past p) p.len q → (new : Option V) → changed q new (own p o ++ (zs ++ os)) ≡ own p o ++ (zs ++ changed q new os)
changed_late p o zs os node q w None = without_late p o zs os node q (shorter_differs p q w.longer) w.from
changed_late p o zs os node q w (Some v) = let from = w.from in put_late p o zs os node q v (longer_later q p (omega arith) w.longer) w.from

pub record Replaced {V : Type 0} (nodes : List Node) (values ws : List (Option V)) (p : PrefixValue) (old new : Option V) (index : ℕ) : Type 0 where
  pub there : find prefix_cmp p (entries_at nodes values index) ≡ old
  pub entries : entries_at nodes ws index ≡ changed p new (entries_at nodes values index)

module _ {V : Type 0} (nodes : List Node) (values ws : List (Option V)) (few : length nodes ≤ nowhere)
    (q : ℕ) (held : Node) (named : slice_get nodes q ≡ Some held) (old new : Option V)
    (was : value_at values q ≡ old) (now : value_at ws q ≡ new) (others : (r : ℕ) → r ≢ q → value_at ws r ≡ value_at values r) where
  -- no index among these is changed
  untouched : (index : ℕ) → IsTrieAt nodes index → (Contains (indices_at nodes index) q → ⊥) → Stays nodes nodes values ws index
  untouched index trie away = stays nodes nodes values ws few index trie
      (λ r inside. record { node = refl; value = others r (λ is. away (subst (Contains (indices_at nodes index)) is inside)) })

  abbrev IsReplaced : ℕ → Type 0
  IsReplaced index = AreApart (indices_at nodes index) → Contains (indices_at nodes index) q → Replaced nodes values ws held.prefix old new index

  none_replaced : (index : ℕ) → slice_get nodes index ≡ None → index ≡ nowhere → IsReplaced index
  none_replaced index is empty apart inside = absurd (in_none q (subst (λ (ps : List ℕ). Contains ps q) (no_indices nodes index is) inside))

  module _ (index : ℕ) (n : Node) (at : AtNode nodes index n) where
    node : IsNode n.prefix (entries_at nodes values n.zero) (entries_at nodes values n.one)
    node = halves_of nodes values index n at

    es_is : entries_at nodes values index ≡ own n.prefix (value_at values index) ++ (entries_at nodes values n.zero ++ entries_at nodes values n.one)
    es_is = node_entries nodes values index n at

    both : (value : Option V) (zs os : List (PrefixValue × V)) → value_at ws index ≡ value → entries_at nodes ws n.zero ≡ zs
        → entries_at nodes ws n.one ≡ os → entries_at nodes ws index ≡ own n.prefix value ++ (zs ++ os)
    both value zs os value_is zs_are os_are = node_entries nodes ws index n at
        ∙ (ap (λ (o : Option V). own n.prefix o ++ (entries_at nodes ws n.zero ++ entries_at nodes ws n.one)) value_is
        ∙ (ap (λ (es : List (PrefixValue × V)). own n.prefix value ++ (es ++ entries_at nodes ws n.one)) zs_are
        ∙ ap (λ (es : List (PrefixValue × V)). own n.prefix value ++ (zs ++ es)) os_are))

    node_replaced : IsReplaced n.zero → IsReplaced n.one → IsReplaced index
    node_replaced zeros_are ones_are apart inside =
        let p = held.prefix in
        let Z = indices_at nodes n.zero in
        let O = indices_at nodes n.one in
        let zs = entries_at nodes values n.zero in
        let os = entries_at nodes values n.one in
        let val = value_at values index in
        let branching = at.branching in
        let apart_is = subst AreApart at.indices apart in
        elim (first_or_rest index (Z ++ O) q (subst (λ (ps : List ℕ). Contains ps q) at.indices inside)) [
          | inl here ↦ (
              let name : n.prefix ≡ p = ap (λ (m : Node). m.prefix) (same_Some n held (sym at.there ∙ (ap (slice_get nodes) (sym here) ∙ named))) in
              let away : Contains (Z ++ O) q → ⊥ = λ inside. apart_is.0 (subst (Contains (Z ++ O)) here inside) in
              let zeros = untouched n.zero at.zero_below (λ inside. away (Contains-append_left Z O q inside)) in
              let ones = untouched n.one at.one_below (λ inside. away (Contains-append_right Z O q inside)) in
              record {
                there = ap (find prefix_cmp p) es_is
                    ∙ (ap (λ (r : PrefixValue). find prefix_cmp r (own n.prefix val ++ (zs ++ os))) (sym name)
                    ∙ (find_here n.prefix val zs os node ∙ (ap (value_at values) (sym here) ∙ was)));
                entries = both new zs os (ap (value_at ws) (sym here) ∙ now) zeros.entries ones.entries
                    ∙ (sym (changed_here n.prefix val zs os node new)
                    ∙ (ap (λ (r : PrefixValue). changed r new (own n.prefix val ++ (zs ++ os))) name
                    ∙ ap (changed p new) (sym es_is)));
              })
          | inr below ↦ (
              let kept : value_at ws index ≡ val = others index (λ e. apart_is.0 (subst (Contains (Z ++ O)) (sym e) below)) in
              elim (Contains-append_cases Z O q below) [
                | inl left ↦ (
                    let r = zeros_are (left_apart Z O apart_is.1) left in
                    let ones = untouched n.one at.one_below (λ right. never_both Z O apart_is.1 q left right) in
                    let w = index_within nodes q held named n.zero at.zero_below n.prefix.address (middle n.prefix) n.prefix.len branching.zero left in
                    let some = positive p in
                    let to = w.to in
                    let early : p.address < middle n.prefix = omega arith in
                    record {
                      there = ap (find prefix_cmp p) es_is ∙ (find_early n.prefix val zs os node p (shorter_differs n.prefix p w.longer) early ∙ r.there);
                      entries = both val (changed p new zs) os kept r.entries ones.entries
                          ∙ (sym (changed_early n.prefix val zs os node p w new)
                          ∙ ap (changed p new) (sym es_is));
                    })
                | inr right ↦ (
                    let r = ones_are (right_apart Z O apart_is.1) right in
                    let zeros = untouched n.zero at.zero_below (λ left. never_both Z O apart_is.1 q left right) in
                    let w = index_within nodes q held named n.one at.one_below (middle n.prefix) (past n.prefix) n.prefix.len branching.one right in
                    record {
                      there = ap (find prefix_cmp p) es_is ∙ (find_late n.prefix val zs os node p (shorter_differs n.prefix p w.longer) w.from ∙ r.there);
                      entries = both val zs (changed p new os) kept zeros.entries r.entries
                          ∙ (sym (changed_late n.prefix val zs os node p w new)
                          ∙ ap (changed p new) (sym es_is));
                    })
              ])
        ]

  pub replaced : (index : ℕ) → IsTrieAt nodes index → AreApart (indices_at nodes index) → Contains (indices_at nodes index) q
      → Replaced nodes values ws held.prefix old new index
  replaced = by_trie nodes IsReplaced none_replaced node_replaced
