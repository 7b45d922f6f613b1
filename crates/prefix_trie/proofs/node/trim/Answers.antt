use Rattle.std.proofs.Common.{◌≡◌, ◌≤◌, ℕ, List, Some, None, sym, ap, ◌∙◌, slice_get, length, arith, subst, inl, inr}
use Rattle.std.specs.Option.{option_copied}
use Rattle.std.proofs.lemmas.Option.{slice_get_past}
use Rattle.prefix_trie.specs.declared.node.Node.{Node}
use Rattle.prefix_trie.specs.Arena.{nowhere}
use Rattle.prefix_trie.specs.Trimming.{IsTrimmed}
use Rattle.prefix_trie.proofs.Apart.{left_apart}
use Rattle.prefix_trie.proofs.Kept.{way_kept}
use Rattle.prefix_trie.proofs.Trimmed.{both_trimmed}
use Rattle.prefix_trie.specs.Arena.{indices_at}
use Rattle.prefix_trie.proofs.node.trim.Goals as goal

nowhere_empty : (nodes : List Node) (index : ℕ) (n : Node) → length nodes ≤ nowhere → slice_get nodes index ≡ Some n → index ≡ nowhere → ⊥
nowhere_empty nodes index n few there is = let e : None ≡ Some n = sym (slice_get_past nodes index (omega (arith, few, is))) ∙ there in cc

pub trim_at-requires-clause-way : goal.trim_at-requires-clause-way
trim_at-requires-clause-way g c =
    let a = c.args in
    let s = a.spot in
    let fs = c.trim_at-begin.new.nodes in
    let there : slice_get fs s.above ≡ Some c.in-Some.node.now = sym c.node_at.ensures ∙ ap option_copied c.in-Some.is in
    let few : length fs ≤ nowhere = let few = c.requires.can.few in let many = c.trim_at-begin.ensures.trimmed.as_many in omega (arith, few, many) in
    let somewhere = nowhere_empty fs s.above c.in-Some.node.now few there in
    elim c.requires.upper [
      | inl no_index ↦ absurd (somewhere no_index)
      | inr way ↦ elim c.requires.spot.way [
        | inl top ↦ absurd (somewhere top.0)
        | inr b ↦ way_kept a.nodes.now fs a.root a.prefix s.grand s.above b.node b.there c.requires.can.trie
            (left_apart (indices_at a.nodes.now a.root) a.free.now.items c.requires.can.apart) c.trim_at-begin.ensures.others way
      ]
    ]

pub returns : goal.returns
returns g c =
    let a = c.args in
    let first = c.trim_at-begin in
    let there : slice_get first.new.nodes a.spot.above ≡ Some c.in-Some.node.now = sym c.node_at.ensures ∙ ap option_copied c.in-Some.is in
    let begins : first.result ≡ a.root = elim first.ensures.root [
      | inl none ↦ absurd (let e : None ≡ Some c.in-Some.node.now = sym none ∙ there in cc)
      | inr is ↦ is
    ] in
    both_trimmed a.nodes.now first.new.nodes c.trim_at.new.nodes a.values.now a.free.now.items
    first.new.free.items c.trim_at.new.free.items a.root a.root c.trim_at.result
    (subst (λ (to : ℕ). IsTrimmed a.nodes.now first.new.nodes a.values.now a.free.now.items first.new.free.items a.root to) begins first.ensures.trimmed)
    c.trim_at.ensures.trimmed
