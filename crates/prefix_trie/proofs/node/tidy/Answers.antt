use Rattle.std.proofs.Common.{◌≡◌, ℕ, None, sym, ◌∙◌, subst}
use Rattle.std.specs.Result.{is_ok}
use Rattle.prefix_trie.specs.Arena.{value_at}
use Rattle.prefix_trie.specs.Trimming.{IsTrimmed}
use Rattle.prefix_trie.proofs.Counts.{none_of}
use Rattle.prefix_trie.proofs.Trimmed.{lift_early, is_nowhere, lift_late, pushed}
use Rattle.prefix_trie.proofs.node.tidy.Goals as goal
use Rattle.prefix_trie.proofs.node.tidy.Goals.{then-node, else-node+then-node-2}

pub returns : goal.returns
returns g c =
    let a = c.args in
    let n = c.in-Some.node in
    let there = sym c.copy_at.ensures ∙ c.in-Some.is in
    let bare : value_at a.values.now a.index ≡ None = none_of (value_at a.values.now a.index) (sym c.has_value.ensures ∙ c.if-has_value.false) in
    let which = pushed (is_ok c.push.result) a.free.now.items c.push.new.self.items a.index c.push.ensures.items in
    elim c.if-node.branch [
      | then-node w ↦ subst (λ (to : ℕ). IsTrimmed a.nodes.now a.nodes.now a.values.now a.free.now.items c.push.new.self.items a.index to)
          (sym w.branch'-is) (lift_late a.nodes.now a.values.now a.free.now.items a.index n there c.push.new.self.items bare which c.requires
          (is_nowhere n.zero w.if-node.true))
      | else-node+then-node-2 w ↦ subst (λ (to : ℕ). IsTrimmed a.nodes.now a.nodes.now a.values.now a.free.now.items c.push.new.self.items a.index to)
          (sym w.branch'-is) (lift_early a.nodes.now a.values.now a.free.now.items a.index n there c.push.new.self.items bare which c.requires
          (is_nowhere n.one w.if-node-2.true))
    ]
