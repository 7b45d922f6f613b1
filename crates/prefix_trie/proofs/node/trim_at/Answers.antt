use Rattle.std.proofs.Common.{◌≡◌, ℕ, Some, None, sym, ◌∙◌, slice_get, arith, subst, inl, inr}
use Rattle.std.proofs.lemmas.Option.{slice_get_past, slice_get_within}
use Rattle.prefix_trie.specs.Trimming.{IsTrimmed}
use Rattle.prefix_trie.proofs.Dropped.{can_lead, linked}
use Rattle.prefix_trie.proofs.Standing.{way_leads}
use Rattle.prefix_trie.proofs.node.trim_at.Goals as goal

pub tidy-to-requires : goal.tidy-to-requires
tidy-to-requires g c =
    let a = c.args in
    let lead = way_leads a.nodes.now a.root a.prefix a.above a.at c.requires.way in
    can_lead a.nodes.now a.values.now a.free.now.items lead.0 a.root a.at c.requires.can lead.1

pub returns-in_default-clause-trimmed : goal.returns-in_default-clause-trimmed
returns-in_default-clause-trimmed g c =
    let a = c.args in
    let s = a in
    elim c.requires.way [
      | inl top ↦ subst (λ (from : ℕ). IsTrimmed a.nodes.now a.nodes.now a.values.now a.free.now.items c.tidy-to.new.free.items from c.tidy-to.result)
          top.1 c.tidy-to.ensures
      | inr b ↦ absurd (let e : None ≡ Some b.node = sym (sym c.copy_at.ensures ∙ c.in_default.is) ∙ b.there in cc)
    ]

pub set_node-requires : goal.set_node-requires
set_node-requires g c = slice_get_within c.args.nodes.now c.args.above c.in-Some.node (sym c.copy_at.ensures ∙ c.in-Some.is)

pub returns-clause-trimmed : goal.returns-clause-trimmed
returns-clause-trimmed g c =
    let a = c.args in
    let s = a in
    let n = c.in-Some.node in
    let there : slice_get a.nodes.now s.above ≡ Some n = sym c.copy_at.ensures ∙ c.in-Some.is in
    elim c.requires.way [
      | inl top ↦ absurd (
          let few = c.requires.can.few in
          let is = top.0 in
          let e : None ≡ Some n = sym (slice_get_past a.nodes.now s.above (omega (arith, few, is))) ∙ there in
          cc)
      | inr b ↦ linked a.nodes.now a.values.now a.free.now.items a.nodes.now c.tidy-to.new.free.items a.prefix a.root
          s.above s.at c.tidy-to.result c.requires.can b c.tidy-to.ensures c.set_node.new.nodes c.set_node.ensures.as_many
          c.set_node.ensures.others n c.linked.result there c.set_node.ensures.node c.linked.ensures
    ]
