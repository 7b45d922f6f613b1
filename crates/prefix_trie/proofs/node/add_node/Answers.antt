use Rattle.std.proofs.Common.{◌≡◌, ℕ, Some, None, sym, ◌∙◌, slice_get, arith, subst, inl, inr}
use Rattle.std.proofs.lemmas.Option.{slice_get_past, slice_get_within}
use Rattle.prefix_trie.specs.Adding.{IsAdded}
use Rattle.prefix_trie.proofs.Standing.{can_lead, above_still, linked, way_leads}
use Rattle.prefix_trie.proofs.node.add_node.Goals as goal

pub add_at-added-requires-clause-can : goal.add_at-added-requires-clause-can
add_at-added-requires-clause-can c =
    let a = c.args in
    let lead = way_leads a.nodes.now a.root a.prefix a.spot.above a.spot.at c.requires.spot.way in
    can_lead a.nodes.now a.prefix a.fresh a.spare lead.0 a.root a.spot.at c.requires.can lead.1

pub returns-in_default : goal.returns-in_default
returns-in_default c =
    let a = c.args in
    let s = c.args.spot in
    let r = c.add_at-added.result in
    elim c.requires.spot.way [
      | inl top ↦ subst (λ (from : ℕ). IsAdded a.nodes.now c.add_at-added.new.nodes a.prefix a.fresh a.spare from r.root r.forked) top.1 c.add_at-added.ensures
      | inr b ↦ absurd (let e : None ≡ Some b.node = sym (sym c.copy_at.ensures ∙ c.in_default.is) ∙ above_still a.nodes.now
          c.add_at-added.new.nodes a.prefix a.fresh a.spare a.root s.above s.at r.root r.forked c.requires.can b c.add_at-added.ensures in cc)
    ]

pub set_node-requires : goal.set_node-requires
set_node-requires c = slice_get_within c.add_at-added.new.nodes c.args.spot.above c.in-Some.node (sym c.copy_at.ensures ∙ c.in-Some.is)

pub returns : goal.returns
returns c =
    let a = c.args in
    let s = c.args.spot in
    let r = c.add_at-added.result in
    let n = c.in-Some.node in
    let there : slice_get c.add_at-added.new.nodes s.above ≡ Some n = sym c.copy_at.ensures ∙ c.in-Some.is in
    elim c.requires.spot.way [
      | inl top ↦ absurd (
          let few = c.requires.can.few in
          let many = c.add_at-added.ensures.as_many in
          let is = top.0 in
          let e : None ≡ Some n = sym (slice_get_past c.add_at-added.new.nodes s.above (omega (arith, few, many, is))) ∙ there in
          cc)
      | inr b ↦ linked a.nodes.now c.add_at-added.new.nodes a.prefix a.fresh a.spare a.root s.above s.at r.root
          r.forked c.requires.can b c.add_at-added.ensures c.set_node.new.nodes c.set_node.ensures.as_many
          c.set_node.ensures.others n c.linked.result there c.set_node.ensures.node c.linked.ensures
    ]
