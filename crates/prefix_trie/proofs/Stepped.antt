-- A prefix that covers another, and one that has no node.
use Rattle.std.proofs.Common.{◌≡◌, ◌≢◌, ℕ, List, ◌<◌, Option, Some, inl, inr, ◌∙◌, ap, sym, subst, arith, slice_get}
use Rattle.std.proofs.lemmas.Bool.{cases_lt}
use Rattle.std.specs.Prelude.{IfSome}
use Rattle.bgp_types.specs.Prefixes.{PrefixValue, IsPrefix, Covers, cleared}
use Rattle.prefix_trie.proofs.Levels.{at_node}
use Rattle.prefix_trie.specs.declared.node.Node.{Node}
use Rattle.prefix_trie.specs.Adding.{CanAdd}

same_parts : (p q : PrefixValue) → p.address ≡ q.address → p.len ≡ q.len → p ≡ q
same_parts p q e k = ap (λ (n : ℕ). record { address = n; len = p.len }) e ∙ ap (λ (n : ℕ). record { address = q.address; len = n }) k

-- a prefix that covers another is shorter
pub covers_shorter : (p at : PrefixValue) → IsPrefix at → Covers p at → at ≢ p → p.len < at.len
covers_shorter p at is covers differ = elim (cases_lt p.len at.len) [
  | inl less ↦ less
  | inr ge ↦
      let le = covers.shorter in
      let same : p.len ≡ at.len = omega arith in
      absurd (differ (same_parts at p (sym is.clear ∙ (ap (λ (n : ℕ). cleared n at.address) (sym same) ∙ covers.front)) (sym same)))
]

pub differs_there : (nodes : List Node) (p : PrefixValue) (fresh spare index : ℕ) (n : Node) → CanAdd nodes p fresh spare index
    → slice_get nodes index ≡ Some n → n.prefix ≢ p
differs_there nodes p fresh spare index n can there =
    subst (λ (o : Option Node). IfSome o (λ m. m.prefix ≢ p)) there (can.absent index (at_node nodes index n there can.trie).here)
