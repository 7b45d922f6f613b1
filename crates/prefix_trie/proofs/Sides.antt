-- Two prefixes of which neither covers the other.
use Rattle.std.proofs.Common.{◌≡◌, ℕ, ◌<◌, ◌≤◌, subst, arith, inl, inr}
use Rattle.std.proofs.lemmas.Bool.{cases_lt}
use Rattle.bgp_types.specs.Prefixes.{PrefixValue, IsPrefix, Covers}
use Rattle.prefix_trie.specs.Halves.{past, IsFork}
use Rattle.prefix_trie.proofs.Halves.{positive, ends_before, covers_in}

pub fork_same : (a b c d : ℕ) (f : PrefixValue) → a ≡ b → c ≡ d → IsFork a c f → IsFork b d f
fork_same a b c d f e k fork = subst (λ (n : ℕ). IsFork n d f) e (subst (λ (n : ℕ). IsFork a n f) k fork)

module _ (at p : PrefixValue) (is_at : IsPrefix at) (is : IsPrefix p) (above : Covers at p → ⊥) (below : Covers p at → ⊥) where
  pub ends_first : p.address < at.address → past p ≤ at.address
  ends_first h = elim (cases_lt at.len p.len) [
    | inl less ↦ ends_before at p is_at is (omega arith) h
    | inr ge ↦ elim (cases_lt at.address (past p)) [
      | inl inside ↦ absurd (below (covers_in p at is ge (omega arith) inside))
      | inr apart ↦ apart
    ]
  ]

  pub begins_later : at.address ≤ p.address → at.address < p.address
  begins_later h = elim (cases_lt at.address p.address) [
    | inl less ↦ less
    | inr ge ↦ elim (cases_lt at.len p.len) [
      | inl shorter ↦ let pos = positive at in absurd (above (covers_in at p is_at (omega arith) h (omega arith)))
      | inr longer ↦ let pos = positive p in absurd (below (covers_in p at is longer ge (omega arith)))
    ]
  ]

  pub ends_later : at.address < p.address → past at ≤ p.address
  ends_later h = elim (cases_lt p.len at.len) [
    | inl less ↦ ends_before p at is is_at (omega arith) h
    | inr ge ↦ elim (cases_lt p.address (past at)) [
      | inl inside ↦ absurd (above (covers_in at p is_at ge (omega arith) inside))
      | inr apart ↦ apart
    ]
  ]
