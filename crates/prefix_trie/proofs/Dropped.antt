-- A trie of which a part was trimmed.
use Rattle.std.proofs.Common.{◌≡◌, ◌≢◌, ℕ, zero, suc, List, length, Option, Some, refl, sym, ap, subst, ◌∙◌, arith, slice_get, inl, inr}
use Rattle.std.proofs.lemmas.Option.{same_Some}
use Rattle.bgp_types.specs.Prefixes.{PrefixValue}
use Rattle.prefix_trie.specs.declared.node.Node.{Node}
use Rattle.prefix_trie.specs.Arena.{Leads}
use Rattle.prefix_trie.specs.Adding.{IsBelow, IsLinked}
use Rattle.prefix_trie.specs.Trimming.{CanTrim, IsTrimmed}
use Rattle.prefix_trie.proofs.Trimmed.{can_zero, can_one, still_zero, still_one, zero_trimmed, one_trimmed}

module _ {V : Type 0} (nodes : List Node) (values : List (Option V)) (free : List ℕ) where
  pub can_lead : (steps index q : ℕ) → CanTrim nodes free index → Leads nodes steps index q → CanTrim nodes free q
  unfolding Leads
  can_lead zero index q can lead = subst (λ (at : ℕ). CanTrim nodes free at) (sym lead) can
  can_lead (suc k) index q can lead = elim lead.2 [
    | inl left ↦ can_lead k (lead.0).zero q (can_zero nodes values free index lead.0 lead.1 can) left
    | inr right ↦ can_lead k (lead.0).one q (can_one nodes values free index lead.0 lead.1 can) right
  ]

  -- What was trimmed from a node down was trimmed of the trie.
  module _ (fs : List Node) (kept : List ℕ) (q : ℕ) (trimmed : IsTrimmed nodes fs values free kept q q) where
    lift_trimmed : (steps index : ℕ) → CanTrim nodes free index → Leads nodes steps index q → IsTrimmed nodes fs values free kept index index
    unfolding Leads
    lift_trimmed zero index can lead = subst (λ (at : ℕ). IsTrimmed nodes fs values free kept at at) lead trimmed
    lift_trimmed (suc k) index can lead =
        let n = lead.0 in
        let is = lead.1 in
        elim lead.2 [
          | inl left ↦
              let t = lift_trimmed k n.zero (can_zero nodes values free index n is can) left in
              zero_trimmed nodes values free index n is can fs fs kept n.zero refl
              (λ r e. refl) t (still_zero nodes values free index n is can fs kept n.zero t)
          | inr right ↦
              let t = lift_trimmed k n.one (can_one nodes values free index n is can) right in
              one_trimmed nodes values free index n is can fs fs kept n.one refl (λ r e. refl) t (still_one nodes values free index n is can fs kept n.one t)
        ]

  -- What stands where a prefix belongs was trimmed, below a node.
  module _ (gs : List Node) (kept : List ℕ) (p : PrefixValue) (root above at to : ℕ) (can : CanTrim nodes free root)
      (b : IsBelow nodes root p above at) (trimmed : IsTrimmed nodes gs values free kept at to) where
    can_here : CanTrim nodes free above
    can_here = can_lead b.steps root above can b.on

    as_zero : at ≡ b.node.zero → IsTrimmed nodes gs values free kept (b.node).zero to
    as_zero is = subst (λ (from : ℕ). IsTrimmed nodes gs values free kept from to) is trimmed

    as_one : at ≡ b.node.one → IsTrimmed nodes gs values free kept (b.node).one to
    as_one is = subst (λ (from : ℕ). IsTrimmed nodes gs values free kept from to) is trimmed

    -- the node above is as it was
    above_still : slice_get gs above ≡ Some b.node
    above_still = elim b.side [
      | inl early ↦ still_zero nodes values free above b.node b.there can_here gs kept to (as_zero early.1)
      | inr late ↦ still_one nodes values free above b.node b.there can_here gs kept to (as_one late.1)
    ]

    -- What it is once the node names what is left.
    pub linked : (fs : List Node) → length fs ≡ length gs → ((r : ℕ) → r ≢ above → slice_get fs r ≡ slice_get gs r) → (m k : Node)
        → slice_get gs above ≡ Some m → slice_get fs above ≡ Some k → IsLinked m p to k → IsTrimmed nodes fs values free kept root root
    linked fs many others m k is now link =
        let same : b.node ≡ m = same_Some b.node m (sym above_still ∙ is) in
        lift_trimmed fs kept above (elim (subst (λ (x : Node). IsLinked x p to k) (sym same) link) [
          | inl early ↦ elim b.side [
            | inl side ↦ zero_trimmed nodes values free above b.node b.there can_here gs fs kept to many others (as_zero side.1) (now ∙ ap Some early.1)
            | inr side ↦ absurd (let less = early.0 in let ge = side.0 in omega (arith, less, ge))
          ]
          | inr late ↦ elim b.side [
            | inl side ↦ absurd (let ge = late.0 in let less = side.0 in omega (arith, less, ge))
            | inr side ↦ one_trimmed nodes values free above b.node b.there can_here gs fs kept to many others (as_one side.1) (now ∙ ap Some late.1)
          ]
        ]) b.steps root can b.on
