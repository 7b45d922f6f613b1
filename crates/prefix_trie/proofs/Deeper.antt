-- A node that is put where two prefixes part stands below each node above them.
use Rattle.std.proofs.Common.{◌≡◌, ℕ, ◌+◌, ◌/◌, ◌^◌, ◌<◌, ◌≤◌, ap, ◌∙◌, arith, inl, inr, ◌⊎◌}
use Rattle.std.proofs.lemmas.Bool.{cases_lt}
use Rattle.bgp_types.specs.Prefixes.{PrefixValue, IsPrefix}
use Rattle.prefix_trie.specs.Halves.{middle, past, Within, IsFork}
use Rattle.prefix_trie.proofs.Halves.{early_within, ends_before, ends_within, middle_le_past}

-- Where two addresses lie in one half of a prefix, they part at a longer one.
module _ (q f : PrefixValue) (a b : ℕ) (is : IsPrefix q) (fork : IsFork a b f) (from : q.address ≤ a) (to : b < past q) where
  half_same : f.address ≡ q.address → f.len ≡ q.len → middle f ≡ middle q
  half_same e k = ap (λ (n : ℕ). n + 2 ^ 31 / 2 ^ f.len) e ∙ ap (λ (n : ℕ). q.address + 2 ^ 31 / 2 ^ n) k

  pub deeper : (b < middle q) ⊎ (middle q ≤ a) → q.len < f.len
  deeper side =
      let early = fork.early in
      let late = fork.late in
      let start = fork.from in
      let end = fork.to in
      elim (cases_lt q.len f.len) [
        | inl less ↦ less
        | inr ge ↦ elim (cases_lt f.len q.len) [
          | inl shorter ↦ let within = early_within f q fork.is is shorter (omega arith) in absurd (omega arith)
          | inr same ↦ elim (cases_lt f.address q.address) [
            | inl before ↦ let apart = ends_before q f is fork.is (omega arith) before in absurd (omega arith)
            | inr later ↦ elim (cases_lt q.address f.address) [
              | inl after ↦ let apart = ends_before f q fork.is is (omega arith) after in absurd (omega arith)
              | inr none ↦
                  let e = half_same (omega arith) (omega arith) in
                  elim side [
                    | inl low ↦ absurd (omega (arith, e, low, late))
                    | inr high ↦ absurd (omega (arith, e, high, early))
                  ]
            ]
          ]
        ]
      ]

  -- In the first half, it is one of those below.
  pub fork_early : b < middle q → Within q.address (middle q) q.len f
  fork_early low =
      let longer = deeper (inl low) in
      let early = fork.early in
      let late = fork.late in
      let start = fork.from in
      let le = middle_le_past f fork.is.len in
      let front : q.address ≤ f.address = elim (cases_lt f.address q.address) [
        | inl before ↦ let apart = ends_before q f is fork.is (omega arith) before in absurd (omega arith)
        | inr none ↦ none
      ] in
      record { is = fork.is; longer = longer; from = front; to = early_within q f is fork.is longer (omega arith) }

  -- In the second half, it is one of those below.
  pub fork_late : middle q ≤ a → Within (middle q) (past q) q.len f
  fork_late high =
      let longer = deeper (inr high) in
      let early = fork.early in
      let start = fork.from in
      let le = middle_le_past f fork.is.len in
      let front : middle q ≤ f.address = elim (cases_lt f.address (middle q)) [
        | inl before ↦ let apart = early_within q f is fork.is longer before in absurd (omega arith)
        | inr none ↦ none
      ] in
      record { is = fork.is; longer = longer; from = front; to = ends_within q f is fork.is (omega arith) (let late = fork.late in omega arith) }
