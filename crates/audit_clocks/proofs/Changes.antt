-- Stamps of one channel, changed.
use Rattle.std.proofs.Common.{◌≡◌, ℕ, ◌==◌, ◌&&◌, Bool, true, false, List, refl, sym, ap}
use Rattle.std.specs.Prelude.{if◌then◌else◌}
use Rattle.std.proofs.lemmas.Bool.{eqb-true}
use Rattle.item_channels.specs.Channels.{with_items}

-- one list by numbers was changed so
pub changed_at : (all : ℕ → ℕ → List ℕ) (change : List ℕ → List ℕ) (from to a b : ℕ)
    → with_items all from to (change (all from to)) a b ≡ (if a == from && b == to then change (all a b) else all a b)
changed_at all change from to a b = by_sender (a == from) refl where
  by_receiver : (t : Bool) → (b == to) ≡ t → a ≡ from → (if t then change (all from to) else all from b) ≡ (if t then change (all a b) else all a b)
  by_receiver true e same = λ i. change (all (sym same i) (sym (eqb-true b to e) i))
  by_receiver false e same = ap (λ (n : ℕ). all n b) (sym same)

  by_sender : (s : Bool) → (a == from) ≡ s
      → (let f : ℕ → List ℕ = if s then (λ c. if c == to then change (all from to) else all from c) else all a in f b)
      ≡ (if s && b == to then change (all a b) else all a b)
  by_sender true d = by_receiver (b == to) refl (eqb-true a from d)
  by_sender false d = refl
