-- What binary searches in rising pieces find.
use Rattle.std.proofs.Common.{◌≡◌, ℕ, zero, suc, ◌+◌, ◌<◌, ◌≤◌, Bool, true, false, List, [], ◌∷◌, length, get_or, sym, ap, ◌∙◌, arith}
use Rattle.std.specs.Prelude.{if◌then◌else◌}
use Rattle.std.specs.List.Sorted.{IsNonDecreasingBy, IsPartitionPoint}
use Rattle.tcp_seq.specs.declared.state.Piece.{Piece}
use Rattle.tcp_reasm.specs.Runs.{AreRuns}

at_above : (low : ℕ) (ps : List Piece) (j : ℕ) (d : Piece) → AreRuns low ps → j < length ps → low ≤ (get_or ps j d).offset
at_above low [] j d runs below = absurd (omega (arith, below))
at_above low (p ∷ ps) zero d runs below = runs.0
at_above low (p ∷ ps) (suc j) d runs below = omega (arith, runs.0, at_above (p.offset + length p.bytes) ps j d runs.3 (omega (arith, below)))

pub begins_rise : (low : ℕ) (ps : List Piece) → AreRuns low ps → IsNonDecreasingBy {X = Piece} (λ p. p.offset) ps
begins_rise low [] runs i j d le below = absurd (omega (arith, below))
begins_rise low (p ∷ ps) runs zero zero d le below = omega arith
begins_rise low (p ∷ ps) runs zero (suc j) d le below = omega (arith, at_above (p.offset + length p.bytes) ps j d runs.3 (omega (arith, below)))
begins_rise low (p ∷ ps) runs (suc i) zero d le below = absurd (omega (arith, le))
begins_rise low (p ∷ ps) runs (suc i) (suc j) d le below = begins_rise (p.offset + length p.bytes) ps runs.3 i j d (omega (arith, le)) (omega (arith, below))

pub ends_rise : (low : ℕ) (ps : List Piece) → AreRuns low ps → IsNonDecreasingBy {X = Piece} (λ p. p.offset + length p.bytes) ps
ends_rise low [] runs i j d le below = absurd (omega (arith, below))
ends_rise low (p ∷ ps) runs zero zero d le below = omega arith
ends_rise low (p ∷ ps) runs zero (suc j) d le below = omega (arith, at_above (p.offset + length p.bytes) ps j d runs.3 (omega (arith, below)))
ends_rise low (p ∷ ps) runs (suc i) zero d le below = absurd (omega (arith, le))
ends_rise low (p ∷ ps) runs (suc i) (suc j) d le below = ends_rise (p.offset + length p.bytes) ps runs.3 i j d (omega (arith, le)) (omega (arith, below))

-- the point up to which a test holds is the count of the first pieces that pass it
pub point_counts : (test : Piece → Bool) (count : List Piece → ℕ) → count [] ≡ 0
    → ((p : Piece) (ps : List Piece) → count (p ∷ ps) ≡ (if test p then suc (count ps) else 0))
    → (ps : List Piece) (i : ℕ) → i ≤ length ps → IsPartitionPoint {X = Piece} (λ p. test p ≡ true) (λ p. test p ≡ false) ps i → i ≡ count ps
point_counts test count none more [] zero within point = sym none
point_counts test count none more [] (suc i) within point = absurd (omega (arith, within))
point_counts test count none more (p ∷ ps) zero within point =
    sym (more p ps ∙ ap (λ b. if b then suc (count ps) else 0) (point.1 0 p (omega arith) (omega arith)))
point_counts test count none more (p ∷ ps) (suc i) within point =
    let rest : i ≡ count ps = point_counts test count none more ps i (omega (arith, within)) (
      (λ k d from below. point.0 (suc k) d (omega arith) (omega (arith, below))),
      (λ k d from below. point.1 (suc k) d (omega (arith, from)) (omega (arith, below))),
    ) in
    ap suc rest ∙ sym (more p ps ∙ ap (λ b. if b then suc (count ps) else 0) (point.0 0 p (omega arith) (omega arith)))
