-- The OPEN that was got, past lines that get nothing.
use Rattle.std.proofs.Common.{◌≡◌, ℕ, zero, suc, ◌+◌, ◌<◌, List, [], ◌∷◌, length, drop, refl, ap, sym, subst, ◌∙◌, slice_index_or, arith}
use Rattle.bgp_story.specs.declared.line.Line.{Line}
use Rattle.bgp_story.specs.declared.line.Line.TheVariants.{Put, Got, Tick}
use Rattle.bgp_story.specs.Legal.{Peering, got_open}

abbrev pub GetsNothing : Line → Type 0
GetsNothing (Put _) = Unit {0}
GetsNothing (Got _) = ⊥
GetsNothing (Tick _) = Unit {0}

past : (p : Peering) (line : Line) (lines : List Line) → GetsNothing line → got_open p (line ∷ lines) ≡ got_open p lines
past p (Put message) lines none = refl
past p (Got bytes) lines none = absurd none
past p (Tick round) lines none = refl

-- a line that gets nothing leaves the OPEN to the lines behind it
pub open_later : (p : Peering) (lines : List Line) (i : ℕ) (line : Line) → i < length lines → line ≡ slice_index_or lines i line → GetsNothing line
    → got_open p (drop (i + 1) lines) ≡ got_open p (drop i lines)
open_later p [] i line lt at none = absurd (omega (arith, lt))
open_later p (y ∷ lines) zero line lt at none = sym (past p y lines (subst GetsNothing at none))
open_later p (y ∷ lines) (suc i) line lt at none =
    let next : suc i + 1 ≡ suc (i + 1) = omega arith in
    ap (λ (k : ℕ). got_open p (drop k (y ∷ lines))) next ∙ open_later p lines i line (omega (arith, lt)) at none
