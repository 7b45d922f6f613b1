-- What lists of pieces hold.
use Rattle.std.proofs.Common.{◌≡◌, ℕ, zero, suc, ◌+◌, ◌-◌, ◌<◌, ◌≤◌, List, [], ◌∷◌, ◌++◌, length, take, drop, Some, None, refl, sym, ap, ◌∙◌, arith, get_or}
use Rattle.std.specs.Option.{option_or}
use Rattle.tcp_seq.specs.declared.state.Piece.{Piece}
use Rattle.tcp_reasm.specs.Runs.{held, AreRuns}
use Rattle.tcp_seq.specs.Endpoint.{byte_from}
use Rattle.tcp_seq.proofs.Lookups.{or_assoc}
use Rattle.tcp_seq.proofs.ByteFrom.{byte_below, byte_past, byte_within}

pub held-append : (ps qs : List Piece) (k : ℕ) → held (ps ++ qs) k ≡ option_or (held ps k) (held qs k)
held-append [] qs k = refl
held-append (p ∷ ps) qs k = ap (option_or (byte_from p.offset p.bytes k)) (held-append ps qs k)
    ∙ sym (or_assoc (byte_from p.offset p.bytes k) (held ps k) (held qs k))

pub held_below : (low : ℕ) (ps : List Piece) (k : ℕ) → AreRuns low ps → k < low → held ps k ≡ None
held_below low [] k runs below = refl
held_below low (p ∷ ps) k runs below =
    ap (λ o. option_or o (held ps k)) (byte_below p.offset p.bytes k (omega (arith, runs.0, below)))
    ∙ held_below (p.offset + length p.bytes) ps k runs.3 (omega (arith, runs.0, below))

pub runs-take : (low n : ℕ) (ps : List Piece) → AreRuns low ps → AreRuns low (take n ps)
runs-take low zero ps runs = tt
runs-take low (suc n) [] runs = tt
runs-take low (suc n) (p ∷ ps) runs = (runs.0, runs.1, runs.2, runs-take (p.offset + length p.bytes) n ps runs.3)

-- a lower bound
pub runs_from : (low high : ℕ) (ps : List Piece) → low ≤ high → AreRuns high ps → AreRuns low ps
runs_from low high [] le runs = tt
runs_from low high (p ∷ ps) le runs = (omega (arith, runs.0, le), runs.1, runs.2, runs.3)

pub runs-drop : (low n : ℕ) (ps : List Piece) → AreRuns low ps → AreRuns low (drop n ps)
runs-drop low zero ps runs = runs
runs-drop low (suc n) [] runs = tt
runs-drop low (suc n) (p ∷ ps) runs =
    runs_from low (p.offset + length p.bytes) (drop n ps) (omega (arith, runs.0)) (runs-drop (p.offset + length p.bytes) n ps runs.3)

-- what a piece holds where it stands in front
pub held_here : (p : Piece) (ps : List Piece) (k : ℕ) → p.offset ≤ k → k < p.offset + length p.bytes → held (p ∷ ps) k ≡ Some (get_or p.bytes (k - p.offset) 0)
held_here p ps k from below = ap (λ o. option_or o (held ps k)) (byte_within p.offset p.bytes k from below)

pub held_later : (p : Piece) (ps : List Piece) (k : ℕ) → p.offset + length p.bytes ≤ k → held (p ∷ ps) k ≡ held ps k
held_later p ps k past = ap (λ o. option_or o (held ps k)) (byte_past p.offset p.bytes k past)
