-- Offsets that have no byte.
use Rattle.std.proofs.Common.{◌≡◌, ℕ, ◌+◌, ◌<◌, ◌≤◌, List, [], ◌∷◌, length, fold, max, Bool, None, refl, sym, ap, subst, ◌∙◌, arith, inl, inr}
use Rattle.std.specs.Prelude.{IsSome, nat_lt, if◌then◌else◌}
use Rattle.std.specs.Bool.{OnTrue, OnFalse}
use Rattle.std.proofs.lemmas.Bool.{cases_lt, le-leb, lt-leb, lt-ltb, le-ltb}
use Rattle.tcp_seq.specs.declared.state.Piece.{Piece}
use Rattle.tcp_reasm.specs.Runs.{held, AreRuns}
use Rattle.tcp_end.specs.Filling.{end_from}
use Rattle.tcp_end.specs.Holes.{HasHole, IsCovered}
use Rattle.tcp_reasm.proofs.Held.{held_below, held_here, held_later}

-- the first offset from one on that no piece has
pub record IsFirstHole (ps : List Piece) (from hole : ℕ) : Type 0 where
  pub above : from ≤ hole
  pub none : held ps hole ≡ None
  pub covered : IsCovered ps from hole

end_above : (end : ℕ) (p : Piece) → end < p.offset → end_from end p ≡ end
end_above end p above = ap (λ b. if b then max end (p.offset + length p.bytes) else end) (lt-leb p.offset end above)

end_reached : (end : ℕ) (p : Piece) → p.offset ≤ end → end_from end p ≡ max end (p.offset + length p.bytes)
end_reached end p reaches = ap (λ b. if b then max end (p.offset + length p.bytes) else end) (le-leb p.offset end reaches)

-- pieces above an offset don't have it
end_stays : (low : ℕ) (ps : List Piece) (from : ℕ) → from < low → AreRuns low ps → fold end_from from ps ≡ from
end_stays low [] from below runs = refl
end_stays low (p ∷ ps) from below runs =
    ap (λ (n : ℕ). fold end_from n ps) (end_above from p (omega (arith, below, runs.0)))
    ∙ end_stays (p.offset + length p.bytes) ps from (omega (arith, below, runs.0)) runs.3

hole_later : (p : Piece) (ps : List Piece) (from hole : ℕ) → p.offset ≤ from → IsFirstHole ps (max from (p.offset + length p.bytes)) hole
    → IsFirstHole (p ∷ ps) from hole
hole_later p ps from hole reaches rest = record {
  above = omega (arith, rest.above);
  none = held_later p ps hole (omega (arith, rest.above)) ∙ rest.none;
  covered = λ k low high. elim (cases_lt k (p.offset + length p.bytes)) [
    | inl inside ↦ subst IsSome (sym (held_here p ps k (omega (arith, reaches, low)) inside)) refl
    | inr past ↦ subst IsSome (sym (held_later p ps k past)) (rest.covered k (omega (arith, low, past)) high)
  ];
}

pub first_hole : (low : ℕ) (ps : List Piece) (from : ℕ) → AreRuns low ps → IsFirstHole ps from (fold end_from from ps)
first_hole low [] from runs = record { above = omega arith; none = refl; covered = λ k low' high. absurd (omega (arith, low', high)) }
first_hole low (p ∷ ps) from runs = elim (cases_lt from p.offset) [
  | inl below ↦
      let front : AreRuns p.offset (p ∷ ps) = (omega arith, runs.1, runs.2, runs.3) in
      subst (IsFirstHole (p ∷ ps) from) (sym (end_stays p.offset (p ∷ ps) from below front))
      (record { above = omega arith; none = held_below p.offset (p ∷ ps) from front below; covered = λ k low' high. absurd (omega (arith, low', high)) })
  | inr reaches ↦
      subst (λ (n : ℕ). IsFirstHole (p ∷ ps) from (fold end_from n ps)) (sym (end_reached from p reaches))
      (hole_later p ps from _ reaches (first_hole (p.offset + length p.bytes) ps (max from (p.offset + length p.bytes)) runs.3))
]

pub hole_if : (ps : List Piece) (from to hole : ℕ) → from < to → IsFirstHole ps from hole → OnTrue (nat_lt hole to) (HasHole ps from to)
hole_if ps from to hole some is = elim (cases_lt hole to) [
  | inl below ↦ subst (λ (b : Bool). OnTrue b (HasHole ps from to)) (sym (lt-ltb hole to below)) (hole, is.above, below, is.none)
  | inr past ↦ subst (λ (b : Bool). OnTrue b (HasHole ps from to)) (sym (le-ltb hole to past)) tt
]

pub covered_if : (ps : List Piece) (from to hole : ℕ) → from < to → IsFirstHole ps from hole → OnFalse (nat_lt hole to) (IsCovered ps from to)
covered_if ps from to hole some is = elim (cases_lt hole to) [
  | inl below ↦ subst (λ (b : Bool). OnFalse b (IsCovered ps from to)) (sym (lt-ltb hole to below)) tt
  | inr past ↦ subst (λ (b : Bool). OnFalse b (IsCovered ps from to)) (sym (le-ltb hole to past)) (λ k low high. is.covered k low (omega (arith, high, past)))
]

pub first_hole_is : (ps : List Piece) (from end : ℕ) → AreRuns 0 ps → end ≡ fold end_from from ps → IsFirstHole ps from end
first_hole_is ps from end runs is = subst (IsFirstHole ps from) (sym is) (first_hole 0 ps from runs)
