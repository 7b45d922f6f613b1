-- Segments in pieces.
use Rattle.std.proofs.Common.{◌≡◌, ℕ, zero, suc, ◌-◌, ◌<◌, ◌≤◌, List, [], ◌∷◌, ◌++◌, length, true, false, nat_le, refl, arith, ap, sym, subst, ◌∙◌}
use Rattle.std.specs.Prelude.{Result, Ok, Err, OnOk}
use Rattle.std.specs.List.{All}
use Rattle.std.proofs.lemmas.Bool.Decides.{nat_tests}
use Rattle.std.proofs.lemmas.List.{append_assoc, length-take}
use Rattle.std.proofs.lemmas.List.Elements.{All-push}
use Rattle.graft_edge.specs.declared.memory.NoMemory.{NoMemory}
use Rattle.captured_streams.proofs.Segments.{IsShort}
use Rattle.captured_streams.specs.declared.directed.Directed.{Directed}
use Rattle.captured_streams.specs.Directed.{behind, front, pieces}

-- a segment with more octets than a piece begins with one
pub pieces_more : (n : ℕ) (s : Directed) → 0 < n → 4096 < length s.segment.octets → front s ∷ pieces (n - 1) (behind s) ≡ pieces n s
pieces_more zero s some long = absurd (omega (arith, some))
pieces_more (suc n) s some long =
    let more : nat_le (length s.segment.octets) 4096 ≡ false = grind (arith, nat_tests) in
    let same : suc n - 1 ≡ n = omega arith in
    rw more (ap (λ (m : ℕ). front s ∷ pieces m (behind s)) same)

-- one with no more is a piece
pub one_piece : (n : ℕ) (s : Directed) → length s.segment.octets ≤ 4096 → s ∷ [] ≡ pieces n s
one_piece zero s short = refl
one_piece (suc n) s short =
    let few : nat_le (length s.segment.octets) 4096 ≡ true = grind (arith, nat_tests) in
    rw few refl

-- a piece that is pushed in front of the others, and the others
pub push_more : (r : Result (Unit {0}) NoMemory) (old mid new : List Directed) (one rest s : Directed) (n : ℕ) → 0 < n → 4096 < length s.segment.octets
    → one ≡ front s → rest ≡ behind s → mid ≡ old ++ one ∷ [] → OnOk r (new ≡ mid ++ pieces (n - 1) rest) → OnOk r (new ≡ old ++ pieces n s)
push_more (Ok _) old mid new one rest s n some long one_is rest_is pushed after =
    after ∙ ap (λ (m : List Directed). m ++ pieces (n - 1) rest) pushed ∙ append_assoc old (one ∷ []) (pieces (n - 1) rest)
    ∙ ap (λ (f : Directed). old ++ f ∷ pieces (n - 1) rest) one_is ∙ ap (λ (b : Directed). old ++ front s ∷ pieces (n - 1) b) rest_is
    ∙ ap (λ (all : List Directed). old ++ all) (pieces_more n s some long)
push_more (Err e) old mid new one rest s n some long one_is rest_is pushed after = tt

pub push_short : (r : Result (Unit {0}) NoMemory) (old mid new : List Directed) (one s : Directed) → one ≡ front s → IsShort s → mid ≡ old ++ one ∷ []
    → (All IsShort mid → OnOk r (All IsShort new)) → All IsShort old → OnOk r (All IsShort new)
push_short r old mid new one s one_is short pushed after all =
    let cut : IsShort one = subst IsShort (sym one_is) (omega (arith, length-take 4096 s.segment.octets, short)) in
    after (subst (All IsShort) (sym pushed) (All-push IsShort old one all cut))
