-- Lists of edges that grow by one at their end.
use Rattle.std.proofs.Common.{◌≡◌, ◌≢◌, ◌≤◌, ◌<◌, ℕ, Bool, true, false, List, [], ◌∷◌, ◌++◌, length, get_or, refl, ap, sym, ◌∙◌, arith, inl, inr, length-append}
use Rattle.std.specs.Prelude.{◌==◌, ◌&&◌, ◌||◌, ◌⊎◌}
use Rattle.std.proofs.Math.ListN.{get_or-append}
use Rattle.std.proofs.Math.Seq.{get_or-append_seam}
use Rattle.std.proofs.lemmas.Bool.Decides.{nat_tests}
use Rattle.std.proofs.lemmas.List.Folds.{list_any-append, list_any_at}
use Rattle.ring_net.specs.Phases.{is_edge}
use Rattle.ring_net.specs.Fresh.{AreEdges}

-- a list with one more has it at its end, and else what it had
at_index : (edges : List (ℕ × ℕ)) (e : ℕ × ℕ) (i : ℕ) → i < length (edges ++ e ∷ [])
    → ((i < length edges) × (get_or (edges ++ e ∷ []) i (0, 0) ≡ get_or edges i (0, 0))) ⊎ ((i ≡ length edges) × (get_or (edges ++ e ∷ []) i (0, 0) ≡ e))
at_index edges e i i_in = elim (below i (length edges)) [
  | inl l ↦ inl (l, get_or-append edges (e ∷ []) (0, 0) i l)
  | inr h ↦ let last : i ≡ length edges = omega (arith, h, i_in, length-append edges (e ∷ [])) in inr (last, rw last (get_or-append_seam edges e [] (0, 0)))
]
  where
    below : (i n : ℕ) → (i < n) ⊎ (n ≤ i)
    below i n = grind arith

-- what stands at an index of the list is an edge of it
stands_is_edge : (edges : List (ℕ × ℕ)) (i : ℕ) (e : ℕ × ℕ) → i < length edges → get_or edges i (0, 0) ≡ e → is_edge edges e.0 e.1 ≡ true
stands_is_edge edges i e i_in is = list_any_at (λ (x : ℕ × ℕ). x.0 == e.0 && x.1 == e.1) edges i (0, 0) i_in (rw is (both e.0 e.1))
  where
    both : (a b : ℕ) → (a == a && b == b) ≡ true
    both a b = grind (arith, nat_tests)

pub one_edge_more : (count : ℕ) (edges : List (ℕ × ℕ)) (a b : ℕ) → AreEdges count edges → a < count → b < count → a ≢ b → is_edge edges a b ≡ false
    → AreEdges count (edges ++ (a, b) ∷ [])
one_edge_more count edges a b are a_in b_in apart new = record {
  from = λ i i_in. elim (at_index edges (a, b) i i_in) [ inl h ↦ rw (h.1) (are.from i h.0) | inr h ↦ rw (h.1) a_in ];
  to = λ i i_in. elim (at_index edges (a, b) i i_in) [ inl h ↦ rw (h.1) (are.to i h.0) | inr h ↦ rw (h.1) b_in ];
  apart = λ i i_in. elim (at_index edges (a, b) i i_in) [ inl h ↦ rw (h.1) (are.apart i h.0) | inr h ↦ rw (h.1) apart ];
  once = λ i j i_in j_in same. elim (at_index edges (a, b) i i_in) [
    | inl h ↦ elim (at_index edges (a, b) j j_in) [
      | inl k ↦ are.once i j h.0 k.0 (sym h.1 ∙ same ∙ k.1)
      | inr k ↦ absurd (twice i h.0 (sym h.1 ∙ same ∙ k.1))
    ]
    | inr h ↦ elim (at_index edges (a, b) j j_in) [
      | inl k ↦ absurd (twice j k.0 (sym k.1 ∙ sym same ∙ h.1))
      | inr k ↦ h.0 ∙ sym k.0
    ]
  ];
}
  where
    twice : (i : ℕ) → i < length edges → get_or edges i (0, 0) ≡ (a, b) → ⊥
    twice i i_in is = let there : is_edge edges a b ≡ true = stands_is_edge edges i (a, b) i_in is in absurd (let e : true ≡ false = sym there ∙ new in cc)

-- which edges there are in a list with one more
pub edge_in_more : (edges : List (ℕ × ℕ)) (a b x y : ℕ) → is_edge (edges ++ (a, b) ∷ []) x y ≡ (is_edge edges x y || (a == x && b == y))
edge_in_more edges a b x y = list_any-append (λ (e : ℕ × ℕ). e.0 == x && e.1 == y) edges ((a, b) ∷ [])
    ∙ ap (λ t. is_edge edges x y || t) (or_false (a == x && b == y))
  where
    or_false : (t : Bool) → (t || false) ≡ t
    or_false true = refl
    or_false false = refl
