-- The slots of peerings, where one session more is put in.
use Rattle.std.proofs.Common.{◌≡◌, ◌≢◌, ◌<◌, ◌+◌, ℕ, true, false, cond, List, [], ◌∷◌, ◌++◌, Option, Some, None, map, length}
use Rattle.std.proofs.Common.{set, get_or, refl, sym, ap, ◌∙◌, inl, inr, arith, get_or-set_same, get_or-set_other}
use Rattle.std.specs.Prelude.{◌==◌, is_some}
use Rattle.std.specs.List.{range_with_len}
use Rattle.std.specs.Option.{option_or}
use Rattle.std.proofs.lemmas.Bool.Decides.{eqb_tells, nat_tests}
use Rattle.std.proofs.lemmas.List.{same_lists, length-set}
use Rattle.std.proofs.lemmas.List.Folds.{find-append}
use Rattle.std.proofs.lemmas.List.FromFn.{length-map-range_with_len, get_or-map-range_with_len}
use Rattle.lab_seen.specs.declared.found.Found.{Found}
use Rattle.lab_seen.specs.Found.{first_on}

nothing : {A : Type 0} (o : Option A) → is_some o ≡ false → o ≡ None
nothing None e = refl
nothing (Some x) e = absurd (let f : true ≡ false = e in cc)

-- something is in a slot
pub record IsFull (slots : List (Option Found)) (p : ℕ) : Type 0 where
  pub x : Option Found
  pub some : is_some (get_or slots p x) ≡ true

or_none : {A : Type 0} (o : Option A) → option_or o None ≡ o
or_none None = refl
or_none (Some x) = refl

itself : (p : ℕ) → (p == p) ≡ true
itself p = grind (arith, nat_tests)

-- what a slot has
slot_is : (found : List Found) (slots : List (Option Found)) (n k : ℕ) (d : Option Found) → slots ≡ map (first_on found) (range_with_len 0 n) → k < n
    → get_or slots k d ≡ first_on found k
slot_is found slots n k d is below =
    let index : 0 + k ≡ k = omega arith in
    ap (λ (xs : List (Option Found)). get_or xs k d) is ∙ get_or-map-range_with_len (first_on found) 0 n k k d below index

slots_in : (found : List Found) (slots : List (Option Found)) (n : ℕ) → slots ≡ map (first_on found) (range_with_len 0 n) → length slots ≡ n
slots_in found slots n is = ap length is ∙ length-map-range_with_len (first_on found) 0 n

module _ (found : List Found) (one : Found) where
  added : (k : ℕ) → first_on (found ++ one ∷ []) k ≡ option_or (first_on found k) (cond (one.peering.0 == k) (Some one) None)
  added k = find-append (λ x. x.peering.0 == k) found (one ∷ [])

  others : (k : ℕ) → one.peering.0 ≢ k → first_on (found ++ one ∷ []) k ≡ first_on found k
  others k apart = elim (eqb_tells one.peering.0 k) [
    | inl same ↦ absurd (apart same.1)
    | inr h ↦ added k ∙ ap (λ t. option_or (first_on found k) (cond t (Some one) None)) h.0 ∙ or_none (first_on found k)
  ]

  here : first_on found one.peering.0 ≡ None → first_on (found ++ one ∷ []) one.peering.0 ≡ Some one
  here none = added one.peering.0 ∙ ap (λ (o : Option Found). option_or o (cond (one.peering.0 == one.peering.0) (Some one) None)) none
      ∙ ap (λ t. cond t (Some one) None) (itself one.peering.0)

  stays : (y : Found) → first_on found one.peering.0 ≡ Some y → first_on (found ++ one ∷ []) one.peering.0 ≡ first_on found one.peering.0
  stays y some = added one.peering.0 ∙ ap (λ (o : Option Found). option_or o (cond (one.peering.0 == one.peering.0) (Some one) None)) some ∙ sym some

  module _ (slots : List (Option Found)) (n : ℕ) (is : slots ≡ map (first_on found) (range_with_len 0 n)) where
    -- it is put into its slot
    pub put_in : (p : ℕ) (x : Option Found) → p ≡ one.peering.0 → p < n → is_some (get_or slots p x) ≡ false
        → set slots p (Some one) ≡ map (first_on (found ++ one ∷ [])) (range_with_len 0 n)
    put_in p x same below none = same_lists (set slots p (Some one)) (map (first_on (found ++ one ∷ [])) (range_with_len 0 n))
        (length-set slots p (Some one) ∙ slots_in found slots n is ∙ sym (length-map-range_with_len (first_on (found ++ one ∷ [])) 0 n)) each
      where
        empty : first_on found one.peering.0 ≡ None
        empty = ap (first_on found) (sym same) ∙ sym (slot_is found slots n p x is below) ∙ nothing (get_or slots p x) none

        is_new : (k : ℕ) → p ≡ k → first_on (found ++ one ∷ []) k ≡ Some one
        is_new k e = ap (first_on (found ++ one ∷ [])) (sym e ∙ same) ∙ here empty

        each : (k : ℕ) (d : Option Found) → k < length (set slots p (Some one))
            → get_or (set slots p (Some one)) k d ≡ get_or (map (first_on (found ++ one ∷ [])) (range_with_len 0 n)) k d
        each k d within =
            let count = length-set slots p (Some one) ∙ slots_in found slots n is in
            let l : k < n = omega arith in
            let index : 0 + k ≡ k = omega arith in
            let right = get_or-map-range_with_len (first_on (found ++ one ∷ [])) 0 n k k d l index in
            elim (eqb_tells p k) [
              | inl e ↦ (let p_in : p < length slots = omega (arith, below, slots_in found slots n is) in
                  ap (λ j. get_or (set slots p (Some one)) j d) (sym e.1) ∙ get_or-set_same slots p (Some one) d p_in ∙ sym (is_new k e.1) ∙ sym right)
              | inr ne ↦ (let back : k ≢ p = λ e. ne.1 (sym e) in
                  get_or-set_other slots p k (Some one) d back ∙ slot_is found slots n k d is l ∙ sym (others k (λ e. ne.1 (same ∙ e))) ∙ sym right)
            ]

    -- or it is left out
    pub left_out : (p : ℕ) → p ≡ one.peering.0 → (p < n → IsFull slots p) → slots ≡ map (first_on (found ++ one ∷ [])) (range_with_len 0 n)
    left_out p same full = same_lists slots (map (first_on (found ++ one ∷ [])) (range_with_len 0 n))
        (slots_in found slots n is ∙ sym (length-map-range_with_len (first_on (found ++ one ∷ [])) 0 n)) each
      where
        kept : one.peering.0 < n → (o : Option Found) → first_on found one.peering.0 ≡ o
            → first_on (found ++ one ∷ []) one.peering.0 ≡ first_on found one.peering.0
        kept below None e =
            let p_in : p < n = omega (arith, below, same) in
            let there = full p_in in
            absurd (let f : false ≡ true = sym (ap is_some (slot_is found slots n p there.x is p_in ∙ ap (first_on found) same ∙ e)) ∙ there.some in cc)
        kept below (Some y) e = stays y e

        each : (k : ℕ) (d : Option Found) → k < length slots → get_or slots k d ≡ get_or (map (first_on (found ++ one ∷ [])) (range_with_len 0 n)) k d
        each k d within =
            let count = slots_in found slots n is in
            let l : k < n = omega arith in
            let index : 0 + k ≡ k = omega arith in
            let right = get_or-map-range_with_len (first_on (found ++ one ∷ [])) 0 n k k d l index in
            elim (eqb_tells one.peering.0 k) [
              | inl e ↦ (let below : one.peering.0 < n = omega (arith, l, e.1) in
                  slot_is found slots n k d is l ∙ ap (first_on found) (sym e.1) ∙ sym (kept below (first_on found one.peering.0) refl)
                  ∙ ap (first_on (found ++ one ∷ [])) e.1 ∙ sym right)
              | inr ne ↦ slot_is found slots n k d is l ∙ sym (others k ne.1) ∙ sym right
            ]
