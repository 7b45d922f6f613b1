-- What is got is at the front of bytes in one way.
use Rattle.std.proofs.Common.{◌≡◌, ℕ, List, [], ◌∷◌, ◌++◌, length, refl, sym, ap, ◌∙◌, arith, inl, inr}
use Rattle.std.specs.Prelude.{IsSome, Option, Some, None}
use Rattle.std.specs.List.{AllByRecursion, flat_map}
use Rattle.std.proofs.lemmas.List.{append_assoc}
use Rattle.bgp_types.specs.Header.{frame_at, header_fault}
use Rattle.bgp_types.proofs.FrameLaws.{header_same, front_frame, frame_is}
use Rattle.bgp_story.specs.Legal.{IsGot}

same_lengths : (f g x y : List ℕ) → length f ≡ length g → f ++ x ≡ g ++ y → f ≡ g
same_lengths [] [] x y l e = refl
same_lengths [] (b ∷ g) x y l e = absurd (omega (arith, l))
same_lengths (a ∷ f) [] x y l e = absurd (omega (arith, l))
same_lengths (a ∷ f) (b ∷ g) x y l e =
    let h : a ≡ b = cc in
    let rest = same_lengths f g x y (omega (arith, l)) cc in
    cc

abbrev front_of : Option (List ℕ × List ℕ) → List ℕ
front_of None = []
front_of (Some x) = x.0

same_front : (f g x y : List ℕ) → ◌≡◌ {A = Option (List ℕ × List ℕ)} (Some (f, x)) (Some (g, y)) → f ≡ g
same_front f g x y e = ap (λ (o : Option (List ℕ × List ℕ)). front_of o) e

none_is_some : {X : Type 0} (o : Option X) → o ≡ None → IsSome o → ⊥
none_is_some None e s = absurd cc
none_is_some (Some h) e s = absurd cc

-- no faulty header is the beginning of a whole frame
whole_or_faulty : (f g x y : List ℕ) → frame_at f ≡ Some (f, []) → length g ≡ 19 → IsSome (header_fault g) → f ++ x ≡ g ++ y → ⊥
whole_or_faulty f g x y e l s same =
    let h = frame_is f (f, []) e in
    none_is_some (header_fault g) (sym (header_same g y (omega (arith, l))) ∙ ap header_fault (sym same) ∙ header_same f x h.0 ∙ h.1) s

one_front : (f g x y : List ℕ) → IsGot f → IsGot g → f ++ x ≡ g ++ y → f ≡ g
one_front f g x y (inl e) (inl d) same =
    same_front f g x y (sym ((front_frame f (f, []) e).1 x) ∙ ap frame_at same ∙ (front_frame g (g, []) d).1 y)
one_front f g x y (inr e) (inr d) same = same_lengths f g x y (e.0 ∙ sym d.0) same
one_front f g x y (inl e) (inr d) same = absurd (whole_or_faulty f g x y e d.0 d.1 same)
one_front f g x y (inr e) (inl d) same = absurd (whole_or_faulty g f y x d e.0 e.1 (sym same))

-- ---- lists of what was got

abbrev pub joined : List (List ℕ) → List ℕ
joined fs = flat_map (λ f. f) fs

-- two ways to cut bytes are one, or one goes on where the other ends
pub data Cuts (fs gs : List (List ℕ)) (x y : List ℕ) : Type 0 where
  same : fs ≡ gs → Cuts fs gs x y
  first_ends : (g : List ℕ) (more : List (List ℕ)) → gs ≡ fs ++ g ∷ more → IsGot g → x ≡ g ++ (joined more ++ y) → Cuts fs gs x y
  second_ends : (f : List ℕ) (more : List (List ℕ)) → fs ≡ gs ++ f ∷ more → IsGot f → y ≡ f ++ (joined more ++ x) → Cuts fs gs x y

rest_same : (f x y : List ℕ) → f ++ x ≡ f ++ y → x ≡ y
rest_same [] x y e = e
rest_same (a ∷ f) x y e = rest_same f x y cc

both_same : (f g : List ℕ) (fs gs : List (List ℕ)) → f ≡ g → fs ≡ gs → f ∷ fs ≡ g ∷ gs
both_same f g fs gs e h = cc

one_more : (f g : List ℕ) (fs gs : List (List ℕ)) (x y : List ℕ) → f ≡ g → Cuts fs gs x y → Cuts (f ∷ fs) (g ∷ gs) x y
one_more f g fs gs x y e (same h) = same (both_same f g fs gs e h)
one_more f g fs gs x y e (first_ends h more d w k) = first_ends h more (both_same g f gs (fs ++ h ∷ more) (sym e) d) w k
one_more f g fs gs x y e (second_ends h more d w k) = second_ends h more (both_same f g fs (gs ++ h ∷ more) e d) w k

pub cuts_of : (fs gs : List (List ℕ)) (x y : List ℕ) → AllByRecursion IsGot fs → AllByRecursion IsGot gs → joined fs ++ x ≡ joined gs ++ y
    → Cuts fs gs x y
cuts_of [] [] x y h k e = same refl
cuts_of [] (g ∷ gs) x y h k e = first_ends g gs refl k.0 (e ∙ append_assoc g (joined gs) y)
cuts_of (f ∷ fs) [] x y h k e = second_ends f fs refl h.0 (sym e ∙ append_assoc f (joined fs) x)
cuts_of (f ∷ fs) (g ∷ gs) x y h k e =
    let flat : f ++ (joined fs ++ x) ≡ g ++ (joined gs ++ y) = sym (append_assoc f (joined fs) x) ∙ e ∙ append_assoc g (joined gs) y in
    let front = one_front f g (joined fs ++ x) (joined gs ++ y) h.0 k.0 flat in
    let behind = rest_same g (joined fs ++ x) (joined gs ++ y) (ap (λ z. z ++ (joined fs ++ x)) (sym front) ∙ flat) in
    one_more f g fs gs x y front (cuts_of fs gs x y h.1 k.1 behind)
