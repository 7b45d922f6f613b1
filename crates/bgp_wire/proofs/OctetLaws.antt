-- Octets of lists that are put together.
use Rattle.std.proofs.Common.{ℕ, List, ◌++◌, length, refl, subst, inl, inr}
use Rattle.std.proofs.lemmas.Bool.{cases_lt}
use Rattle.std.proofs.lemmas.List.{take_at, drop_at, get_or_append_left, get_or-append_right}
use Rattle.bgp_types.specs.OctetLists.{AreOctets}
use Rattle.bgp_types.proofs.AttrLaws.{AreOctets-take, AreOctets-drop}

pub AreOctets-front : (xs ys : List ℕ) → AreOctets (xs ++ ys) → AreOctets xs
AreOctets-front xs ys octets = subst (λ (y : List ℕ). AreOctets y) (take_at xs ys (length xs) refl) (AreOctets-take (length xs) (xs ++ ys) octets)

pub AreOctets-back : (xs ys : List ℕ) → AreOctets (xs ++ ys) → AreOctets ys
AreOctets-back xs ys octets = subst (λ (y : List ℕ). AreOctets y) (drop_at xs ys (length xs) refl) (AreOctets-drop (length xs) (xs ++ ys) octets)

pub AreOctets-append : (xs ys : List ℕ) → AreOctets xs → AreOctets ys → AreOctets (xs ++ ys)
AreOctets-append xs ys front back i =
    elim (cases_lt i (length xs)) [
      | inl lt ↦ rw (get_or_append_left xs ys 0 i lt) (front i)
      | inr le ↦ rw (get_or-append_right xs ys (length xs) i 0 refl le) (back _)
    ]
