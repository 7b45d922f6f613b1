-- There is at most one next UPDATE.
use Rattle.std.proofs.Common.{◌≡◌, ℕ, ◌≤◌, ◌<◌, Bool, List, [], ◌∷◌, ◌++◌, append_assoc, append-nil, Option, refl, sym, ap, ◌∙◌, subst, arith}
use Rattle.bgp_types.specs.declared.attrs.Attrs.{Attrs}
use Rattle.bgp_types.specs.Prefixes.{PrefixValue}
use Rattle.session_value.specs.Sets.{Lists}
use Rattle.update_plan.specs.declared.batch.Batch.{Batch}
use Rattle.update_plan.specs.Plans.{IsNext, octets}
use Rattle.update_plan.proofs.Sizes.{one_more}
use Rattle.graft_model.proofs.Rising.{one_least, one_list}

-- ---- as many as there is room for

module _ (wide : Bool) (attrs : Option Attrs) where
  more_octets : (xs ys : List PrefixValue) → octets wide attrs xs ≤ octets wide attrs (xs ++ ys)
  more_octets xs [] = subst (λ (l : List PrefixValue). octets wide attrs xs ≤ octets wide attrs l) (sym (append-nil xs)) (omega arith)
  more_octets xs (y ∷ ys) =
      let one = one_more wide attrs xs y in
      let rest = subst (λ (l : List PrefixValue). octets wide attrs (xs ++ y ∷ []) ≤ octets wide attrs l)
      (append_assoc xs (y ∷ []) ys) (more_octets (xs ++ y ∷ []) ys) in
      at_least (octets wide attrs xs) (octets wide attrs (xs ++ y ∷ [])) (octets wide attrs (xs ++ y ∷ ys))
      (subst (λ n. octets wide attrs xs ≤ n) (sym one) (omega arith)) rest
    where
      at_least : (a b c : ℕ) → a ≤ b → b ≤ c → a ≤ c
      at_least a b c l m = omega arith

  too_many : (m n : ℕ) → 4096 < m → m ≤ n → n ≤ 4096 → ⊥
  too_many m n a b c = omega arith

  abbrev Whole : List PrefixValue → List PrefixValue → Type 0
  Whole prefixes later = (next : PrefixValue) (rest : List PrefixValue) → later ≡ next ∷ rest → 4096 < octets wide attrs (prefixes ++ next ∷ [])

  split_one : (front p p' later later' : List PrefixValue) → p ++ later ≡ p' ++ later' → octets wide attrs (front ++ p) ≤ 4096
      → octets wide attrs (front ++ p') ≤ 4096 → Whole (front ++ p) later → Whole (front ++ p') later' → p ≡ p'
  split_one front [] [] later later' e fits fits' whole whole' = refl
  split_one front [] (y ∷ p') later later' e fits fits' whole whole' =
      let over : 4096 < octets wide attrs (front ++ y ∷ []) =
      subst (λ (l : List PrefixValue). 4096 < octets wide attrs (l ++ y ∷ [])) (append-nil front) (whole y (p' ++ later') e) in
      let more = subst (λ (l : List PrefixValue). octets wide attrs (front ++ y ∷ []) ≤ octets wide attrs l)
      (append_assoc front (y ∷ []) p') (more_octets (front ++ y ∷ []) p') in
      absurd (too_many (octets wide attrs (front ++ y ∷ [])) (octets wide attrs (front ++ y ∷ p')) over more fits')
  split_one front (x ∷ p) [] later later' e fits fits' whole whole' =
      let over : 4096 < octets wide attrs (front ++ x ∷ []) =
      subst (λ (l : List PrefixValue). 4096 < octets wide attrs (l ++ x ∷ [])) (append-nil front) (whole' x (p ++ later) (sym e)) in
      let more = subst (λ (l : List PrefixValue). octets wide attrs (front ++ x ∷ []) ≤ octets wide attrs l)
      (append_assoc front (x ∷ []) p) (more_octets (front ++ x ∷ []) p) in
      absurd (too_many (octets wide attrs (front ++ x ∷ [])) (octets wide attrs (front ++ x ∷ p)) over more fits)
  split_one front (x ∷ p) (y ∷ p') later later' e fits fits' whole whole' =
      let head : x ≡ y = cc in
      let tail : p ++ later ≡ p' ++ later' = cc in
      let at : (q : List PrefixValue) → front ++ x ∷ q ≡ (front ++ x ∷ []) ++ q = λ q. sym (append_assoc front (x ∷ []) q) in
      let at' : (q : List PrefixValue) → front ++ y ∷ q ≡ (front ++ x ∷ []) ++ q = λ q. ap (λ (w : PrefixValue). front ++ w ∷ q) (sym head) ∙ at q in
      let same : p ≡ p' = split_one (front ++ x ∷ []) p p' later later' tail
      (subst (λ (l : List PrefixValue). octets wide attrs l ≤ 4096) (at p) fits) (subst (λ (l : List PrefixValue). octets wide attrs l ≤ 4096) (at' p') fits')
      (subst (λ (l : List PrefixValue). Whole l later) (at p) whole) (subst (λ (l : List PrefixValue). Whole l later') (at' p') whole') in
      cc

parts : (a b : Batch) → a.attrs ≡ b.attrs → a.prefixes ≡ b.prefixes → a ≡ b
parts a b e f = grind arith

pub next_one : (Is : PrefixValue → Type 0) (to_tell : PrefixValue → Option Attrs) (wide : Bool) (a b : Batch) → IsNext Is to_tell wide a
    → IsNext Is to_tell wide b → a ≡ b
next_one Is to_tell wide a b m n =
    let first : m.first ≡ n.first = one_least m.first n.first (n.least.least m.first m.least.is) (m.least.least n.first n.least.is) in
    let attrs : a.attrs ≡ b.attrs = m.told_first ∙ (ap to_tell first ∙ sym n.told_first) in
    let alike = subst (λ (v : Option Attrs). Lists (λ x. Is x × (to_tell x ≡ v)) (b.prefixes ++ n.later)) (sym attrs) n.alike in
    let lists : a.prefixes ++ m.later ≡ b.prefixes ++ n.later =
    one_list (λ x. Is x × (to_tell x ≡ a.attrs)) (a.prefixes ++ m.later) (b.prefixes ++ n.later) m.alike alike in
    let fits = subst (λ (v : Option Attrs). octets wide v b.prefixes ≤ 4096) (sym attrs) n.fits in
    let whole = subst (λ (v : Option Attrs).
    (next : PrefixValue) (rest : List PrefixValue) → n.later ≡ next ∷ rest → 4096 < octets wide v (b.prefixes ++ next ∷ [])) (sym attrs) n.whole in
    parts a b attrs (split_one wide a.attrs [] a.prefixes b.prefixes m.later n.later lists m.fits fits m.whole whole)
