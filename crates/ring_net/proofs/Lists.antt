-- Lists that are read past their end, and lists that begin others.
use Rattle.std.proofs.Common.{◌≡◌, ◌≤◌, ℕ, zero, suc, List, [], ◌∷◌, ◌++◌, length, get_or, take, drop, refl, ap, sym, ◌∙◌, arith, append_assoc}
use mathlib.Core.List.{IsPrefix}

-- a default at the end changes nothing
pub get_or-append_default : {X : Type 0} (xs : List X) (b : ℕ) (d : X) → get_or (xs ++ d ∷ []) b d ≡ get_or xs b d
get_or-append_default [] zero d = refl
get_or-append_default [] (suc b) d = refl
get_or-append_default (x ∷ xs) zero d = refl
get_or-append_default (x ∷ xs) (suc b) d = get_or-append_default xs b d

-- what was known ahead is taken, or still known
pub prefix_taken : {T : Type 0} (known taken ahead after : List T) (x : T) → IsPrefix known (taken ++ ahead) → IsPrefix ahead (x ∷ after)
    → IsPrefix known ((taken ++ x ∷ []) ++ after)
prefix_taken known taken ahead after x p q = (
  p.0 ++ q.0,
  sym (append_assoc known p.0 q.0) ∙ ap (λ s. s ++ q.0) p.1 ∙ append_assoc taken ahead q.0
      ∙ ap (λ s. taken ++ s) q.1 ∙ sym (append_assoc taken (x ∷ []) after),
)

-- where as many were taken as were known, all that was known was taken
pub prefix_within : {T : Type 0} (known taken ahead : List T) → IsPrefix known (taken ++ ahead) → length known ≤ length taken → IsPrefix known taken
prefix_within [] taken ahead p h = (taken, refl)
prefix_within (k ∷ ks) [] ahead p h = absurd (omega arith)
prefix_within (k ∷ ks) (t ∷ ts) ahead p h =
    let tails : ks ++ p.0 ≡ ts ++ ahead = cc p.1 in
    let rest = prefix_within ks ts ahead (p.0, tails) (omega arith) in
    (rest.0, cc (p.1, rest.1))

-- what a vector holds after its slice was written
pub written_back : {X : Type 0} (n : ℕ) (new old : List X) → n ≡ length old → length new ≡ length old → take n (new ++ drop (length new) old) ≡ new
written_back n [] [] h k = rw h refl
written_back n [] (y ∷ ys) h k = absurd (omega arith)
written_back n (x ∷ xs) [] h k = absurd (omega arith)
written_back n (x ∷ xs) (y ∷ ys) h k = rw h (ap (λ zs. x ∷ zs) (written_back (length ys) xs ys refl (omega arith)))
