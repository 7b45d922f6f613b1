-- What may stand next in octets, given what stands before: a way to read them, by which they are a capsule in one way at most.
use Rattle.std.proofs.Common.{◌≡◌, ℕ, ◌+◌, ◌<◌, ◌≤◌, Bool, true, false, List, [], ◌∷◌, ◌++◌, length, take, drop, refl, sym, ap, ◌∙◌, arith, append_assoc}
use Rattle.std.proofs.Common.{◌⊎◌, inl, inr, length-append}
use Rattle.std.specs.Prelude.{if◌then◌else◌, nat_lt}
use Rattle.std.proofs.lemmas.Bool.{false≢true, le-ltb, lt-ltb}
use Rattle.std.proofs.Math.Seq.{take-append_seam, drop-append_seam}
use Rattle.capsule_bytes.specs.Fields.{Field, IsRight, AreRight, spelled}
use Rattle.capsule_bytes.specs.Stops.{IsWrong}

-- nothing more, and these octets were that value; or a field of a size, of which some octets are allowed, and what may stand behind these
pub data Tree (R : Type 0) : Type 0 where
  End : (value : R) → Tree R
  Node : (size : ℕ) (allowed : List ℕ → Bool) (behind : List ℕ → Tree R) → Tree R

pub data Verdict (R : Type 0) : Type 0 where
  Ended : (value : R) (rest : List ℕ) → Verdict R
  CutAt : (place : ℕ) → Verdict R
  WrongAt : (place : ℕ) → Verdict R

pub verdict : {R : Type 0} → Tree R → List ℕ → ℕ → Verdict R
verdict (End value) octets place = Ended value octets
verdict (Node size allowed behind) octets place =
    if nat_lt (length octets) size then CutAt place
    else if allowed (take size octets) then verdict (behind (take size octets)) (drop size octets) (place + size)
    else WrongAt place

-- ---- fields along a tree

-- an empty field that can't be right
abbrev pub IsDead : Field → Type 0
IsDead field = (field.octets ≡ []) × (field.allowed [] ≡ false)

-- The fields are the way through the tree to this value, as far as they are right.
abbrev pub Walks : {R : Type 0} → Tree R → R → List Field → Type 0
Walks (End value) to [] = value ≡ to
Walks (End value) to (f ∷ fs) = IsDead f
Walks (Node size allowed behind) to [] = ⊥
Walks (Node size allowed behind) to (f ∷ fs) =
    IsDead f ⊎ ((length f.octets ≡ size) × (f.allowed ≡ allowed) × (IsRight f → Walks (behind f.octets) to fs))

pub Walks-dead : {R : Type 0} (tree : Tree R) (to : R) (f : Field) (fs : List Field) → IsDead f → Walks tree to (f ∷ fs)
Walks-dead (End value) to f fs dead = dead
Walks-dead (Node size allowed behind) to f fs dead = inl dead

dead_is_wrong : (f : Field) → IsDead f → IsRight f → ⊥
dead_is_wrong f dead right = false≢true (sym dead.1 ∙ ap f.allowed (sym dead.0) ∙ right.1)

-- the first field is there, and what is behind it counts
verdict-field : {R : Type 0} (size : ℕ) (allowed : List ℕ → Bool) (behind : List ℕ → Tree R) (octets rest : List ℕ) (place : ℕ) → length octets ≡ size
    → allowed octets ≡ true → verdict (Node size allowed behind) (octets ++ rest) place ≡ verdict (behind octets) rest (place + size)
unfolding verdict
verdict-field size allowed behind octets rest place long ok =
    let there : nat_lt (length (octets ++ rest)) size ≡ false = le-ltb (length (octets ++ rest)) size (omega (arith, length-append octets rest, long)) in
    let front : take size (octets ++ rest) ≡ octets = ap (λ (n : ℕ). take n (octets ++ rest)) (sym long) ∙ take-append_seam octets rest in
    let back : drop size (octets ++ rest) ≡ rest = ap (λ (n : ℕ). drop n (octets ++ rest)) (sym long) ∙ drop-append_seam octets rest in
    rw there (rw front (rw back (rw ok refl)))

-- the first field is there, and is wrong
pub verdict-wrong : {R : Type 0} (size : ℕ) (allowed : List ℕ → Bool) (behind : List ℕ → Tree R) (octets : List ℕ) (place : ℕ) → size ≤ length octets
    → allowed (take size octets) ≡ false → verdict (Node size allowed behind) octets place ≡ WrongAt place
unfolding verdict
verdict-wrong size allowed behind octets place there unfit = rw (le-ltb (length octets) size there) (rw unfit refl)

-- Behind right fields the verdict is that on what follows them.
pub record Reached {R : Type 0} (tree : Tree R) (to : R) (octets rest : List ℕ) (place from : ℕ) (fields : List Field) : Type 0 where
  pub left : Tree R
  pub walks : Walks left to fields
  pub same : verdict tree octets place ≡ verdict left rest from

pub reached : {R : Type 0} (tree : Tree R) (to : R) (before fields : List Field) (octets rest : List ℕ) (place : ℕ) → Walks tree to (before ++ fields)
    → AreRight before → octets ≡ spelled before ++ rest → Reached tree to octets rest place (place + length (spelled before)) fields
reached tree to [] fields octets rest place walks right is =
    let here : place ≡ place + length (spelled []) = omega arith in
    record { left = tree; walks = walks; same = ap (λ (o : List ℕ). verdict tree o place) is ∙ ap (λ (n : ℕ). verdict tree rest n) here }
reached (End value) to (f ∷ before) fields octets rest place walks right is = absurd (dead_is_wrong f walks right.0)
reached (Node size allowed behind) to (f ∷ before) fields octets rest place (inl dead) right is = absurd (dead_is_wrong f dead right.0)
reached {R} (Node size allowed behind) to (f ∷ before) fields octets rest place (inr walks) right is =
    let next = reached (behind f.octets) to before fields (spelled before ++ rest) rest (place + size) (walks.2 right.0) right.1 refl in
    let on : place + size + length (spelled before) ≡ place + length (f.octets ++ spelled before) =
    omega (arith, walks.0, length-append f.octets (spelled before)) in
    let ok : allowed f.octets ≡ true = ap (λ (g : List ℕ → Bool). g f.octets) (sym walks.1) ∙ right.0.1 in
    record {
      left = next.left;
      walks = next.walks;
      same = ap (λ (o : List ℕ). verdict (Node size allowed behind) o place) (is ∙ append_assoc f.octets (spelled before) rest)
          ∙ verdict-field size allowed behind f.octets (spelled before ++ rest) place walks.0 ok ∙ next.same
          ∙ ap (λ (n : ℕ). verdict next.left rest n) on;
    }

-- ---- the verdict on the field that is reached

pub cut : {R : Type 0} (tree : Tree R) (to : R) (f : Field) (fs : List Field) (rest : List ℕ) (place : ℕ) → Walks tree to (f ∷ fs)
    → length rest < length f.octets → verdict tree rest place ≡ CutAt place
unfolding verdict
cut (End value) to f fs rest place walks short = absurd (omega (arith, short, ap (λ (o : List ℕ). length o) walks.0))
cut (Node size allowed behind) to f fs rest place (inl dead) short = absurd (omega (arith, short, ap (λ (o : List ℕ). length o) dead.0))
cut (Node size allowed behind) to f fs rest place (inr walks) short = rw (lt-ltb (length rest) size (omega (arith, short, walks.0))) refl

pub wrong : {R : Type 0} (tree : Tree R) (to : R) (f : Field) (fs : List Field) (octets : List ℕ) (place : ℕ) → Walks tree to (f ∷ fs) → IsWrong f octets
    → verdict tree octets place ≡ WrongAt place
wrong (End value) to f fs octets place walks h = absurd (omega (arith, h.some, h.whole, ap (λ (o : List ℕ). length o) walks.0))
wrong (Node size allowed behind) to f fs octets place (inl dead) h = absurd (omega (arith, h.some, h.whole, ap (λ (o : List ℕ). length o) dead.0))
wrong (Node size allowed behind) to f fs octets place (inr walks) h =
    let front : take size octets ≡ h.found =
    ap (λ (o : List ℕ). take size o) h.octets_are ∙ ap (λ (n : ℕ). take n (h.found ++ h.rest)) (sym walks.0 ∙ sym h.whole)
    ∙ take-append_seam h.found h.rest in
    let long = length-append h.found h.rest in
    verdict-wrong size allowed behind octets place (omega (arith, ap (λ (o : List ℕ). length o) h.octets_are, long, walks.0, h.whole))
    (ap allowed front ∙ ap (λ (g : List ℕ → Bool). g h.found) (sym walks.1) ∙ h.wrong)

pub ended : {R : Type 0} (tree : Tree R) (to : R) (rest : List ℕ) (place : ℕ) → Walks tree to [] → verdict tree rest place ≡ Ended to rest
unfolding verdict
ended (End value) to rest place walks = ap (λ v. Ended v rest) walks
ended (Node size allowed behind) to rest place walks = absurd walks
