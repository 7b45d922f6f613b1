-- ASes and parts of a path, one after another.
use Rattle.std.proofs.Common.{◌≡◌, ℕ, suc, ◌+◌, ◌-◌, ◌*◌, ◌<◌, ◌≤◌, List, [], ◌∷◌, ◌++◌, length, take, drop}
use Rattle.std.proofs.Common.{Option, Some, None, refl, sym, ap, ◌∙◌, arith, append_assoc}
use Rattle.std.specs.Int.{Width, byte_len, from_be_bytes}
use Rattle.std.proofs.Math.Nat.{suc-mul}
use Rattle.std.proofs.lemmas.List.{append-nil}
use Rattle.bgp_types.specs.declared.path.PathPart.{PathPart}
use Rattle.bgp_types.specs.Many.{many, many_within, if_whole}
use Rattle.bgp_types.specs.Merge.{join_parts, push_joined}
use Rattle.bgp_types.specs.PathOctets.{numbers}
use Rattle.bgp_types.proofs.ManyLaws.{after, after_stop}

pub room_more : (count i b len : ℕ) → i < count → (count - i) * b ≤ len → (count - (i + 1)) * b ≤ len - b
room_more count i b len lt h =
    let k : count - i ≡ suc (count - (i + 1)) = omega arith in
    let m : (count - i) * b ≡ (count - (i + 1)) * b + b = rw k (suc-mul (count - (i + 1)) b) in
    omega arith

numbers_more : (w : Width) (count i : ℕ) (bytes : List ℕ) → i < count
    → numbers w (count - i) bytes ≡ from_be_bytes w (take (byte_len w) bytes) ∷ numbers w (count - (i + 1)) (drop (byte_len w) bytes)
numbers_more w count i bytes lt = let k : count - i ≡ suc (count - (i + 1)) = omega arith in rw k refl

pub numbers_step : (w : Width) (count i : ℕ) (front bytes total : List ℕ) → i < count → front ++ numbers w (count - i) bytes ≡ total
    → (front ++ from_be_bytes w (take (byte_len w) bytes) ∷ []) ++ numbers w (count - (i + 1)) (drop (byte_len w) bytes) ≡ total
numbers_step w count i front bytes total lt so_far =
    append_assoc front (from_be_bytes w (take (byte_len w) bytes) ∷ []) (numbers w (count - (i + 1)) (drop (byte_len w) bytes))
    ∙ (sym (ap (λ (xs : List ℕ). front ++ xs) (numbers_more w count i bytes lt)) ∙ so_far)

-- a rest that is no further thing
pub stopped : {A : Type 0} (one : List ℕ → Option (A × List ℕ)) (front : List A) (bytes : List ℕ) (total : List A × List ℕ) → one bytes ≡ None
    → 0 < length bytes → after front (many one bytes) ≡ total → if_whole total.0 total.1 ≡ None
stopped {A} one front [] total e lt so_far = absurd (omega arith)
stopped {A} one front (b ∷ bytes) total e lt so_far = ap (λ (m : List A × List ℕ). if_whole m.0 m.1) (after_stop one front (b ∷ bytes) total e so_far)

-- no rest
pub finished : {A : Type 0} (one : List ℕ → Option (A × List ℕ)) (front : List A) (bytes : List ℕ) (total : List A × List ℕ) → length bytes ≡ 0
    → after front (many one bytes) ≡ total → if_whole total.0 total.1 ≡ Some front
unfolding many many_within
finished {A} one front [] total e so_far = ap (λ (m : List A × List ℕ). if_whole m.0 m.1) (sym so_far) ∙ ap Some (append-nil front)
finished {A} one front (b ∷ bytes) total e so_far = absurd (omega arith)

-- a part put after the last one
pub push_joined_last : (path : List PathPart) (last part : PathPart) → push_joined (path ++ last ∷ []) part ≡ path ++ join_parts last part
push_joined_last [] last part = refl
push_joined_last (first ∷ []) last part = refl
push_joined_last (first ∷ second ∷ path) last part = ap (λ (xs : List PathPart). first ∷ xs) (push_joined_last (second ∷ path) last part)
