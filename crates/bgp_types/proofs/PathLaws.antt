-- Parts of a path, one after another.
use Rattle.std.proofs.Common.{◌≡◌, ℕ, ◌*◌, ◌<◌, List, [], ◌∷◌, length, drop, Option, Some, None, Bool, ltb, eqb, sym, ap, arith, length-drop}
use Rattle.std.specs.Prelude.{◌||◌}
use Rattle.std.specs.Int.{byte_len}
use Rattle.std.proofs.lemmas.Option.{same_Some}
use Rattle.bgp_types.specs.declared.path.PathPart.{PathPart}
use Rattle.bgp_types.specs.PathOctets.{as_width, numbers, path_part, with_rest, part_at}
use Rattle.bgp_types.proofs.ManyLaws.{Shortens, kept_out}

pub with_rest_is : {A : Type 0} (o : Option A) (rest : List ℕ) (x : A × List ℕ) → with_rest o rest ≡ Some x → x.1 ≡ rest
with_rest_is None rest x e = absurd cc
with_rest_is {A} (Some y) rest x e = ap (λ (z : A × List ℕ). z.1) (sym (same_Some (y, rest) x e))

part_shorter : (wide : Bool) (bytes : List ℕ) (x : PathPart × List ℕ) → part_at wide bytes ≡ Some x → length x.1 < length bytes
unfolding part_at
part_shorter wide [] x e = absurd cc
part_shorter wide (k ∷ []) x e = absurd cc
part_shorter wide (k ∷ c ∷ bytes) x e =
    let size = c * byte_len (as_width wide) in
    let h = kept_out ((eqb c 0) || ltb (length bytes) size) (with_rest (path_part k (numbers (as_width wide) c bytes)) (drop size bytes)) x e in
    rw (with_rest_is (path_part k (numbers (as_width wide) c bytes)) (drop size bytes) x h.1, length-drop size bytes) (omega arith)

pub part_shortens : (wide : Bool) → Shortens (part_at wide)
part_shortens wide = record { shorter = part_shorter wide }
