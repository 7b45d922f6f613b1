use Rattle.std.proofs.Common.{[], ◌∷◌, refl, Bool, true, false}
use Rattle.std.specs.Int.{w8, is_in_range}
use Rattle.capsule_bytes.specs.declared.parts.Side.{Side}
use Rattle.capsule_bytes.specs.declared.parts.Side.TheVariants.{Heard, Told}
use Rattle.capsule_bytes.specs.Fields.{number, flag}
use Rattle.capsule_bytes.specs.Capsules.{side_number}
use Rattle.capsule_bytes.proofs.Readings.{Extends, behind, exit}
use Rattle.capsule_bytes.proofs.lists.read_side.Goals as goal

sided : (b : Bool) → Extends (λ (side : Side). number w8 (is_in_range 0 1) (side_number side) ∷ []) [] (flag b ∷ [])
sided true = record { value = Told; after = []; is = refl }
sided false = record { value = Heard; after = []; is = refl }

pub returns-in_err-told : goal.returns-in_err-told
returns-in_err-told c =
    exit _ _ _ _ _ c.from_residual.ensures.1 (behind (λ b. flag b ∷ []) (λ (side : Side). number w8 (is_in_range 0 1) (side_number side)
    ∷ []) [] sided _ _ refl _
    c.in_err-told.ensures)
