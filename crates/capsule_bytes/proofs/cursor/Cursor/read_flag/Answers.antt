use Rattle.std.proofs.Common.{[], ◌∷◌, refl, false}
use Rattle.capsule_bytes.specs.Fields.{flag}
use Rattle.capsule_bytes.proofs.Readings.{field_behind, exit}
use Rattle.capsule_bytes.proofs.cursor.Cursor.read_flag.Goals as goal

pub returns-in_err-n : goal.returns-in_err-n
returns-in_err-n c =
    exit _ _ _ _ _ c.from_residual.ensures.1 (field_behind (λ b. flag b ∷ []) [] false (flag false) [] refl _ _ refl _ (c.in_err-n.ensures.stops 0))
