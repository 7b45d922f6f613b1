use Rattle.std.proofs.Common.{[], refl}
use Rattle.std.specs.Int.{w32}
use Rattle.capsule_bytes.specs.Fields.{any_number, text}
use Rattle.capsule_bytes.proofs.Checked.{text_reads}
use Rattle.capsule_bytes.proofs.Readings.{field_behind, exit}
use Rattle.capsule_bytes.proofs.cursor.Cursor.read_text.Goals as goal

pub returns-in_err-size : goal.returns-in_err-size
returns-in_err-size c =
    exit (text w32) _ _ _ _ c.from_residual.ensures.1 (field_behind (text w32) [] [] (any_number w32 0) _ refl _ _ refl _ (c.in_err-size.ensures.stops
    (any_number w32 0) refl))

pub returns : goal.returns
returns c =
    text_reads w32 c.in_ok-size.size c.in_ok-size.size refl _ _ _ c.in_ok-size.ensures.passed c.read_octets.result
    c.read_octets.ensures.size c.read_octets.ensures.passed c.read_octets.ensures.stops
