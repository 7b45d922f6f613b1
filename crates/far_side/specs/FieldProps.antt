-- Proofs that a far side is sound are unique.
use Rattle.std.specs.Prelude.{◌≡◌, false, Bool}
use Rattle.std.specs.List.{AllByRecursion-prop}
use Rattle.std.proofs.Props.{props}
use Rattle.far_side.specs.Parts.{FarSideInvariant}
use Rattle.far_side.specs.declared.fields.Fields.{Fields}

pub FarSideInvariant-prop-if : (b : Bool) (f : Fields) → IsProp (b ≡ false → FarSideInvariant f)
FarSideInvariant-prop-if b f = hlevel (props, AllByRecursion-prop)
