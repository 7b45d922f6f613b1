-- The first of several faults, in two parts.
use Rattle.std.proofs.Common.{◌≡◌, refl}
use Rattle.std.specs.Prelude.{Option, Some, None}
use Rattle.std.specs.Option.{option_or}

-- three, and then the rest
pub first_of_parts : {A : Type 0} (a b c rest : Option A)
    → option_or (option_or a (option_or b (option_or c None))) rest ≡ option_or a (option_or b (option_or c rest))
first_of_parts (Some x) b c rest = refl
first_of_parts None (Some x) c rest = refl
first_of_parts None None (Some x) rest = refl
first_of_parts None None None rest = refl
