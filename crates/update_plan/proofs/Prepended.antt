-- A path with one more AS in front, by its first ASes and the parts behind them.
use Rattle.std.proofs.Common.{◌≡◌, ℕ, nat_lt, List, [], ◌∷◌, length, true, false, refl}
use Rattle.std.specs.Prelude.{if◌then◌else◌}
use Rattle.bgp_types.specs.declared.path.PathPart.{PathPart}
use Rattle.bgp_types.specs.declared.path.PathPart.TheVariants.{Set, Sequence}
use Rattle.route_policy.specs.Paths.{prepend, with_as}
use Rattle.update_plan.specs.Passing.{first_ases, parts_behind}

pub prepended : (a : ℕ) (path : List PathPart) → prepend a path ≡ Sequence (a ∷ first_ases path) ∷ parts_behind path
prepended a [] = refl
prepended a (Set ases ∷ parts) = refl
prepended a (Sequence ases ∷ parts) =
    elim (nat_lt (length ases) 255) as (λ b. (if b then with_as a (Sequence ases) ∷ parts else Sequence (a ∷ []) ∷ (Sequence ases ∷ parts))
    ≡ Sequence (a ∷ (if b then ases else [])) ∷ (if b then parts else Sequence ases ∷ parts)) [
      | true ↦ refl
      | false ↦ refl
    ]

-- ---- its code
