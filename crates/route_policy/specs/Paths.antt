-- ASes put in front of paths (RFC 4271, section 5.1.2).
use Rattle.std.specs.Prelude.{ℕ, zero, suc, nat_lt, Bool, false, List, [], ◌∷◌, length, if◌then◌else◌}
use Rattle.bgp_types.specs.declared.path.PathPart.{PathPart}
use Rattle.bgp_types.specs.declared.path.PathPart.TheVariants.{Set, Sequence}

-- a path that begins with a sequence of fewer than 255 ASes
abbrev pub has_room_for_as : List PathPart → Bool
has_room_for_as (Sequence ases ∷ parts) = nat_lt (length ases) 255
has_room_for_as parts = false

-- a part with one more AS in front
abbrev pub with_as : ℕ → PathPart → PathPart
with_as as_number (Sequence ases) = Sequence (as_number ∷ ases)
with_as as_number (Set ases) = Set (as_number ∷ ases)

-- an AS is put in a leading sequence with room, else in a new sequence in front
abbrev pub prepend : ℕ → List PathPart → List PathPart
prepend as_number [] = Sequence (as_number ∷ []) ∷ []
prepend as_number (part ∷ parts) =
    if has_room_for_as (part ∷ parts) then with_as as_number part ∷ parts else Sequence (as_number ∷ []) ∷ (part ∷ parts)

abbrev pub prepend_times : ℕ → ℕ → List PathPart → List PathPart
prepend_times zero as_number path = path
prepend_times (suc n) as_number path = prepend as_number (prepend_times n as_number path)
