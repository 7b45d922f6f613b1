-- Parameters and capabilities within the bytes of an OPEN.
use Rattle.std.specs.Prelude.{◌≡◌, List, ◌++◌, Option, Some, None, Result, Ok, Err}
use Rattle.bgp_types.specs.declared.message.Cap.{Cap}
use Rattle.bgp_types.specs.declared.message.Notice.{Notice}
use Rattle.bgp_types.specs.OpenBody.{open_fault}
use Rattle.bgp_wire.specs.declared.open.Item.{Item}

-- an item, regardless of where it is in memory
abbrev pub cap_of : Item → Cap
cap_of item = record { code = item.code; bytes = item.value.now }

-- the fault of capabilities that aren't whole
abbrev pub caps_fault : Option (List Cap) → Option Notice
caps_fault None = Some (open_fault 0)
caps_fault (Some caps) = None

-- the list with these capabilities after those that it had
abbrev pub AddsCaps : List Cap → List Cap → Option (List Cap) → Type 0
AddsCaps old new None = ⊥
AddsCaps old new (Some caps) = new ≡ old ++ caps

-- capabilities, followed by those that are read later
abbrev pub caps_after : List Cap → Result (List Cap) Notice → Result (List Cap) Notice
caps_after front (Ok caps) = Ok (front ++ caps)
caps_after front (Err n) = Err n
