-- What an item that is next is to a far side.
use Rattle.std.specs.Prelude.{ℕ, Bool, true, false, Option, Some, None}
use Rattle.graft_steps.specs.declared.item.Item.TheVariants as items
use Rattle.audit_ruling.specs.Rulings.{Parcel}

-- the step that it orders to be said, the graft of the landing that it tells of, and whether it is a segment
abbrev pub step_ordered : Option Parcel → Option ℕ
step_ordered (Some (items.SayOrder step)) = Some step
step_ordered next = None

abbrev pub graft_landed : Option Parcel → Option ℕ
graft_landed (Some (items.PointAt graft)) = Some graft
graft_landed next = None

abbrev pub is_segment : Option Parcel → Bool
is_segment (Some (items.Seg segment)) = true
is_segment next = false
