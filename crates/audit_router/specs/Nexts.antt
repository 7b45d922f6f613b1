-- What an item that is next is to a router.
use Rattle.std.specs.Prelude.{ℕ, Bool, true, false, Option, Some, None}
use Rattle.graft_steps.specs.declared.item.Item.TheVariants as items
use Rattle.session_value.specs.declared.config.SessionConfig.{SessionConfig}
use Rattle.graft_model.specs.Parts.{GraftOrder}
use Rattle.audit_ruling.specs.Rulings.{Parcel}
use Rattle.audit_router.specs.declared.next.OfGraft.{OfGraft}
use Rattle.audit_router.specs.declared.next.Ordering.{Ordering}

-- what is noted of an order, and of a graft
abbrev pub order_of : Ordering → GraftOrder
order_of x = record { graft = x.graft; peering = x.peering.0; target = x.target.0 }

abbrev pub of_graft : OfGraft → ℕ × ℕ
of_graft x = (x.graft, x.peering.0)

abbrev pub is_segment : Option Parcel → Bool
is_segment (Some (items.Seg segment)) = true
is_segment next = false

-- the order of a graft
abbrev pub order_in : Option Parcel → Option GraftOrder
order_in (Some (items.GraftOrder graft peering target)) = Some (record { graft = graft; peering = peering.0; target = target.0 })
order_in next = None

-- the configuration of a session that moves here
abbrev pub coming_in : Option Parcel → Option SessionConfig
coming_in (Some (items.Moved graft capsule)) = Some capsule.session.config
coming_in next = None

-- the graft and the peering of a session that comes back, of a question, of an answer, and of word of a landing
abbrev pub back_in : Option Parcel → Option (ℕ × ℕ)
back_in (Some (items.Back graft capsule refusal)) = Some (graft, capsule.session.config.peering.0)
back_in next = None

abbrev pub asked_in : Option Parcel → Option (ℕ × ℕ)
asked_in (Some (items.Asked graft peering)) = Some (graft, peering.0)
asked_in next = None

abbrev pub answered_in : Option Parcel → Option (ℕ × ℕ)
answered_in (Some (items.Answered graft peering)) = Some (graft, peering.0)
answered_in next = None

abbrev pub done_in : Option Parcel → Option (ℕ × ℕ)
done_in (Some (items.Done graft peering)) = Some (graft, peering.0)
done_in next = None
