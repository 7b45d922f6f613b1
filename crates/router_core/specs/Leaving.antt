-- The outcome of a stored graft.
use Rattle.std.specs.Prelude.{◌≡◌, Some, None, Option}
use Rattle.graft_steps.specs.Refusals.{freeze_refusal}
use Rattle.session_value.specs.Sessions.{state, hold_time}
use Rattle.graft_steps.specs.declared.order.GraftIds.{GraftIds}
use Rattle.router_core.specs.declared.place.Errand.TheVariants.{Leaving, Owing, Asking}
use Rattle.router_core.specs.declared.place.Place.{Place}
use Rattle.router_core.specs.declared.place.Place.TheVariants.{Live, Shadow}
use Rattle.router_core.specs.declared.stages.grafts.Begun.{Begun}
use Rattle.router_core.specs.declared.stages.grafts.Begun.TheVariants.{Nothing, Refused, Left}

-- A stored graft is refused exactly where the source has a reason; otherwise the session leaves in it.
abbrev pub BegunAs : Option Place → Begun → Option Place → Type 0
BegunAs (Some (Live s (Some (Leaving ids)))) (Refused named refusal) new = (named ≡ ids)
    × (freeze_refusal ids.source ids.target (state s.session) (hold_time s.session) ≡ Some refusal) × (new ≡ Some (Live s None))
BegunAs (Some (Live s (Some (Leaving ids)))) (Left named capsule) new = (named ≡ ids)
    × (freeze_refusal ids.source ids.target (state s.session) (hold_time s.session) ≡ None) × (capsule ≡ s) × (new ≡ Some (Shadow ids))
BegunAs (Some (Live s (Some (Leaving ids)))) Nothing new = ⊥
BegunAs (Some (Live s (Some (Owing landing)))) Nothing new = new ≡ Some (Live s (Some (Owing landing)))
BegunAs (Some (Live s (Some (Asking landing)))) Nothing new = new ≡ Some (Live s (Some (Asking landing)))
BegunAs (Some (Live s None)) Nothing new = new ≡ Some (Live s None)
BegunAs None Nothing new = new ≡ None
BegunAs (Some (Shadow away)) Nothing new = new ≡ Some (Shadow away)
BegunAs place begun new = ⊥

-- The order of a stored graft is taken, and the session then has no errand.
abbrev pub TakesOrder : Place → Option GraftIds → Place → Type 0
TakesOrder (Live s (Some (Leaving ids))) order new = (order ≡ Some ids) × (new ≡ Live s None)
TakesOrder (Live s (Some (Owing landing))) order new = (order ≡ None) × (new ≡ Live s (Some (Owing landing)))
TakesOrder (Live s (Some (Asking landing))) order new = (order ≡ None) × (new ≡ Live s (Some (Asking landing)))
TakesOrder (Live s None) order new = (order ≡ None) × (new ≡ Live s None)
TakesOrder (Shadow away) order new = (order ≡ None) × (new ≡ Shadow away)
