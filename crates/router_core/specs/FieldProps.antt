-- Proofs that a router is sound are unique.
use Rattle.std.specs.Prelude.{◌≡◌, false, Bool, ℕ, Some, None, Option}
use Rattle.std.proofs.Props.{props}
use Rattle.session_value.specs.Sets.{Entries, Prefixes}
use Rattle.graft_model.specs.Setups.{Setup}
use Rattle.router_core.specs.Parts.{RouterInvariant, KeepsPlace}
use Rattle.router_core.specs.declared.fields.Fields.{Fields}
use Rattle.router_core.specs.declared.place.Errand.TheVariants.{Leaving, Owing, Asking}
use Rattle.router_core.specs.declared.place.Place.{Place}
use Rattle.router_core.specs.declared.place.Place.TheVariants.{Live, Shadow}

KeepsPlace-prop : (setup : Setup) (r p : ℕ) (entries : Entries) (due : Prefixes) (place : Option Place) → IsProp (KeepsPlace setup r p entries due place)
KeepsPlace-prop setup r p entries due None = hlevel props
KeepsPlace-prop setup r p entries due (Some (Live running None)) = hlevel props
KeepsPlace-prop setup r p entries due (Some (Live running (Some (Leaving ids)))) = hlevel props
KeepsPlace-prop setup r p entries due (Some (Live running (Some (Owing landing)))) = hlevel props
KeepsPlace-prop setup r p entries due (Some (Live running (Some (Asking landing)))) = hlevel props
KeepsPlace-prop setup r p entries due (Some (Shadow away)) = hlevel props

pub RouterInvariant-prop-if : (b : Bool) (f : Fields) → IsProp (b ≡ false → RouterInvariant f)
RouterInvariant-prop-if b f = hlevel (props, KeepsPlace-prop)
