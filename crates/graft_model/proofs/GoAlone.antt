-- The kind of a Go is no other event's.
use Rattle.std.proofs.Common.{◌≡◌, ◌==◌, false, refl}
use Rattle.graft_model.specs.Codes.{router_code, far_code, operator_code}
use Rattle.graft_model.specs.declared.event.RouterEvent.{RouterEvent}
use Rattle.graft_model.specs.declared.event.RouterEvent.TheVariants.{Put}
use Rattle.graft_model.specs.declared.event.FarEvent.{FarEvent}
use Rattle.graft_model.specs.declared.event.FarEvent.TheVariants.{Say}
use Rattle.graft_model.specs.declared.event.OperatorEvent.TheVariants.{Go}

pub router_kind : (event : RouterEvent) → ((router_code event).kind == (operator_code Go).kind) ≡ false
router_kind (Put p n) = refl
router_kind _ = refl

pub far_kind : (event : FarEvent) → ((far_code event).kind == (operator_code Go).kind) ≡ false
far_kind (Say step) = refl
far_kind _ = refl
