-- A router: how it begins, and the contracts of its calls.
use Rattle.std.specs.Prelude.{ℕ, ◌≡◌, List, Option, false}
use Rattle.ring_net.specs.Deeds.{Deed}
use Rattle.graft_steps.specs.declared.item.Item.{Item}
use Rattle.router_core.specs.declared.place.Errand.{Errand}
use Rattle.bgp_session.specs.Running.{RunningSession}
use Rattle.graft_model.specs.Setups.{Setup}
use Rattle.graft_model.specs.Parts.{RouterPart}
use Rattle.graft_actors.specs.Acts.{OwnPart}
use Rattle.router_core.specs.Begins.{BeginsAs}
use Rattle.router_core.specs.Parts.{router_part, own_part}
use Rattle.router_core.specs.Places.{RunsAt}
use Rattle.router_core.specs.Takes.{TookAsRouter}
use Rattle.router_core.specs.Turned.{RouterTurned}
use Rattle.actor_configs.specs.declared.router.RouterConfig.{RouterConfig}
use Rattle.router_core.specs.declared.router as routers

-- a router's part of the world, by itself and as an actor
abbrev pub part_of_router : routers.Router.Router → RouterPart
part_of_router r = router_part r.fields

abbrev pub router_own_part : routers.Router.Router → OwnPart
router_own_part r = own_part r.fields

-- memory never ran out in one of its calls
abbrev pub RouterWorks : routers.Router.Router → Type 0
RouterWorks r = r.has_failed ≡ false

abbrev pub IsNewRouter : Setup → RouterConfig → routers.Router.Router → Type 0
IsNewRouter setup config router = BeginsAs setup config router.fields × RouterWorks router

-- what a take and a turn promise beside their events
abbrev pub took_by_router : routers.Router.Router → ℕ → Item RunningSession → List (Deed (Item RunningSession)) → routers.Router.Router → Type 0
took_by_router old from item deeds new = TookAsRouter old.fields from item deeds new.fields × RouterWorks new

abbrev pub turned_by_router : routers.Router.Router → List (Deed (Item RunningSession)) → routers.Router.Router → Type 0
turned_by_router old deeds new = RouterTurned old.fields deeds new.fields × RouterWorks new

-- ---- looks

-- a running session is live at the place for a peering
abbrev pub IsHeldAt : routers.Router.Router → ℕ → RunningSession → Type 0
IsHeldAt router p s = (o : Option Errand) × RunsAt router.fields.places.places p s o
