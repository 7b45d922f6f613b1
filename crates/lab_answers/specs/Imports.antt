-- What the routers with a session's import policy make of announced routes.
use Rattle.std.specs.Prelude.{ℕ, ◌≡◌, ◌≤◌, List, [], ◌∷◌, Option, None, Some, option_map, take, drop, length}
use Rattle.std.specs.List.{filter_map, flat_map}
use Rattle.bgp_types.specs.declared.attrs.Attrs.{Attrs}
use Rattle.bgp_types.specs.declared.attrs.Route.{Route}
use Rattle.bgp_types.specs.declared.fault.Expected.{Expected}
use Rattle.bgp_types.specs.FirstFault.{message_of}
use Rattle.bgp_types.specs.Header.{frame_at}
use Rattle.bgp_types.specs.Prefixes.{PrefixValue}
use Rattle.bgp_story.specs.Readings.{update_in}
use Rattle.bgp_types.specs.declared.message.Update.{Update}
use Rattle.route_policy.specs.Policies.{policy}
use Rattle.route_policy.specs.declared.rule.Rule.{Rule}
use Rattle.even_inputs.specs.Announced.{announced_by}
use Rattle.even_inputs.specs.Evenness.{Med, med_of, announced_route}
use Rattle.lab_answers.specs.declared.imports.Imports.{Imports}

-- what a policy with these rules makes of a route, by its MED
abbrev pub let_in_by : Imports → PrefixValue → Route → List Rule → Option Med
let_in_by imports prefix route rules = option_map (med_of imports.home_as prefix) (policy rules prefix imports.remote_as route)

-- a route as it is, and as each policy lets it in
abbrev pub meds_of_route : Imports → PrefixValue → Route → List Med
meds_of_route imports prefix route = med_of imports.home_as prefix route ∷ filter_map (let_in_by imports prefix route) imports.policies

-- an announced route, so
abbrev pub meds_of : Imports → PrefixValue × Attrs → List Med
meds_of imports announced = meds_of_route imports announced.0 (announced_route announced.1)

-- the routes that UPDATEs announce, so
abbrev pub meds_of_updates : Imports → List Update → List Med
meds_of_updates imports updates = flat_map (meds_of imports) (flat_map announced_by updates)

-- the UPDATE that bytes are read as
abbrev pub update_in_frame : Expected → List ℕ → Option Update
update_in_frame expected frame = update_in (message_of expected frame)

-- the message at the front of bytes has this length; none where no whole one with a sound header stands there
abbrev pub IsFront : Option ℕ → List ℕ → Type 0
IsFront None bytes = None ≡ frame_at bytes
IsFront (Some n) bytes =
    (frame_at bytes ≡ Some (take n bytes, drop n bytes)) × (frame_at (take n bytes) ≡ Some (take n bytes, [])) × (19 ≤ n) × (n ≤ length bytes)
