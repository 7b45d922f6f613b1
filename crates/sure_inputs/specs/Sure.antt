-- Inputs whose script alone decides what becomes of its grafts.
use Rattle.std.specs.Prelude.{ℕ, ◌==◌, Bool, true, false, not, ◌&&◌, nat_le, List, Option, Some, None, take, length, slice_get}
use Rattle.std.specs.List.{enumerate_from, list_any, list_all}
use Rattle.std.specs.Str.{bytes_eq}
use Rattle.lab_tables.specs.declared.input.LabInput.{LabInput}
use Rattle.lab_tables.specs.declared.input.PeeringInput.{PeeringInput}
use Rattle.lab_tables.specs.declared.input.RouterInput.{RouterInput}
use Rattle.lab_tables.specs.declared.input.Step.{Step}
use Rattle.lab_tables.specs.declared.input.Step.TheVariants.{Raw, Graft, Evacuate}
use Rattle.lab_tables.specs.Peerings.{default_opening}
use Rattle.lab_tables.specs.Scripts.{is_settle_step}
use Rattle.lab_setup.specs.Setups.{setup_of}
use Rattle.even_inputs.specs.Timers.{has_no_timer}

-- a router has room for this many sessions
abbrev pub has_room_for : ℕ → RouterInput → Bool
has_room_for count router = nat_le count router.sessions

-- a step has the remote of this peering say octets that it names
abbrev pub is_raw_step : ℕ → Step → Bool
is_raw_step p (Raw peering bytes) = peering.0 == p
is_raw_step p _ = false

-- a remote begins with the OPEN of its own values and a KEEPALIVE
abbrev pub has_default_opening : PeeringInput → Bool
has_default_opening p = bytes_eq p.opening (default_opening p.remote_as p.hold p.remote_id p.remote_as4)

-- a remote says its default opening, and over the script nothing but UPDATEs of announce and withdraw steps
abbrev pub is_plain : List Step → ℕ → Option PeeringInput → Bool
is_plain steps p None = false
is_plain steps p (Some peering) = has_default_opening peering && not (list_any (is_raw_step p) steps)

-- A graft stands behind a settle, and its remote is plain; and no step empties a router.
abbrev pub is_sure_step : LabInput → ℕ → Step → Bool
is_sure_step input n (Graft peering target) =
    list_any is_settle_step (take n input.steps) && is_plain input.steps peering.0 (slice_get input.peerings peering.0)
is_sure_step input n (Evacuate router) = false
is_sure_step input n _ = true

-- Each router has room for all sessions, no session has a timer, and each step is sure.
abbrev pub is_sure : LabInput → Bool
is_sure input = list_all (has_room_for (length input.peerings)) input.routers && has_no_timer (setup_of input)
    && list_all (λ step. is_sure_step input step.0 step.1) (enumerate_from 0 input.steps)
