-- Which refusal a graft gets at its source and at its target.
use Rattle.std.specs.Prelude.{ℕ, ◌==◌, ◌&&◌, Bool, nat_lt, nat_le, if◌then◌else◌, List, Option, Some, None}
use Rattle.std.specs.Option.{option_map}
use Rattle.graft_edge.specs.declared.ids.RouterId.{RouterId}
use Rattle.bgp_types.specs.declared.message.SessionState.{SessionState}
use Rattle.bgp_types.specs.declared.message.SessionState.TheVariants.{Established}
use Rattle.graft_steps.specs.declared.refusal.Refusal.{Refusal}
use Rattle.graft_steps.specs.declared.refusal.Refusal.TheVariants.{SameRouter, NotEstablished, HoldTooShort, RouterFull, PolicyMissing}

-- The hold timer runs, and may expire while the session moves. 0 means that none runs.
abbrev pub is_too_short : ℕ → Bool
is_too_short hold = nat_lt 0 hold && nat_lt hold 30

-- the refusal for a session that is to go to another router
abbrev pub session_refusal : SessionState → ℕ → Option Refusal
session_refusal Established hold = if is_too_short hold then Some (HoldTooShort hold) else None
session_refusal state hold = Some (NotEstablished state)

-- The source's refusal: the target is the source itself, or else the session isn't established, or else its hold time is too short.
abbrev pub freeze_refusal : RouterId → RouterId → SessionState → ℕ → Option Refusal
freeze_refusal source target state hold = if target.0 == source.0 then Some SameRouter else session_refusal state hold

-- The target's refusal: all its places are taken, or else it doesn't have a policy.
abbrev pub admit_refusal : ℕ → ℕ → Option (List ℕ) → Option Refusal
admit_refusal held room missing = if nat_le room held then Some (RouterFull room) else option_map PolicyMissing missing
