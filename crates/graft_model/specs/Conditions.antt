-- Terms for places and events in which the laws of conditions and of effects are stated, independent of the rows.
use Rattle.std.specs.Prelude.{ℕ, ◌+◌, ◌≡◌, ◌≢◌, ◌≤◌, ◌<◌, ◌⊎◌, List, length, filter, Bool, true, false, Some}
use Rattle.bgp_types.specs.declared.message.SessionState.TheVariants.{Established}
use Rattle.graft_steps.specs.declared.refusal.Refusal.{Refusal}
use Rattle.graft_steps.specs.declared.refusal.Refusal.TheVariants.{SameRouter, NotEstablished, HoldTooShort, RouterFull, PolicyMissing}
use Rattle.session_value.specs.Sessions.{SessionValue, state, hold_time}
use Rattle.graft_model.specs.Setups.{Setup, peering_numbers, peerings_in, room_of, missing_policy}
use Rattle.graft_model.specs.Parts.{Place, Vacant, Live, Frozen, Shadow, Leaving, RouterPart}

-- no session is live there: the place is vacant, holds a frozen session, or is the shadow of one that left
abbrev pub HasNoLive : Place → Type 0
HasNoLive Vacant = Unit {0}
HasNoLive (Live session errand) = ⊥
HasNoLive (Frozen session order) = Unit {0}
HasNoLive (Shadow graft) = Unit {0}

-- an established session is there, live or frozen
abbrev pub HasEstablished : Place → Type 0
HasEstablished Vacant = ⊥
HasEstablished (Live session errand) = state session ≡ Established
HasEstablished (Frozen session order) = state session ≡ Established
HasEstablished (Shadow graft) = ⊥

-- A session for which graft k is stored at the router r may be frozen: it is live and established, it is to go to another router, and its hold time
-- doesn't run or is at least 30 seconds.
pub record MayFreeze (r k : ℕ) (part : RouterPart) : Type 0 where
  pub peering : ℕ
  pub target : ℕ
  pub session : SessionValue
  pub live : part.places peering ≡ Live session (Some (Leaving (record { graft = k; target = target })))
  pub established : state session ≡ Established
  pub elsewhere : target ≢ r
  pub long : (hold_time session ≡ 0) ⊎ (30 ≤ hold_time session)

-- The reason why the router r doesn't freeze a session for a target: the target is r itself; or else the session isn't established; or else its hold
-- time runs and is below 30 seconds.
abbrev pub IsWhyNotFrozen : ℕ → ℕ → SessionValue → Refusal → Type 0
IsWhyNotFrozen r target session refusal =
    ((target ≡ r) × (refusal ≡ SameRouter))
    ⊎ (((target ≢ r) × (state session ≢ Established) × (refusal ≡ NotEstablished (state session)))
    ⊎ ((target ≢ r) × (state session ≡ Established) × (0 < hold_time session) × (hold_time session < 30) × (refusal ≡ HoldTooShort (hold_time session))))

abbrev pub is_vacant : Place → Bool
is_vacant Vacant = true
is_vacant (Live session errand) = false
is_vacant (Frozen session order) = false
is_vacant (Shadow graft) = false

-- the number of vacant places of a router
abbrev pub vacant_in : Setup → RouterPart → ℕ
vacant_in setup part = length (filter (λ p. is_vacant (part.places p)) (peering_numbers setup))

-- a router has room for one more session, beside those that it holds and those that left in a graft that hasn't ended
abbrev pub HasRoom : Setup → ℕ → RouterPart → Type 0
HasRoom setup r part = peerings_in setup < room_of setup r + vacant_in setup part

-- The reason why a session is turned back: there is no room; or there is, but the router lacks a policy that it names.
abbrev pub IsWhyNot : Setup → ℕ → RouterPart → SessionValue → Refusal → Type 0
IsWhyNot setup r part session refusal =
    ((¬ HasRoom setup r part) × (refusal ≡ RouterFull (room_of setup r)))
    ⊎ (HasRoom setup r part × (name : List ℕ) × (missing_policy setup r session.config ≡ Some name) × (refusal ≡ PolicyMissing name))
