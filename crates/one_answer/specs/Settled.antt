-- Settled worlds of a laboratory in which no session has a timer.
use Rattle.std.specs.Prelude.{ℕ, ◌≡◌, ◌≢◌, ◌<◌, ◌+◌, min, false, List, ◌++◌, Some, None, slice_get}
use Rattle.std.specs.List.{flat_map}
use Rattle.std.specs.FinMap as map
use Rattle.bgp_types.specs.declared.message.SessionState.TheVariants.{OpenSent}
use Rattle.bgp_types.specs.declared.message.OpenMsg as open_type
use Rattle.bgp_types.specs.FirstFault.{message_of}
use Rattle.bgp_types.specs.Prefixes.{PrefixValue}
use Rattle.bgp_story.specs.Legal.{IsGot, open_in}
use Rattle.session_value.specs.Sessions.{SessionValue, state}
use Rattle.graft_model.specs.Setups.{Setup, PeeringSetup, keepalive_interval_of, groups_in, said_by, routers_in, peerings_in}
use Rattle.graft_model.specs.Parts.{Live, World}
use Rattle.graft_model.specs.OperatorRows.{placement}
use Rattle.graft_model.specs.Quiet.{Quiet}

-- all that a remote says by its opening and over the whole script
abbrev pub said_in_all : Setup → ℕ → PeeringSetup → List ℕ
said_in_all setup p peering = peering.opening ++ flat_map (said_by p) setup.steps

-- No hold time runs on a session, and no remote says a KEEPALIVE by a timer: of the hold times that a home session and the OPEN with which the
-- remote's bytes begin offer, one is 0 (RFC 4271, section 4.2).
pub record HasNoTimer (setup : Setup) : Type 0 where
  pub holds : (p : ℕ) (peering : PeeringSetup) (front rest : List ℕ) (opened : open_type.OpenMsg) → slice_get setup.peerings p ≡ Some peering
      → said_in_all setup p peering ≡ front ++ rest → IsGot front
      → open_in (message_of (record { state = OpenSent; remote_as = peering.config.remote_as; offered = peering.config.offered; wide = false }) front)
      ≡ Some opened
      → min peering.config.home_hold opened.hold ≡ 0
  pub beats : (p : ℕ) (peering : PeeringSetup) → slice_get setup.peerings p ≡ Some peering → keepalive_interval_of peering ≡ 0

-- the last group of the script is at its end
pub record IsSettled (setup : Setup) (w : World) : Type 0 where
  pub quiet : Quiet setup w
  pub last : w.operator.group + 1 ≡ groups_in setup

-- The same became of each graft.
abbrev pub HaveOneLog : World → World → Type 0
HaveOneLog w v = (k : ℕ) → v.operator.outcome k ≡ w.operator.outcome k

-- A peering's sessions, wherever they are: at the same router, in the same state, with the same routes heard and told.
pub record HaveOneSession (setup : Setup) (w v : World) (p : ℕ) : Type 0 where
  pub one : SessionValue
  pub other : SessionValue
  pub here : (w.router (placement setup w.operator p)).places p ≡ Live one None
  pub there : (v.router (placement setup v.operator p)).places p ≡ Live other None
  pub placed : placement setup v.operator p ≡ placement setup w.operator p
  pub states : state other ≡ state one
  pub adj_rib_in : other.adj_rib_in ≡ one.adj_rib_in
  pub adj_rib_out : (prefix : PrefixValue) → map.get other.adj_rib_out prefix ≡ map.get one.adj_rib_out prefix

-- Every router has the same best routes and was told the same, and every peering's session is the same but for its bytes.
pub record HaveOneAnswer (setup : Setup) (w v : World) : Type 0 where
  pub best : (r : ℕ) (prefix : PrefixValue) → r < routers_in setup → map.get (v.router r).best prefix ≡ map.get (w.router r).best prefix
  pub tellings : (r q : ℕ) (prefix : PrefixValue) → r < routers_in setup → q < routers_in setup → r ≢ q
      → map.get ((v.router q).tellings r) prefix ≡ map.get ((w.router q).tellings r) prefix
  pub sessions : (p : ℕ) → p < peerings_in setup → HaveOneSession setup w v p
