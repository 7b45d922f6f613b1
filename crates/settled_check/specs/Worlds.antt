-- What is left to do in a world, and what the rests of its actors say about it.
use Rattle.std.specs.Prelude.{ℕ, ◌≡◌, ◌≢◌, ◌<◌, ◌≤◌, ◌↔◌, [], length, Option, None}
use Rattle.tcp_seq.specs.Endpoint.{Endpoint, received}
use Rattle.graft_steps.specs.declared.rest.Pending.{Pending}
use Rattle.graft_steps.specs.declared.rest.Pending.TheVariants.{Channel}
use Rattle.graft_steps.specs.declared.rest.RouterRest.{RouterRest}
use Rattle.graft_steps.specs.declared.rest.FarRest.{FarRest}
use Rattle.graft_steps.specs.declared.rest.OperatorRest.{OperatorRest}
use Rattle.session_value.specs.Sessions.{SessionValue}
use Rattle.graft_model.specs.Setups.{Setup, IsSetup, routers_in, peerings_in}
use Rattle.graft_model.specs.Parts.{Errand, Live, RouterPart, FarPart, OperatorPart, World}
use Rattle.graft_model.specs.Quiet.{Quiet}
use Rattle.graft_model.specs.Claims.{sessions_of}
use Rattle.graft_actors.specs.Actors.{actor_at}
use Rattle.graft_actors.specs.Seen.{channel_of, IsWithin}
use Rattle.settled_check.specs.Firsts.{IsFirstOf}
use Rattle.settled_check.specs.Named.{RouterNames, FarNames, OperatorNames}
use Rattle.settled_check.specs.Left.{LeftAtRouter, LeftAtFar, LeftToOperator}
use Rattle.settled_check.specs.Rests.{IsRouterRest, IsFarRest, IsOperatorRest}

-- something is on its way from an actor of one number to that of another
abbrev pub HasItemOnItsWay : Setup → World → ℕ → ℕ → Type 0
HasItemOnItsWay setup w a b = channel_of w (actor_at setup a) (actor_at setup b) ≢ []

abbrev pub LeftOnItsWay : Setup → World → Pending → Type 0
LeftOnItsWay setup w (Channel a b) = HasItemOnItsWay setup w a b
LeftOnItsWay setup w other = ⊥

-- a thing is left to do in a world: it is on its way, or it is left at a router or a far side, or to the operator
pub data IsLeft (setup : Setup) (w : World) (x : Pending) : Type 0 where
  OnItsWay : LeftOnItsWay setup w x → IsLeft setup w x
  AtRouter : (r : ℕ) → r < routers_in setup → LeftAtRouter r (w.router r) x → IsLeft setup w x
  AtFarSide : (p : ℕ) → p < peerings_in setup → LeftAtFar p (w.far p) x → IsLeft setup w x
  ToOperator : LeftToOperator setup w.operator x → IsLeft setup w x

-- what one endpoint knows to be received was received by the other, and is part of the first one's stream
pub record Fits (from to : Endpoint) : Type 0 where
  pub acked : from.acked ≤ received to
  pub received : received to ≤ length from.stream

-- each live session and its remote fit, both ways
abbrev pub StreamsFit : World → Type 0
StreamsFit w = (r p : ℕ) (session : SessionValue) (errand : Option Errand) → (w.router r).places p ≡ Live session errand
    → Fits session.end (w.far p).end × Fits (w.far p).end session.end

-- the rests of all actors that the setup has
pub record AreRests (setup : Setup) (w : World) (router : ℕ → RouterRest) (far : ℕ → FarRest) (operator : OperatorRest) : Type 0 where
  pub routers : (r : ℕ) → r < routers_in setup → IsRouterRest r (w.router r) (router r)
  pub far_sides : (p : ℕ) → p < peerings_in setup → IsFarRest p (w.far p) (far p)
  pub of_operator : IsOperatorRest setup w.operator operator

-- No rest names anything, and all channels are empty.
pub record NothingIsNamed (setup : Setup) (w : World) (router : ℕ → RouterRest) (far : ℕ → FarRest) (operator : OperatorRest) : Type 0 where
  pub routers : (r : ℕ) → r < routers_in setup → IsFirstOf (RouterNames (router r)) None
  pub far_sides : (p : ℕ) → p < peerings_in setup → IsFirstOf (FarNames (far p)) None
  pub of_operator : IsFirstOf (OperatorNames operator) None
  pub channels : (a b : ℕ) → ¬ HasItemOnItsWay setup w a b

-- What holds for each world of a run: its setup is sound, and nothing is outside of it; its streams fit; and each peering has a session.
pub record IsOnTheWay (setup : Setup) (w : World) : Type 0 where
  pub sound : IsSetup setup
  pub within : IsWithin setup w
  pub streams : StreamsFit w
  pub held : (p : ℕ) → p < peerings_in setup → sessions_of setup w p ≢ []

-- Nothing is left exactly in a quiet world.
abbrev pub QuietIsNothingLeft : Type 0
QuietIsNothingLeft = (setup : Setup) (w : World) → IsOnTheWay setup w → ((x : Pending) → ¬ IsLeft setup w x) ↔ Quiet setup w

-- The rests name nothing, and the channels are empty, exactly in a quiet world.
abbrev pub QuietIsFound : Type 0
QuietIsFound = (setup : Setup) (w : World) (router : ℕ → RouterRest) (far : ℕ → FarRest) (operator : OperatorRest) → IsOnTheWay setup w
    → AreRests setup w router far operator
    → NothingIsNamed setup w router far operator ↔ Quiet setup w

-- The first thing that an actor's rest names is the first one left to do in its part.
abbrev pub RouterRestsTell : Type 0
RouterRestsTell = (r : ℕ) (part : RouterPart) (rest : RouterRest) (answer : Option Pending) → IsRouterRest r part rest
    → IsFirstOf (RouterNames rest) answer → IsFirstOf (LeftAtRouter r part) answer

abbrev pub FarRestsTell : Type 0
FarRestsTell = (p : ℕ) (part : FarPart) (rest : FarRest) (answer : Option Pending) → IsFarRest p part rest → IsFirstOf (FarNames rest) answer
    → IsFirstOf (LeftAtFar p part) answer

abbrev pub OperatorRestsTell : Type 0
OperatorRestsTell = (setup : Setup) (part : OperatorPart) (rest : OperatorRest) (answer : Option Pending) → IsOperatorRest setup part rest
    → IsFirstOf (OperatorNames rest) answer → IsFirstOf (LeftToOperator setup part) answer
