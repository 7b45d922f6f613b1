-- The actors' parts of the world, and the items that go between them.
use Rattle.std.specs.Prelude.{ℕ, Bool, List, Option}
use Rattle.bgp_types.specs.declared.attrs.Route.{Route}
use Rattle.bgp_types.specs.Prefixes.{PrefixValue}
use Rattle.tcp_seq.specs.Endpoint.{Endpoint, PlacedSegment}
use Rattle.graft_steps.specs.declared.refusal.Refusal.{Refusal}
use Rattle.graft_steps.specs.declared.refusal.Outcome.{Outcome}
use Rattle.session_value.specs.Sessions.{SessionValue}
use Rattle.session_value.specs.Sets.{BestRoutes, Prefixes}
pub use Rattle.session_value.specs.Sets.{Entries, Tellings}
pub use Rattle.route_policy.specs.declared.entry.Entry.{Entry}

-- ---- a router

-- a graft that is ordered: its number and the router that the session is to go to
pub record Order : Type 0 where
  pub graft : ℕ
  pub target : ℕ

-- word of a landing that a router owes: the number of the graft, its source, and the next router to ask whether it has heard what was told, or the
-- one that was asked and hasn't answered
pub record Word : Type 0 where
  pub graft : ℕ
  pub source : ℕ
  pub next : ℕ

-- What a router still has to do for a graft whose session is live there: to send the session away, as ordered; or to ask the other routers, one after
-- another, and then to tell the source that the session has landed; or to wait for the answer of the router that it asked.
pub data Errand : Type 0 where
  Leaving : Order → Errand
  Owing : Word → Errand
  Asking : Word → Errand

-- the graft that it is for
abbrev pub graft_of : Errand → ℕ
graft_of (Leaving order) = order.graft
graft_of (Owing word) = word.graft
graft_of (Asking word) = word.graft

-- A router's place for a peering: vacant; with the live session, and its errand if it has one; with the session frozen for a graft, so that it can
-- only leave; or a shadow, since the session has left in a graft, with its routes kept until the graft has ended.
pub data Place : Type 0 where
  Vacant : Place
  Live : SessionValue → Option Errand → Place
  Frozen : SessionValue → Order → Place
  Shadow : (graft : ℕ) → Place

-- A home router: its places by peering; the entries by peering and by router; the best route to each prefix; the dirty prefixes; and those that are
-- due to be told to each router and on each peering.
pub record RouterPart : Type 0 where
  pub places : ℕ → Place
  pub entries : ℕ → Entries
  pub tellings : ℕ → Tellings
  pub best : BestRoutes
  pub dirty : Prefixes
  pub due_in : ℕ → Prefixes
  pub due_out : ℕ → Prefixes

-- ---- a far side

-- A far side: the remote's endpoint, the segments that the link holds each way, the router that the link points at and the graft
-- by which it was last pointed, and how often and in which round the remote said a KEEPALIVE by its timer.
pub record FarPart : Type 0 where
  pub end : Endpoint
  pub homeward : List PlacedSegment
  pub remoteward : List PlacedSegment
  pub pointer : ℕ
  pub followed : ℕ
  pub keepalives : ℕ
  pub last_keepalive : ℕ

-- ---- the operator

-- what an evacuate step gives for a graft that it may make: no graft, since its group hasn't begun or the session belongs elsewhere; the router that
-- the session is to go to; or that it stays at the router that is emptied, since no other one has a free place
pub data Gift : Type 0 where
  Unmade : Gift
  To : (target : ℕ) → Gift
  Stays : (router : ℕ) → Gift

-- The operator: the current group of the script; which says were ordered; what evacuate steps give for their grafts, by number; and the log of grafts
-- by number, with the router at which a graft was ordered and the outcome that was reported.
pub record OperatorPart : Type 0 where
  pub group : ℕ
  pub issued : ℕ → Bool
  pub given : ℕ → Gift
  pub source : ℕ → Option ℕ
  pub outcome : ℕ → Option Outcome

-- ---- items

-- from a router to a router: a route that is told, or that there is none; a session that moves, or comes back refused; the question whether all that
-- was told was heard, and the answer that it was; word that a session has landed, and that all other routers have heard its routes
pub data Mesh : Type 0 where
  Told : PrefixValue → Option Route → Mesh
  Moved : (graft peering : ℕ) → SessionValue → Mesh
  Back : (graft peering : ℕ) → SessionValue → Refusal → Mesh
  Asked : (graft peering : ℕ) → Mesh
  Answered : (graft peering : ℕ) → Mesh
  Done : (graft peering : ℕ) → Mesh

-- from a router to a far side: a segment, or word that the session landed here in this graft
pub data Outward : Type 0 where
  Seg : PlacedSegment → Outward
  PointAt : (graft : ℕ) → Outward

-- from the operator to a router
pub record GraftOrder : Type 0 where
  pub graft : ℕ
  pub peering : ℕ
  pub target : ℕ

-- from a router to the operator
pub record Report : Type 0 where
  pub graft : ℕ
  pub outcome : Outcome

-- ---- the world

-- The parts of all actors, and the channel from each to each other, its next item first. A far side sends routers segments, and the operator sends a
-- far side the numbers of the steps that it is to say.
pub record World : Type 0 where
  pub router : ℕ → RouterPart
  pub far : ℕ → FarPart
  pub operator : OperatorPart
  pub mesh : ℕ → ℕ → List Mesh
  pub outward : ℕ → ℕ → List Outward
  pub inward : ℕ → ℕ → List PlacedSegment
  pub orders : ℕ → List GraftOrder
  pub reports : ℕ → List Report
  pub says : ℕ → List ℕ
