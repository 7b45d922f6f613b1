-- The two streams of a peering, and every segment of it, wherever it is.
use Rattle.std.specs.Prelude.{ℕ}
use Rattle.std.specs.List.{AllByRecursion}
use Rattle.tcp_seq.specs.Endpoint.{Endpoint, IsInStreams}
use Rattle.tcp_seq.specs.Connection.{IsEmittedBy, AreLinked}
use Rattle.session_value.specs.Sessions.{SessionValue}
use Rattle.session_value.specs.Ties.{IsOfStory}
use Rattle.graft_model.specs.Setups.{Setup}
use Rattle.graft_model.specs.Parts.{Outward, Seg, PointAt, World}
use Rattle.graft_laws.specs.Configs.{HasOwnConfig}
use Rattle.graft_laws.specs.Phases.{Phase}

-- an item that a router sent a far side: a segment that this endpoint emitted, or word of a landing
abbrev pub IsOutwardOf : Endpoint → Outward → Type 0
IsOutwardOf home (Seg segment) = IsEmittedBy home segment
IsOutwardOf home (PointAt graft) = Unit {0}

-- The endpoint of a peering's session and that of its remote are linked, wherever the session is. Each segment that is on its way to the remote, from
-- any router, is one that the session's endpoint emitted, and each that is on its way home is the remote's.
pub record Streams (w : World) (p : ℕ) (home : Endpoint) : Type 0 where
  pub linked : AreLinked home (w.far p).end
  pub outward : (r : ℕ) → AllByRecursion (IsOutwardOf home) (w.outward r p)
  pub remoteward : AllByRecursion (IsEmittedBy home) (w.far p).remoteward
  pub inward : (r : ℕ) → AllByRecursion (IsEmittedBy (w.far p).end) (w.inward p r)
  pub homeward : AllByRecursion (IsEmittedBy (w.far p).end) (w.far p).homeward

-- One unbroken session: it belongs to the peering, it is what its story tells, and its streams are linked with its remote's.
pub record IsUnbroken (setup : Setup) (w : World) (p : ℕ) (phase : Phase) (session : SessionValue) : Type 0 where
  pub own : HasOwnConfig setup w p phase session
  pub story : IsOfStory session
  pub streams : Streams w p session.end

-- an item whose places are within streams of at most 1 MiB, or a window at their end
abbrev pub IsPlaced : Outward → Type 0
IsPlaced (Seg segment) = IsInStreams segment
IsPlaced (PointAt graft) = Unit {0}

-- All segments of a peering have such places, in all links and channels.
pub record ArePlaced (w : World) (p : ℕ) : Type 0 where
  pub outward : (r : ℕ) → AllByRecursion IsPlaced (w.outward r p)
  pub remoteward : AllByRecursion IsInStreams (w.far p).remoteward
  pub inward : (r : ℕ) → AllByRecursion IsInStreams (w.inward p r)
  pub homeward : AllByRecursion IsInStreams (w.far p).homeward
