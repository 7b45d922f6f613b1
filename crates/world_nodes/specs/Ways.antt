-- The way of a laboratory's net: rounds, each with a mark at its end, and the beginnings of groups.
use Rattle.std.specs.Prelude.{ℕ, ◌≡◌, ◌+◌, List, [], ◌∷◌, ◌++◌, true, Bool}
use Rattle.ring_net.specs.Phases.{View, IsNewNet, Marked, Levelled, NetPhase, Between}
use Rattle.graft_actors.specs.Acts.{acts}
use Rattle.graft_model.specs.Setups.{Setup, routers_in, peerings_in}
use Rattle.bgp_session.specs.Running.{carried}
use Rattle.world_runs.specs.Labs.{AreFirstActors}
use Rattle.world_runs.specs.Runs.{QuietAt}
use Rattle.world_nodes.specs.Edges.{AreEdgesOf}
use Rattle.world_nodes.specs.Nodes.{Mail, own, took, turned, paused}
use Rattle.world_nodes.specs.declared.node.Node.{Node}

-- the stand of a net: its actors, journals and channels, and its marks
pub record Stand : Type 0 where
  pub view : View Node Mail
  pub marks : List (List ℕ)

-- The stand at the beginning: all actors of the laboratory as they begin, with its edges, and one mark, of empty journals.
pub record IsFirstStand (setup : Setup) (a : Stand) : Type 0 where
  pub actors : List Node
  pub edges : List (ℕ × ℕ)
  pub first : AreFirstActors own setup actors
  pub are_edges : AreEdgesOf setup edges
  pub new : IsNewNet actors edges a.view
  pub marked : Marked a.view [] a.marks

-- One round: each actor takes what comes and makes its turn, and a mark follows.
pub record Round (a b : Stand) : Type 0 where
  pub phase : NetPhase own (acts carried) took turned a.view b.view
  pub marked : Marked b.view a.marks b.marks

-- At a mark all clocks are levelled, and the operator, which is the last actor, begins the next group or doesn't.
pub record Pause (k : ℕ) (a b : Stand) (answer : Bool) : Type 0 where
  pub level : View Node Mail
  pub levelled : Levelled a.view level
  pub between : Between own (acts carried) paused k level b.view answer
  pub marks : b.marks ≡ a.marks

-- The way from one stand to another, with the number of rounds of each group that has begun since, the current one last. A group begins only in a
-- quiet world.
pub data Way (setup : Setup) (a : Stand) : List ℕ → Stand → Type 0 where
  Here : Way setup a (0 ∷ []) a
  Rounds : (past : List ℕ) (n : ℕ) {b c : Stand} → Way setup a (past ++ n ∷ []) b → Round b c → Way setup a (past ++ (n + 1) ∷ []) c
  Groups : (rounds : List ℕ) {b c : Stand} → Way setup a rounds b → QuietAt own carried setup b.view
      → Pause (routers_in setup + peerings_in setup) b c true → Way setup a (rounds ++ 0 ∷ []) c
